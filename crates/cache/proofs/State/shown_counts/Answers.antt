-- `shown_counts` meets its contract. The invariant: it is what the bits from level e on say of the block above.
use mathlib.Core.Path.{refl, sym, ◌∙◌}
use native.Mathlib.Numerals.{add-one}
use native.Mathlib.Omega.{arith}
use Rattle.geometry.specs.Shape.{top_of}
use Rattle.cache.specs.Seen.{seen}
use Rattle.cache.proofs.Refusals.{counts_up, counts-not, counts_all}
use Rattle.cache.proofs.State.shown_counts.Goals as goal

pub loop-e-init : goal.loop-e-init
loop-e-init c =
    let a = c.args in
    counts_all (seen a.self) a.bytes.now a.memory.now (top_of a.self.shape) a.k

pub returns-then-shown_bit-ne1 : goal.returns-then-shown_bit-ne1
returns-then-shown_bit-ne1 c =
    let a = c.args in
    sym (c.loop-e.invariant ∙ counts-not (seen a.self) a.bytes.now a.memory.now c.loop-e.e c.loop-e.i (top_of a.self.shape) (omega (arith, c.top-e-end.ensures)) (λ q. c.if-shown_bit-ne1.true (c.shown_bit.ensures ∙ q)))

pub loop-e-preserved : goal.loop-e-preserved
loop-e-preserved c =
    let a = c.args in
    c.loop-e.invariant
    ∙ counts_up (seen a.self) a.bytes.now a.memory.now c.loop-e.e c.loop-e.i (top_of a.self.shape) (omega (arith, c.top-e-end.ensures)) (sym c.shown_bit.ensures ∙ c.if-shown_bit-ne1.false)
    ∙ rw (add-one, c.map_block_of-i.ensures) refl
