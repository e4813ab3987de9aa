-- Whether a block counts, level by level upwards: before each turn, what is left to ask is the whole answer.
use mathlib.Core.Path.{refl, sym, ap, ◌∙◌}
use Prim.Native.Nat.{◌+◌, ◌-◌}
use native.Mathlib.Omega.{arith}
use Rattle.memory.specs.PlainReading.{counts}
use Rattle.memory.proofs.Reading.{counts-top, counts-stop, counts_up}
use Rattle.memory.proofs.counts.Goals as goal

pub loop-c-init : goal.loop-c-init
loop-c-init c = refl

pub returns-then-bit_over-ne1 : goal.returns-then-bit_over-ne1
returns-then-bit_over-ne1 c =
    let a = c.args in
    let l = c.loop-c in
    sym (l.invariant ∙ counts-stop a.top l.c a.n a.memory.now l.j (omega arith) (λ q. c.if-bit_over-ne1.true (c.bit_over.ensures ∙ q)))

pub loop-c-preserved : goal.loop-c-preserved
loop-c-preserved c =
    let a = c.args in
    let l = c.loop-c in
    l.invariant
    ∙ counts_up a.top l.c a.n a.memory.now l.j (omega arith) (sym c.bit_over.ensures ∙ c.if-bit_over-ne1.false)
    ∙ ap (counts (a.top - (l.c + 1)) (l.c + 1) a.n a.memory.now) (sym c.map_block_of-j.ensures)

pub returns : goal.returns
returns c =
    let a = c.args in
    let l = c.loop-c in
    sym (l.invariant ∙ counts-top a.top l.c a.n a.memory.now l.j (omega arith))
