-- `writing::Source::put_blocks` meets its contract: j record blocks are written, and k is the leaf after the last of their records.
use mathlib.Core.Path.{refl, ◌∙◌}
use Prim.Native.Nat.{◌+◌, ◌*◌, ◌-◌}
use native.Mathlib.Omega.{arith}
use Rattle.laws.proofs.Put.{splice-is}
use Rattle.form.proofs.Records.{below_none}
use Rattle.writing.proofs.Blocks.{next-least}
use Rattle.writing.proofs.Blocks.{start, next-block}
use Rattle.writing.proofs.Source.put_blocks.Goals as goal

pub loop-j-init : goal.loop-j-init
loop-j-init c = start _ _ _ _ (below_none _ _)

pub loop-j-preserved : goal.loop-j-preserved
loop-j-preserved c = let a = c.args in
    let l = c.loop-j in
    let at = 512 * (l.j + 1) in
    let p = c.put_block-k in
    rw (splice-is l.output at 512 {y = p.new.row} {b = p.new.row} (omega (arith, l.invariant.long)) refl p.auto.row)
    (next-block a.output.now a.self.now.memory.now a.self.now.n a.self.now.m l.output l.j l.k l.invariant (omega arith) (omega arith) p.result c.min-count.result p.new.row (omega arith) (omega arith) (c.min-count.ensures ∙ next-least (a.self.now.m - 7 * l.j)) p.ensures.0 p.ensures.1 p.ensures.2)
