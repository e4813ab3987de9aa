-- The copy: before each turn the first 16 i bytes are the block's and the others as they came.
use mathlib.Core.Path.{◌≡◌}
use Prim.Native.Nat.{◌+◌, ◌*◌}
use native.Mathlib.Omega.{arith}
use Rattle.block.proofs.Blocks.{copied_none, copied_more, copied_all}
use Rattle.block.proofs.copy.Goals as goal

pub loop-i-init : goal.loop-i-init
loop-i-init c = (copied_none c.args.to.now c.args.from.now (omega arith) (omega arith), omega arith)

pub loop-i-preserved : goal.loop-i-preserved
loop-i-preserved c =
    let a = c.args in
    let l = c.loop-i in
    let z : 16 * (l.i + 1) ≡ 16 * l.i + 16 = omega arith in
    (rw z (copied_more a.to.now a.from.now (omega arith) (omega arith) (16 * l.i) (omega arith) l.invariant.0 c.copy_words.ensures), search)

pub returns : goal.returns
returns c =
    let l = c.loop-i in
    copied_all c.args.to.now c.args.from.now (omega arith) (omega arith) (16 * l.i) (omega arith) l.invariant.0
