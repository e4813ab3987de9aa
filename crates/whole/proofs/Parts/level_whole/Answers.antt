-- `level_whole` meets its contract: a level that the tracker does not keep asks for no line; the block of one that it keeps exists.
use mathlib.Core.Path.{sym, ◌∙◌}
use Prim.Native.Nat.{suc}
use native.Mathlib.Omega.{arith}
use Rattle.geometry.specs.Shape.{top_of}
use Rattle.geometry.specs.TagMemory.{index}
use Rattle.geometry.proofs.Levels.{index-lt, block_on-lt, blocks_of-most}
use Rattle.rules.proofs.Whole.{in_limits-of}
use Rattle.whole.proofs.Tests.{level-loose}
use Rattle.whole.proofs.Parts.level_whole.Goals as goal

pub returns-then-not-keeps_at : goal.returns-then-not-keeps_at
returns-then-not-keeps_at c =
    let s = c.args.self.now in
    sym (level-loose s.shape s.lines.now s.trackers.now c.args.x c.args.t c.args.e (sym c.keeps_at.ensures ∙ c.if-not-keeps_at.true))

pub overflow_cast-b : goal.overflow_cast-b
overflow_cast-b c =
    let s = c.args.self.now in
    let n = s.shape.n in
    let e = c.args.e in
    let there = block_on-lt n e (suc (top_of s.shape)) (index e c.args.t.group) (omega arith) (index-lt e n c.args.t.group (omega arith)) in
    omega (arith, c.block_over-b.ensures, there, blocks_of-most (top_of s.shape) n (in_limits-of s.shape s.in_limits))
