-- `writing::Source::put_records` meets its contract: i records are written, and `next` is the leaf after the last of them.
use mathlib.Core.Path.{ap, ◌∙◌}
use Prim.Native.Nat.{◌*◌}
use native.Mathlib.Omega.{arith}
use Rattle.block.specs.Block.{block_or0}
use Rattle.block.proofs.Blocks.{block_or0-fits}
use Rattle.writing.proofs.Blocks.{first-record, found-leaf, next-record}
use borrow.Author.Rules.{rules}
use Rattle.writing.proofs.Source.put_records.Goals as goal

pub loop-i-init : goal.loop-i-init
loop-i-init c = first-record _ _ _ _ (search rules)

pub loop-i-preserved : goal.loop-i-preserved
loop-i-preserved c = let a = c.args in
    let l = c.loop-i in
    let f = c.next_marked-found in
    let h = found-leaf a.row.now a.self.now.memory.now a.self.now.n a.k l.row l.i l.next a.count f.result l.invariant (omega arith) (omega arith) f.ensures.1 f.ensures.2 in
    let e = c.read_block-leaf.ensures ∙ ap (block_or0 a.self.now.memory.now) c.block_place.ensures ∙ block_or0-fits a.self.now.memory.now (64 * f.result) (omega arith) in
    let w = next-record a.row.now a.self.now.memory.now a.self.now.n a.k l.row l.i l.next a.count f.result l.invariant (omega arith) (omega arith) f.ensures.1 f.ensures.2 (f.ensures.3 h) (omega arith) (omega arith) c.read_block-leaf.result e in
    rw c.put_record.ensures w
