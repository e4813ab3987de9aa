-- `writing::Source::put_records` meets its contract: i records are written, and `next` is the leaf after the last of them.
use Rattle.writing.proofs.Blocks.{Written}
use Rattle.writing.proofs.Source.put_records.Given as goal

abbrev pub invariant-loop-i : goal.invariant-loop-i
invariant-loop-i l = Written l.initial.row l.self.memory.now l.self.n l.k l.row l.i l.next
