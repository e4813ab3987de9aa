-- `writing::Source::put_blocks` meets its contract: j record blocks are written, and k is the leaf after the last of their records.
use Rattle.writing.proofs.Blocks.{Progress}
use Rattle.writing.proofs.Source.put_blocks.Given as goal

abbrev pub invariant-loop-j : goal.invariant-loop-j
invariant-loop-j l = Progress l.initial.output l.self.memory.now l.self.n l.self.m l.output l.j l.k
