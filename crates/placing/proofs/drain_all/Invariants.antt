-- `drain_all` meets its contract: the loop's invariant says that the first i lines are drained.
use Rattle.placing.specs.Lines.{rows}
use Rattle.placing.proofs.Ways.{Draining}
use Rattle.placing.proofs.drain_all.Given as goal

abbrev pub invariant-loop-i : goal.invariant-loop-i
invariant-loop-i l = Draining l.l l.i (rows l.initial.lines l.bytes l.initial.memory) l.copies l.lines l.memory
