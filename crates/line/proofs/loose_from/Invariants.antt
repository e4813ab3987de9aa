-- `loose_from` meets its contract. The invariant: each of the lines from `from` to i is held; past the row none is.
use mathlib.Core.Path.{◌≡◌}
use Rattle.line.specs.Find.{loose_from}
use Rattle.line.proofs.loose_from.Given as goal

abbrev pub invariant-loop-i : goal.invariant-loop-i
invariant-loop-i l = loose_from l.lines l.i l.from ≡ l.i
