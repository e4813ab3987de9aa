-- `lowest_free` meets its contract. The invariant: none of the first i lines is free; past the row every line is.
use mathlib.Core.Path.{◌≡◌}
use Rattle.line.specs.Find.{lowest_free}
use Rattle.line.proofs.lowest_free.Given as goal

abbrev pub invariant-loop-i : goal.invariant-loop-i
invariant-loop-i l = lowest_free l.lines l.i ≡ l.i
