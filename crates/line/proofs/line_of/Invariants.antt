-- `line_of` meets its contract. The invariant: none of the first i lines has the block; past the row every line is free.
use mathlib.Core.Path.{◌≡◌}
use Rattle.line.specs.Find.{line_of}
use Rattle.line.proofs.line_of.Given as goal

abbrev pub invariant-loop-i : goal.invariant-loop-i
invariant-loop-i l = line_of l.lines l.i l.b ≡ l.i
