-- `lines_in` meets its contract. The invariant: the first i lines are the first i words of them.
use mathlib.Core.Path.{◌≡◌}
use lib.ListN.{replicate}
use Rattle.laws.specs.Bytes.{part, splice}
use Rattle.coding.proofs.lines_in.Given as goal

abbrev pub invariant-loop-i : goal.invariant-loop-i
invariant-loop-i l = l.line-items ≡ splice (replicate 64 0) 0 (part l.words 4 l.i)
