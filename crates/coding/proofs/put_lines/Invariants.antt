-- `put_lines` meets its contract. The invariant: the first i lines are written.
use mathlib.Core.Path.{◌≡◌}
use lib.ListN.{take}
use Rattle.laws.specs.Bytes.{splice}
use Rattle.coding.proofs.put_lines.Given as goal

abbrev pub invariant-loop-i : goal.invariant-loop-i
invariant-loop-i l = l.words ≡ splice l.initial.words 4 (take l.i l.line-items)
