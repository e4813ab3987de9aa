-- `output::digits` meets its contract: what is left to read from here gives the whole answer.
use Rattle.std.proofs.Common.{◌≤◌, ◌-◌, ◌≡◌, max, length}
use Rattle.output.specs.Line.{digits_from}
use Rattle.output.proofs.digits.Given as goal

abbrev pub invariant-loop-i : goal.invariant-loop-i
invariant-loop-i l = (l.i ≤ max l.at (length l.s)) × (l.value ≤ 65536) × (digits_from (length l.s - l.i) l.s l.i l.value ≡ digits_from (length l.s - l.at) l.s l.at 0)
