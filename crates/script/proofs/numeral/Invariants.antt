-- `script::numeral` meets its contract: the bytes passed are digits, and v is what they spell.
use mathlib.Core.Path.{◌≡◌}
use mathlib.Core.Bool.{true}
use Rattle.laws.specs.Scan.{all}
use Rattle.script.specs.Script.{spells}
use Rattle.script.proofs.Laws.{digit_at}
use Rattle.script.proofs.numeral.Given as goal

abbrev pub invariant-loop-b : goal.invariant-loop-b
invariant-loop-b l = (l.v ≡ spells l.base l.field l.b-index) × (all (digit_at l.base l.field) l.b-index ≡ true)
