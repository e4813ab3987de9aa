-- `take` meets its contract: what has another form is refused.
use mathlib.Core.Path.{refl}
use Rattle.outcome.proofs.Rule.{by-rule}
use Rattle.turn.specs.Turn.{asked_turn}
use Rattle.turn.proofs.take.Goals as goal

pub returns-in-Other : goal.returns-in-Other
unfolding asked_turn
returns-in-Other c = by-rule (rw c.in-Other.is refl) (c.refuses.ensures _ _ _)
