-- `issue` meets its contract: refused, or the tracker begins.
use Rattle.outcome.proofs.Rule.{by-rule}
use Rattle.whole.proofs.Numbers.{unless-free, unless-refused}
use Rattle.turn.specs.Turn.{issue_turn}
use Rattle.turn.proofs.issue.Goals as goal

pub returns-in-Ok : goal.returns-in-Ok
unfolding issue_turn
returns-in-Ok c = λ ls bs m. by-rule (unless-free _ _ c.in-Ok.ensures) (cc (c.accepts.ensures ls bs m))

pub returns-in-Err : goal.returns-in-Err
unfolding issue_turn
returns-in-Err c = λ ls bs m. by-rule (unless-refused _ _ c.in-Err.r c.in-Err.ensures) (cc (c.refuses.ensures ls bs m))
