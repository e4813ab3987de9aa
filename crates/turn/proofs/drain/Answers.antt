-- `drain` meets its contract: refused, or the rows are drained.
use mathlib.Core.Path.{ap, ◌∙◌}
use Rattle.placing.specs.Lines.{Drained}
use Rattle.outcome.proofs.Rule.{by-rule}
use Rattle.whole.proofs.Numbers.{unless-free, unless-refused}
use Rattle.turn.specs.Turn.{accepts, drain_turn}
use Rattle.turn.proofs.drain.Goals as goal

pub returns-in-Ok : goal.returns-in-Ok
unfolding drain_turn
returns-in-Ok c =
    let a = c.args in
    by-rule (unless-free _ _ c.in-Ok.ensures) (c.accepts.ensures _ _ _ ∙ ap (λ (d : Drained). accepts a.shape a.u d.copies d.rows) c.drain.ensures)

pub returns-in-Err : goal.returns-in-Err
unfolding drain_turn
returns-in-Err c =
    let a = c.args in
    by-rule (unless-refused _ _ c.in-Err.r c.in-Err.ensures) (cc (c.refuses.ensures a.lines.now a.bytes.now a.memory.now))
