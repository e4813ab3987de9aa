-- `one_step` meets its contract: refused, or the step is the core's, of one of t trackers.
use native.Mathlib.Omega.{arith}
use Rattle.outcome.proofs.Rule.{by-rule}
use Rattle.whole.proofs.Numbers.{unless-refused}
use Rattle.turn.specs.Turn.{step_turn}
use Rattle.turn.proofs.Ways.{step-below}
use Rattle.turn.proofs.one_step.Goals as goal

pub overflow_cast-x : goal.overflow_cast-x
overflow_cast-x c =
    let a = c.args in
    omega (arith, step-below a.shape a.x a.trackers.now c.in-Ok.ensures)

pub returns-in-Err : goal.returns-in-Err
unfolding step_turn
returns-in-Err c =
    let a = c.args in
    by-rule (unless-refused _ _ c.in-Err.r c.in-Err.ensures) (cc (c.refuses.ensures a.lines.now a.bytes.now a.memory.now))
