-- `script::step_line` meets its contract: by whether the field is a number.
use Rattle.script.proofs.Lines.{not_step, a-step}
use Rattle.script.proofs.step_line.Goals as goal

pub returns-in_err-decimal : goal.returns-in_err-decimal
returns-in_err-decimal c = rw c.from_residual.ensures (not_step _ c.in_err-decimal.ensures)

pub returns : goal.returns
returns c = a-step _ _ c.in_ok-decimal.ensures
