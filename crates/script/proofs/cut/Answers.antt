-- `script::cut` meets its contract: a space was found, or none.
use Rattle.script.proofs.Laws.{fields-cut, fields-one}
use Rattle.script.proofs.cut.Goals as goal

pub returns-in_err-k : goal.returns-in_err-k
returns-in_err-k c = rw c.from_residual.ensures (fields-one _ c.in_err-k.ensures)

pub returns : goal.returns
returns c = fields-cut _ _ c.in_ok-k.ensures
