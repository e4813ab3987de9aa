-- `script::read_line` meets its contract: by whether each field is what its place asks.
use Rattle.laws.proofs.Choice.{both-false-left, both-false-right}
use Rattle.script.proofs.Laws.{no_decimal, no_order}
use Rattle.script.proofs.Lines.{not-read, a_read}
use Rattle.script.proofs.read_line.Goals as goal

pub returns-in_err-decimal : goal.returns-in_err-decimal
returns-in_err-decimal c =
    rw c.from_residual.ensures (not-read _ _ _ (both-false-left _ _ (no_decimal _ c.in_err-decimal.ensures)))

pub returns-in_err-decimal-2 : goal.returns-in_err-decimal-2
returns-in_err-decimal-2 c =
    rw c.from_residual-in_err-decimal-2.ensures
    (not-read _ _ _ (both-false-right _ _ (both-false-left _ _ (no_decimal _ c.in_err-decimal-2.ensures))))

pub returns-in_err-order : goal.returns-in_err-order
returns-in_err-order c =
    rw c.from_residual-in_err-order.ensures
    (not-read _ _ _ (both-false-right _ _ (both-false-right _ _ (no_order _ c.in_err-order.ensures))))

pub returns : goal.returns
returns c = a_read _ _ _ _ _ _ c.in_ok-decimal.ensures c.in_ok-decimal-2.ensures c.in_ok-order.ensures
