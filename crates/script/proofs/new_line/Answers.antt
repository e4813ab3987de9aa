-- `script::new_line` meets its contract: by whether each field is a number.
use Rattle.laws.proofs.Choice.{both-false-left, both-false-right}
use Rattle.script.proofs.Laws.{no_decimal}
use Rattle.script.proofs.Lines.{not_new, a-new}
use Rattle.script.proofs.new_line.Goals as goal

pub returns-in_err-decimal : goal.returns-in_err-decimal
returns-in_err-decimal c =
    rw c.from_residual.ensures (not_new _ _ _ (both-false-left _ _ (no_decimal _ c.in_err-decimal.ensures)))

pub returns-in_err-decimal-2 : goal.returns-in_err-decimal-2
returns-in_err-decimal-2 c =
    rw c.from_residual-in_err-decimal-2.ensures
    (not_new _ _ _ (both-false-right _ _ (both-false-left _ _ (no_decimal _ c.in_err-decimal-2.ensures))))

pub returns-in_err-decimal-3 : goal.returns-in_err-decimal-3
returns-in_err-decimal-3 c =
    rw c.from_residual-in_err-decimal-3.ensures
    (not_new _ _ _ (both-false-right _ _ (both-false-right _ _ (no_decimal _ c.in_err-decimal-3.ensures))))

pub returns : goal.returns
returns c = a-new _ _ _ _ _ _ c.in_ok-decimal.ensures c.in_ok-decimal-2.ensures c.in_ok-decimal-3.ensures
