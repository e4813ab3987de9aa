-- `script::order` meets its contract: one letter, the other, or neither.
use native.Mathlib.Omega.{arith}
use Rattle.script.proofs.Laws.{order-top, order-bottom, order-none}
use Rattle.script.proofs.order.Goals as goal

pub returns-in-t : goal.returns-in-t
returns-in-t c = order-top c.args.field.now (omega arith) (omega arith)

pub returns-in-b : goal.returns-in-b
returns-in-b c = order-bottom c.args.field.now (omega arith) (omega arith)

pub returns-in_default : goal.returns-in_default
returns-in_default c = order-none _ (λ l e. omega arith) (λ l e. omega arith)

pub returns-in_default-2 : goal.returns-in_default-2
returns-in_default-2 c = order-none _ (λ l e. omega arith) (λ l e. omega arith)

pub returns-in_default-3 : goal.returns-in_default-3
returns-in_default-3 c = order-none _ (λ l e. omega arith) (λ l e. omega arith)
