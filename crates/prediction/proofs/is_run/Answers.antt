-- The four lengths.
use native.Mathlib.Omega.{arith}
use Rattle.prediction.proofs.RunsOf.{is_run-one, is_run-none}
use Rattle.prediction.proofs.is_run.Goals as goal

pub returns-in-4 : goal.returns-in-4
returns-in-4 c = is_run-one _ c.in-4.is

pub returns-in_default : goal.returns-in_default
returns-in_default c = is_run-none _ (λ e. grind arith) (λ e. grind arith) (λ e. grind arith) (λ e. grind arith)
