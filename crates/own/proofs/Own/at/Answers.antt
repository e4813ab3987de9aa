-- `at` meets its contract: level 1, or another.
use native.Mathlib.Omega.{arith}
use Rattle.own.proofs.Ways.{line_on-1, line_on-other}
use Rattle.own.proofs.Own.at.Goals as goal

pub returns-then-e-eq1 : goal.returns-then-e-eq1
returns-then-e-eq1 c = line_on-1 _ _ (omega arith)

pub returns-else-e-eq1 : goal.returns-else-e-eq1
returns-else-e-eq1 c = line_on-other _ _ (omega arith)
