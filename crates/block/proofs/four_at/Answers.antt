-- A word that is all there; else 0.
use mathlib.Core.Path.{sym}
use native.Mathlib.Omega.{arith}
use Rattle.laws.proofs.Value.{number_at-not}
use Rattle.block.proofs.four_at.Goals as goal

pub returns-else-has : goal.returns-else-has
returns-else-has c = sym (number_at-not 4 _ _ (grind arith))
