-- The first top block comes after all blocks of the levels below.
use mathlib.Core.Path.{◌≡◌}
use native.Mathlib.Omega.{arith}
use Rattle.memory.proofs.Clearing.{top-place-is}
use Rattle.memory.proofs.top_place.Goals as goal

pub returns-in-0 : goal.returns-in-0
returns-in-0 c = let zero : c.args.top ≡ 0 = c.in-0.is in rw zero

pub returns-in_default : goal.returns-in_default
returns-in_default c = let a = c.args in top-place-is a.top a.n (omega arith) c.length_of.ensures
