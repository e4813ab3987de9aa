-- The groups of n leaves and a run's length are far from the end of 64 bits.
use native.Mathlib.Omega.{arith}
use Rattle.geometry.proofs.Places.{groups-most}
use Rattle.prediction.specs.Runs.{runs}
use Rattle.prediction.proofs.Runs.count.Goals as goal

pub overflow_add-result : goal.overflow_add-result
overflow_add-result c = omega (arith, c.groups.ensures, groups-most c.args.self.n 262144 c.args.self.few)

pub returns : goal.returns
unfolding runs
returns c = cc
