-- A byte has the bits of eight runs.
use native.Mathlib.Omega.{arith}
use Rattle.prediction.specs.Runs.{bits_length}
use Rattle.prediction.proofs.Runs.bits_length.Goals as goal

pub returns : goal.returns
unfolding bits_length
returns c = rw (c.div_ceil.ensures, c.from.ensures, c.count.ensures) (omega arith)
