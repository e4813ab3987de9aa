-- A run's bit is the bit at its place.
use Rattle.prediction.specs.Runs.{run_bit}
use Rattle.prediction.proofs.run_bit.Goals as goal

pub returns : goal.returns
unfolding run_bit
returns c = c.bit_at.ensures
