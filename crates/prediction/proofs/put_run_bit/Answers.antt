-- A run's bit is put at its place.
use Rattle.prediction.specs.Runs.{put_run_bit}
use Rattle.prediction.proofs.put_run_bit.Goals as goal

pub returns : goal.returns
unfolding put_run_bit
returns c = c.put_bit.ensures
