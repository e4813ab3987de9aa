-- `begin_refused` meets its contract: fresh refuses 0 leaves, and its state is zero.
use Rattle.play.proofs.Ways.{refused-of}
use Rattle.play.proofs.begin_refused.Goals as goal

pub returns : goal.returns
returns c = rw c.from.ensures (refused-of _ _ _ c.fresh.ensures)
