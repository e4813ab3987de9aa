-- `blocks_of` meets its contract: the levels to the top are those below the next.
use Rattle.geometry.proofs.Levels.{blocks_of-is}
use Rattle.geometry.proofs.Geometry.blocks_of.Goals as goal

pub returns : goal.returns
returns c = blocks_of-is _ c.args.top (rw c.from.ensures at c.base.ensures)
