-- `restoring::put_record` meets its contract: the leaf, then its bit.
use Rattle.restoring.proofs.Filling.{put-record-law}
use Rattle.restoring.proofs.put_record.Goals as goal

pub returns : goal.returns
returns c = cc (put-record-law c.args.n c.args.memory.now c.args.row.now c.args.i c.requires.0 c.requires.1)
