-- `writing::put_front` meets its contract: three writes one after the other.
use Rattle.writing.proofs.Blocks.{front-law}
use Rattle.writing.proofs.put_front.Goals as goal

pub returns : goal.returns
returns c = cc (front-law c.args.row.now c.args.j c.args.count c.requires)
