-- `block_in` meets its contract.
use Prim.Native.Nat.{◌*◌}
use Rattle.laws.proofs.Put.{part-is}
use Rattle.cache.proofs.block_in.Goals as goal

pub returns : goal.returns
returns c = part-is c.args.row.now (64 * c.args.i) 64
