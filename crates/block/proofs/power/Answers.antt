-- One shifted by k is 2 to the k, which a byte has room for.
use Rattle.laws.proofs.Bits.{pow_small}
use Rattle.block.proofs.power.Goals as goal

pub returns : goal.returns
returns c = pow_small c.args.k c.requires
