-- `image::unused_zero` meets its contract: the part that is lent is the part of the definition.
use Rattle.laws.specs.Bytes.{part}
use Rattle.image.proofs.unused_zero.Goals as goal

pub returns : goal.returns
unfolding part
returns c = c.all_zero.ensures
