-- The bit of the byte that is there, and 0 where none is.
use borrow.Author.Rules.{rules}
use Rattle.block.specs.Block.{bit_at}
use Rattle.block.proofs.bit_at.Goals as goal

pub returns : goal.returns
unfolding bit_at
returns c = search rules
