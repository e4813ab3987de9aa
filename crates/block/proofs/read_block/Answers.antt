-- A block that is all there is copied from its part; else the zeros stay.
use mathlib.Core.Path.{sym, ◌∙◌}
use native.Mathlib.Omega.{arith}
use Rattle.laws.proofs.Put.{part-is}
use Rattle.block.proofs.Blocks.{block_or0-fits, block_or0-not}
use Rattle.block.proofs.read_block.Goals as goal

pub returns-then-has : goal.returns-then-has
returns-then-has c =
    c.copy.ensures
    ∙ part-is c.args.memory.now c.args.at 64
    ∙ sym (block_or0-fits c.args.memory.now c.args.at (omega arith))

pub returns-else-has : goal.returns-else-has
returns-else-has c = sym (block_or0-not _ c.args.at (grind arith))
