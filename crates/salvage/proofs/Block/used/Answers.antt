-- `salvage::Block::used` meets its contract: the check first, then the block.
use mathlib.Core.Path.{sym, ◌∙◌}
use Rattle.laws.proofs.Choice.{both-when, both-false-left}
use Rattle.salvage.proofs.Block.used.Goals as goal

pub returns-then-check_right : goal.returns-then-check_right
returns-then-check_right c = c.block_sound.ensures ∙ sym (both-when _ _ (sym c.check_right.ensures ∙ c.if-check_right.true))

pub returns-else-check_right : goal.returns-else-check_right
returns-else-check_right c = c.if-check_right.false ∙ sym (both-false-left _ _ (sym c.check_right.ensures ∙ c.if-check_right.false))
