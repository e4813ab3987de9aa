-- `is_ready` meets its contract: both tests.
use mathlib.Core.Path.{sym, ◌∙◌}
use Rattle.laws.proofs.Choice.{both-when, both-false-left}
use Rattle.play.proofs.is_ready.Goals as goal

pub returns-then-whole : goal.returns-then-whole
returns-then-whole c = c.lengths_right.ensures ∙ sym (both-when _ _ (sym c.if-whole.ensures))

pub returns-else-whole : goal.returns-else-whole
returns-else-whole c = c.if-whole.false ∙ sym (both-false-left _ _ (sym c.if-whole.ensures))
