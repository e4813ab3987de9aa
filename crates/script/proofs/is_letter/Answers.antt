-- `script::is_letter` meets its contract: the field and the letter's list are the same text, or not.
use mathlib.Core.Path.{◌∙◌}
use Rattle.script.proofs.Laws.{letter-text}
use Rattle.script.proofs.is_letter.Goals as goal

pub returns : goal.returns
returns c = rw c.as_slice.ensures at c.eq.ensures ∙ letter-text _ _
