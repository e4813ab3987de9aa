-- `salvage::close_last` meets its contract.
use mathlib.Core.Path.{sym, ◌∙◌}
use Rattle.salvage.proofs.Walk.{last-full, last-part}
use borrow.Author.Rules.{rules}
use Rattle.salvage.proofs.close_last.Goals as goal

pub returns-then-not-is_multiple_of : goal.returns-then-not-is_multiple_of
returns-then-not-is_multiple_of c = c.close_at.ensures ∙ sym (last-part _ _ (search rules))

pub returns-else-not-is_multiple_of : goal.returns-else-not-is_multiple_of
returns-else-not-is_multiple_of c = sym (last-full _ _ (search rules))
