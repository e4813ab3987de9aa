-- A word that fits is put; one that does not, nowhere.
use mathlib.Core.Path.{sym, ◌∙◌}
use native.Mathlib.Omega.{arith}
use Rattle.laws.proofs.Put.{put_w-fits, put_w-not}
use Rattle.block.proofs.put_four.Goals as goal

pub returns-then-has : goal.returns-then-has
returns-then-has c = c.put_word.ensures ∙ sym (put_w-fits 4 _ _ _ (omega arith))

pub returns-else-has : goal.returns-else-has
returns-else-has c = sym (put_w-not 4 _ _ _ (grind arith))
