-- `image::leaves_in` meets its contract: the head's numbers stand at the same places in the image.
use mathlib.Core.Path.{sym, ◌∙◌}
use native.Mathlib.Omega.{arith}
use Rattle.laws.proofs.Parts.{number_at-front}
use Rattle.image.proofs.leaves_in.Goals as goal

pub returns : goal.returns
returns c = c.four_at.ensures ∙ sym (number_at-front 4 _ 512 8 (omega arith))
