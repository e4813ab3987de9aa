-- `image::version_in` meets its contract: the head's numbers stand at the same places in the image.
use mathlib.Core.Path.{sym, ◌∙◌}
use native.Mathlib.Omega.{arith}
use Rattle.laws.proofs.Parts.{number_at-front}
use Rattle.image.proofs.version_in.Goals as goal

pub returns : goal.returns
returns c = c.two_at.ensures ∙ sym (number_at-front 2 _ 512 6 (omega arith))
