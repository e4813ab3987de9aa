-- `none` meets its contract: the state that begins with a shape of zeros is zero throughout.
use mathlib.Core.Path.{refl, ◌∙◌}
use Rattle.cache.proofs.State.none.Goals as goal

pub returns : goal.returns
returns c = λ bs m. c.refuse.ensures bs m ∙ rw (c.begin.ensures, c.start.ensures) refl
