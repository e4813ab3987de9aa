use Rattle.session.specs.Session.{opened}
use Rattle.session.proofs.opened.Goals as goal

-- src/lib.rt:18:1
pub returns : goal.returns
returns c = λ a. opened _ _ _ _ c.«open».result c.«open».ensures a
