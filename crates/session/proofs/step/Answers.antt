use Rattle.session.specs.Session.{stepped}
use Rattle.session.proofs.step.Goals as goal

-- src/lib.rt:39:1
pub returns : goal.returns
returns c = stepped _ _ _ _ c.step.ensures
