use Rattle.session.specs.Session.{drained}
use Rattle.session.proofs.drain.Goals as goal

-- src/lib.rt:45:1
pub returns : goal.returns
returns c = drained _ _ c.drain.ensures
