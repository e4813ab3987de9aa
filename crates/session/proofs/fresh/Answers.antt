use Rattle.session.specs.Session.{fresh}
use Rattle.session.proofs.fresh.Goals as goal

-- src/lib.rt:11:1
pub returns : goal.returns
returns c = λ a. fresh _ _ _ _ _ c.fresh.result c.fresh.ensures a
