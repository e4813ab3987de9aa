-- `holds` meets its contract: the line's word with the tracker's number.
use Rattle.outcome.proofs.Rule.{by-rule}
use Rattle.step.proofs.Ways.{holds-is}
use Rattle.step.proofs.holds.Goals as goal

pub returns : goal.returns
returns c =
    let a = c.args in
    λ bs m. by-rule (holds-is a.x a.d a.spot.line a.spot.shape a.spot.copies _ a.t a.lines.now bs m c.held_by.ensures) (c.goes.ensures _ bs m)
