-- `record_at` meets its contract: a reader at the end stays there.
use Rattle.reader.proofs.Place.{end_stays}
use Rattle.reader.proofs.record_at.Goals as goal

pub returns-in_err-record : goal.returns-in_err-record
returns-in_err-record c = rw c.from_residual.ensures (end_stays c.args.image.now c.args.place _ c.in_err-record.ensures.steps.0)
