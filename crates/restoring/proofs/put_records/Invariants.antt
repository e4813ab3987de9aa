-- `restoring::put_records` meets its contract: p records are in place over zeros.
use Rattle.std.proofs.Common.{◌≡◌}
use Rattle.form.specs.Calls.{filled, records_in}
use Rattle.restoring.proofs.put_records.Given as goal

abbrev pub invariant-loop-p : goal.invariant-loop-p
invariant-loop-p l = l.memory ≡ filled l.n (records_in l.image) l.p
