-- `restoring::put_record_at` meets its contract: the record's block is lent.
use Prim.Native.Nat.{◌+◌, ◌*◌, ◌/◌}
use Rattle.laws.proofs.Put.{part-is}
use Rattle.restoring.proofs.put_record_at.Goals as goal

pub returns : goal.returns
returns c = let a = c.args in
    cc (part-is a.image.now (512 * (1 + a.p / 7)) 512)
