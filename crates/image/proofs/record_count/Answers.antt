-- `image::record_count` meets its contract, one arm of its definition on each way out.
use mathlib.Core.Path.{sym}
use Prim.Native.Nat.{◌*◌, ◌/◌, ◌-◌}
use native.Mathlib.Omega.{arith}
use lib.ListN.{length}
use Rattle.laws.proofs.Put.{part-is}
use Rattle.form.proofs.Sound.{records-none, records-by}
use Rattle.image.proofs.record_count.Goals as goal

pub returns-then-whole-le1 : goal.returns-then-whole-le1
returns-then-whole-le1 c = sym (records-none _ c.if-whole-le1.true)

pub returns : goal.returns
returns c = let m = c.args.image.now in
    cc (part-is m (512 * (length m / 512 - 1)) 512, records-by m (omega arith))
