-- `text::has_room` meets its contract: 64 bytes fit, or not.
use borrow.Author.Tests.{lt-leb}
use native.Mathlib.Omega.{arith}
use Prim.Native.Nat.{◌+◌}
use lib.ListN.{length}
use Rattle.laws.specs.Bytes.{fits}
use Rattle.text.proofs.Writes.{leb_minus}
use Rattle.text.proofs.has_room.Goals as goal

pub returns-then-out-ge-MOST : goal.returns-then-out-ge-MOST
unfolding fits
returns-then-out-ge-MOST c = leb_minus c.args.at 64 _ (omega arith)

pub returns-else-out-ge-MOST : goal.returns-else-out-ge-MOST
unfolding fits
returns-else-out-ge-MOST c = rw (lt-leb 64 _ c.if-out-ge-MOST.false, lt-leb (c.args.at + 64) (length c.args.out.now) (omega arith))
