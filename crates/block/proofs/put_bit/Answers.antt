-- One byte is stored with its bit made v, where there is such a bit.
use mathlib.Core.Path.{sym, ap, ◌∙◌}
use native.Mathlib.Omega.{arith}
use lib.ListN.{set}
use Rattle.block.proofs.BitsOf.{put_bit-is, put_bit-past, put_bit-not}
use Rattle.block.proofs.put_bit.Goals as goal
use Rattle.block.proofs.put_bit.Goals.{else-k-lt-BYTE_BITS-via-then-k-lt-BYTE_BITS+else-at-row, else-k-lt-BYTE_BITS-via-else-k-lt-BYTE_BITS}

pub returns-then-at-row : goal.returns-then-at-row
returns-then-at-row c =
    ap (set c.args.row.now c.args.at) c.with_bit-x.ensures
    ∙ sym (put_bit-is c.args.row.now c.args.at c.args.k _ (omega arith))

pub returns-else-k-lt-BYTE_BITS : goal.returns-else-k-lt-BYTE_BITS
returns-else-k-lt-BYTE_BITS c =
    elim c.else-k-lt-BYTE_BITS.branch [
      | else-k-lt-BYTE_BITS-via-then-k-lt-BYTE_BITS+else-at-row w ↦ sym (put_bit-not _ _ _ _ (omega arith) (omega arith))
      | else-k-lt-BYTE_BITS-via-else-k-lt-BYTE_BITS w ↦ sym (put_bit-past _ _ _ _ (omega arith))
    ]
