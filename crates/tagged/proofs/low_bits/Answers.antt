-- The remainder by 2 to the w leaves out the bits from w on; of a byte, by 2 to the 8, none.
use native.Mathlib.Omega.{arith}
use lib.Pow.{pow_pos}
use Rattle.laws.proofs.Bits.{pow_small, low-all, low-some}
use Rattle.tagged.proofs.low_bits.Goals as goal

pub returns-then-w-eq-BYTE_BITS : goal.returns-then-w-eq-BYTE_BITS
returns-then-w-eq-BYTE_BITS c = low-all c.args.x c.args.w (omega arith) c.if-w-eq-BYTE_BITS.true

pub nonzero_rem-result : goal.nonzero_rem-result
nonzero_rem-result c = omega (arith, pow_small c.args.w (omega arith), pow_pos c.args.w)

pub returns : goal.returns
returns c = low-some c.args.x c.args.w (omega arith)
