-- A shift and a remainder are the bit; past the last there is none.
use mathlib.Core.Path.{sym}
use native.Mathlib.Omega.{arith}
use Rattle.laws.proofs.Bits.{bit_of-shift, bit_of-past}
use Rattle.block.proofs.bit_of.Goals as goal

pub returns-then-k-ge-BYTE_BITS : goal.returns-then-k-ge-BYTE_BITS
returns-then-k-ge-BYTE_BITS c = sym (bit_of-past c.args.x 8 c.args.k (omega arith) (omega arith))

pub returns : goal.returns
returns c = sym (bit_of-shift _ _)
