-- `bit_in` meets its contract: the bit at its place in the line, or no such line.
use mathlib.Core.Path.{sym}
use native.Mathlib.Omega.{arith}
use Rattle.geometry.proofs.Places.{map_byte_of-lt}
use Rattle.own.proofs.Ways.{bit_in-past, bit_in-is}
use Rattle.own.proofs.bit_in.Goals as goal

pub returns-then-bytes-i : goal.returns-then-bytes-i
returns-then-bytes-i c = sym (bit_in-past _ _ _ _ (omega arith))

pub overflow_add-i : goal.overflow_add-i
overflow_add-i c =
    omega (arith, c.map_byte_of.ensures, map_byte_of-lt c.index-k.result)

pub returns : goal.returns
returns c =
    let a = c.args in
    bit_in-is a.bytes.now a.i a.e a.g c.index-k.ensures c.map_byte_of.ensures c.map_bit_of.ensures c.bit_at.ensures
