-- `put_bit` meets its contract: the bit's place in the line.
use native.Mathlib.Omega.{arith}
use Rattle.geometry.proofs.Places.{map_byte_of-lt}
use Rattle.step.proofs.put_bit.Goals as goal

pub overflow_add-j : goal.overflow_add-j
overflow_add-j c = omega (arith, c.map_byte_of.ensures, map_byte_of-lt c.index-k.result)
