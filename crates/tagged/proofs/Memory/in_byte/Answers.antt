-- The ones of the byte, masked, are the marked leaves.
use Prim.Native.Nat.{◌+◌}
use borrow.Author.Rules.{rules}
use native.Mathlib.Omega.{arith}
use Rattle.tagged.proofs.Marked.{byte-ones, byte_inside}
use Rattle.tagged.proofs.Memory.in_byte.Goals as goal

pub bounds-self-at : goal.bounds-self-at
bounds-self-at c = let a = c.args in omega (arith, byte_inside a.self.n a.self.bytes.now a.j (omega arith) (omega arith))

pub returns : goal.returns
returns c = let a = c.args in
    byte-ones a.self.n a.self.bytes.now a.j a.s a.t (c.block_place.result + a.j) c.low_bits.result (omega arith) (search rules) (omega arith) (omega arith) c.low_bits.ensures
