-- The bit over a block is at its place, and the place fits.
use Prim.Native.Nat.{suc, ◌≤◌}
use native.Mathlib.Omega.{arith}
use Rattle.geometry.proofs.Places.{bit_place-is}
use Rattle.geometry.proofs.Levels.{base-few}
use Rattle.memory.proofs.bit_over.Goals as goal

pub overflow_add-at : goal.overflow_add-at
overflow_add-at c =
    let a = c.args in
    let n-most : a.n ≤ 4294967295 = omega arith in
    let e-most : a.e ≤ 255 = omega arith in
    omega (arith, e-most, c.length_of.ensures, base-few a.n 4294967295 (suc a.e) n-most)

pub returns : goal.returns
returns c = let a = c.args in cc (bit_place-is a.e a.n a.k)
