-- `length_of` meets its contract: there are not many blocks.
use Prim.Native.Nat.{suc, ◌≤◌}
use native.Mathlib.Omega.{arith}
use Rattle.geometry.proofs.Levels.{base-few}
use Rattle.geometry.proofs.Geometry.length_of.Goals as goal

pub overflow_mul-result : goal.overflow_mul-result
overflow_mul-result c =
    let a = c.args in
    let n-most : a.n ≤ 4294967295 = omega arith in
    let top-most : a.top ≤ 255 = omega arith in
    omega (arith, top-most, c.blocks_of.ensures, base-few a.n 4294967295 (suc a.top) n-most)
