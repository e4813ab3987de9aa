-- `block_over` meets its contract: the blocks below level e are not many.
use Prim.Native.Nat.{◌≤◌}
use native.Mathlib.Omega.{arith}
use Rattle.geometry.proofs.Levels.{base-few}
use Rattle.geometry.proofs.Geometry.block_over.Goals as goal

pub overflow_add-result : goal.overflow_add-result
overflow_add-result c =
    let n-most : c.args.n ≤ 4294967295 = omega arith in
    omega (arith, c.base.ensures, base-few c.args.n 4294967295 c.from.result n-most)
