-- `base` meets its contract: the blocks of the levels below _i and those of level _i, level by level.
use mathlib.Core.Path.{◌≡◌}
use Prim.Native.Nat.{◌≤◌}
use native.Mathlib.Omega.{arith}
use Rattle.geometry.proofs.Places.{map_blocks-most}
use Rattle.geometry.proofs.Levels.{count_most, base_more, base-few, count-more}
use Rattle.geometry.proofs.Geometry.base.Goals as goal

pub overflow_add-below : goal.overflow_add-below
overflow_add-below c =
    let n = c.args.n in
    let n-most : n ≤ 4294967295 = omega arith in
    omega (arith, n-most, c.from-below.ensures, c.loop-i.invariant.0, c.loop-i.invariant.1, base-few n 4294967295 c.loop-i._i n-most, count_most c.loop-i._i n)

pub overflow_cast-blocks : goal.overflow_cast-blocks
overflow_cast-blocks c =
    let n = c.args.n in
    let n-most : n ≤ 4294967295 = omega arith in
    omega (arith, n-most, c.map_blocks-blocks.ensures, map_blocks-most c.loop-i.blocks, c.loop-i.invariant.1, count_most c.loop-i._i n)

pub loop-i-preserved : goal.loop-i-preserved
loop-i-preserved c =
    (rw c.from-below.ensures (base_more c.args.n c.loop-i._i c.loop-i.invariant.0 c.loop-i.invariant.1), count-more c.args.n c.loop-i._i c.loop-i.invariant.1 c.map_blocks-blocks.ensures)

pub returns : goal.returns
returns c =
    let last : c.loop-i._i ≡ c.args.e = omega arith in
    rw (← last) c.loop-i.invariant.0
