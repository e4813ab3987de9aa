-- Groups follow each other, four bytes each, and fill the leaves.
use mathlib.Core.Path.{◌≡◌}
use Prim.Native.Nat.{ℕ, ◌*◌}
use native.Mathlib.Omega.{arith}
use Rattle.geometry.specs.TagMemory.{leaf_of, byte_of, groups, block_place, group_place}

pub group_place-is : (g : ℕ) → group_place g ≡ 4 * g
unfolding leaf_of byte_of
group_place-is g = omega arith

pub block_place-groups : (n : ℕ) → block_place n ≡ 4 * groups n
unfolding groups
block_place-groups n = omega arith
