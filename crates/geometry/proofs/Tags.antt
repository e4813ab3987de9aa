-- The tags of a group: tag j is bits 4j to 4j+3, and a group is its tags.
use mathlib.Core.Path.{◌≡◌, refl}
use Prim.Native.Nat.{ℕ, zero, suc, ◌+◌, ◌*◌, ◌/◌, ◌%◌, ◌^◌, ◌<◌}
use native.Mathlib.Nat.{pow-succ'}
use native.Mathlib.Omega.{arith}
use Rattle.laws.specs.Bits.{bit_of}
use Rattle.geometry.specs.TagMemory.{tag_of}

-- four bits up is a division by 16
bit_of-up : (v k : ℕ) → bit_of v (suc (suc (suc (suc k)))) ≡ bit_of (v / 16) k
unfolding bit_of
bit_of-up v k = let e : v / 2 / 2 / 2 / 2 ≡ v / 16 = omega arith in rw e

bit_of-next : (v j i : ℕ) → bit_of v (4 * suc j + i) ≡ bit_of (v / 16) (4 * j + i)
bit_of-next v j i = let e : 4 * suc j + i ≡ suc (suc (suc (suc (4 * j + i)))) = omega arith in rw e (bit_of-up v (4 * j + i))

bits-low : (v : ℕ) → v % 16 ≡ bit_of v 0 + 2 * bit_of v 1 + 4 * bit_of v 2 + 8 * bit_of v 3
unfolding bit_of
bits-low v = omega arith

-- "tag j in bits 4j to 4j+3"
pub tag_of-bits : (v j : ℕ) → tag_of v j ≡ bit_of v (4 * j + 0) + 2 * bit_of v (4 * j + 1) + 4 * bit_of v (4 * j + 2) + 8 * bit_of v (4 * j + 3)
unfolding tag_of
tag_of-bits v zero = bits-low v
tag_of-bits v (suc j) = rw (bit_of-next v j 0, bit_of-next v j 1, bit_of-next v j 2, bit_of-next v j 3) (tag_of-bits (v / 16) j)

pub tag_of-lt : (v j : ℕ) → tag_of v j < 16
unfolding tag_of
tag_of-lt v zero = omega arith
tag_of-lt v (suc j) = tag_of-lt (v / 16) j

pub tag_of-0 : (j : ℕ) → tag_of 0 j ≡ 0
unfolding tag_of
tag_of-0 zero = refl
tag_of-0 (suc j) = tag_of-0 j

-- groups of w tags that agree in each tag are equal
pub tags-same : (w v u : ℕ) → v < 16 ^ w → u < 16 ^ w → ((j : ℕ) → j < w → tag_of v j ≡ tag_of u j) → v ≡ u
unfolding tag_of
tags-same zero v u h l q = omega arith
tags-same (suc w) v u h l q =
    let e : v / 16 ≡ u / 16 = tags-same w (v / 16) (u / 16) (omega (arith, pow-succ' 16 w)) (omega (arith, pow-succ' 16 w)) (λ j b. q (suc j) (omega arith)) in
    omega (arith, q 0 (omega arith))
