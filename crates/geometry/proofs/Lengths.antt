-- 01's lengths as facts, and some of three levels: each is computed.
use mathlib.Core.Path.{◌≡◌, refl}
use Rattle.geometry.specs.TagMemory.{length_of, memory_length, map_blocks, most_leaves_of}

-- "n = 1: 128. n = 512: 32,832. n = 513: 32,960. Largest: 16,809,984."
pub length-1 : memory_length 1 ≡ 128
unfolding map_blocks
length-1 = refl

pub length-512 : memory_length 512 ≡ 32832
unfolding map_blocks
length-512 = refl

pub length-513 : memory_length 513 ≡ 32960
unfolding map_blocks
length-513 = refl

pub length_most : memory_length 262144 ≡ 16809984
unfolding map_blocks
length_most = refl

-- a third level: one top block to 262,144 leaves, four at most
pub length-3-one : length_of 2 262144 ≡ 16810048
unfolding map_blocks
length-3-one = refl

pub length-3-two : length_of 2 262145 ≡ 16810240
unfolding map_blocks
length-3-two = refl

pub length-3-most : length_of 2 (most_leaves_of 2) ≡ 67240192
unfolding map_blocks
length-3-most = refl
