-- Three levels on real bytes, each fact computed: one leaf, its map block and the top block over that.
use mathlib.Core.Path.{◌≡◌, refl}
use mathlib.Core.List.{List, ◌∷◌, ◌++◌}
use mathlib.Core.Bool.{true, false}
use Prim.Native.Nat.{ℕ}
use lib.ListN.{replicate}
use Rattle.laws.specs.Choice.{both, implies, no}
use Rattle.laws.specs.Bits.{bit_of}
use Rattle.laws.specs.Bytes.{part, fits, value, number_at}
use Rattle.laws.specs.Scan.{all}
use Rattle.geometry.specs.TagMemory.{leaf_of, byte_of, map_block_of, map_byte_of, map_bit_of, map_blocks}
use Rattle.block.specs.Block.{bit_at, all_zero}
use Rattle.memory.specs.PlainReading.{plain_group_of}
use Rattle.memory.specs.True.{is_true_of, cleared_of}

-- a block by its first byte, the others zero; the leaf, the map block, the top block
abbrev block : ℕ → List ℕ
block x = x ∷ replicate 63 0

abbrev three : (leaf map top : ℕ) → List ℕ
three leaf map top = block leaf ++ (block map ++ block top)

-- "Under top bit 0 the map block is stale and counts as zeros"
pub reads : plain_group_of 2 1 (three 5 1 1) 0 ≡ 5
unfolding both leaf_of byte_of map_block_of map_byte_of map_bit_of map_blocks bit_at bit_of number_at fits part value
reads = refl

pub under-map-bit-0 : plain_group_of 2 1 (three 5 0 1) 0 ≡ 0
unfolding both leaf_of byte_of map_block_of map_byte_of map_bit_of map_blocks bit_at bit_of number_at fits part value
under-map-bit-0 = refl

pub under-top-bit-0 : plain_group_of 2 1 (three 5 1 0) 0 ≡ 0
unfolding both leaf_of byte_of map_block_of map_byte_of map_bit_of map_blocks bit_at bit_of number_at fits part value
under-top-bit-0 = refl

-- "true is asked of both levels", and not of a map block under top bit 0
pub is_true_lem : is_true_of 2 1 (three 5 1 1) ≡ true
unfolding both implies no all leaf_of map_block_of map_byte_of map_bit_of map_blocks bit_at bit_of part all_zero
is_true_lem = refl

pub stale-map : is_true_of 2 1 (three 5 3 0) ≡ true
unfolding both implies no all leaf_of map_block_of map_byte_of map_bit_of map_blocks bit_at bit_of part all_zero
stale-map = refl

pub empty_leaf : is_true_of 2 1 (three 0 1 1) ≡ false
unfolding both implies no all leaf_of map_block_of map_byte_of map_bit_of map_blocks bit_at bit_of part all_zero
empty_leaf = refl

pub empty-map : is_true_of 2 1 (three 5 0 1) ≡ false
unfolding both implies no all leaf_of map_block_of map_byte_of map_bit_of map_blocks bit_at bit_of part all_zero
empty-map = refl

pub past-leaves : is_true_of 2 1 (three 5 3 1) ≡ false
unfolding both implies no all leaf_of map_block_of map_byte_of map_bit_of map_blocks bit_at bit_of part all_zero
past-leaves = refl

pub past-map : is_true_of 2 1 (three 5 1 3) ≡ false
unfolding both implies no all leaf_of map_block_of map_byte_of map_bit_of map_blocks bit_at bit_of part all_zero
past-map = refl

-- "fresh zeroes only top blocks"
pub cleared : cleared_of 2 1 (three 5 1 1) ≡ three 5 1 0
unfolding map_blocks
cleared = refl
