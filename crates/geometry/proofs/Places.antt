-- Every place lies inside the memory: groups below 16n in its leaves, the bits of all leaves in its map blocks.
use mathlib.Core.Path.{◌≡◌, refl}
use Prim.Native.Nat.{ℕ, suc, ◌+◌, ◌*◌, ◌/◌, ◌%◌, ◌≤◌, ◌<◌}
use native.Mathlib.Omega.{arith}
use mathlib.Core.Logic.{◌⊎◌, inl, inr, ⊎_elim}
use Rattle.laws.proofs.Splice.{lt-or-ge}
use Rattle.geometry.specs.TagMemory.{leaf_of, byte_of, groups, group_on, map_block_of, map_byte_of, map_bit_of, map_blocks, block_bits, count, base, blocks, length_of, memory_length, block_place, group_place, bit_place, map_place}

-- a group below 16n has its leaf among the n
pub leaf_of-lt : (n g : ℕ) → g < groups n → leaf_of g < n
unfolding leaf_of groups
leaf_of-lt n g h = omega arith

-- and no other group has
pub leaf_of-ge : (n g : ℕ) → groups n ≤ g → n ≤ leaf_of g
unfolding leaf_of groups
leaf_of-ge n g h = omega arith

-- leaves rise with their groups, and groups with their leaves
pub leaf_of-≤ : (g h : ℕ) → g ≤ h → leaf_of g ≤ leaf_of h
unfolding leaf_of
leaf_of-≤ g h l = omega arith

pub groups-≤ : (k n : ℕ) → k ≤ n → groups k ≤ groups n
unfolding groups
groups-≤ k n h = omega arith

-- the first group of a group's leaf
pub groups-leaf_of : (g : ℕ) → groups (leaf_of g) ≤ g
unfolding leaf_of groups
groups-leaf_of g = omega arith

-- at most k leaves have at most 16k groups
pub groups-most : (n k : ℕ) → n ≤ k → groups n ≤ 16 * k
unfolding groups
groups-most n k h = omega arith

-- a group below 16n, from its leaf
pub group-lt : (n g : ℕ) → leaf_of g < n → g < groups n
unfolding leaf_of groups
group-lt n g h = omega arith

-- the groups of leaf k
pub leaf_of-group_on : (k j : ℕ) → j < 16 → leaf_of (group_on k j) ≡ k
unfolding leaf_of groups
leaf_of-group_on k j h = omega arith

pub byte_of-group_on : (k j : ℕ) → j < 16 → byte_of (group_on k j) ≡ 4 * j
unfolding byte_of groups
byte_of-group_on k j h = omega arith

-- a group's number in its leaf
pub slot_of : ℕ → ℕ
slot_of g = g % 16

pub slot_of-lt : (g : ℕ) → slot_of g < 16
unfolding slot_of
slot_of-lt g = omega arith

pub group_on-slot_of : (g : ℕ) → group_on (leaf_of g) (slot_of g) ≡ g
unfolding leaf_of groups slot_of
group_on-slot_of g = omega arith

pub byte_of-slot_of : (g : ℕ) → byte_of g ≡ 4 * slot_of g
unfolding byte_of slot_of
byte_of-slot_of g = refl

-- two groups of a leaf have bytes apart
pub byte_of-apart : (g h : ℕ) → leaf_of g ≡ leaf_of h → (g ≡ h → ⊥) → (byte_of g + 4 ≤ byte_of h) ⊎ (byte_of h + 4 ≤ byte_of g)
unfolding leaf_of byte_of
byte_of-apart g h e d = ⊎_elim (λ q. inl (let r : g % 16 < h % 16 = q in omega arith)) (λ q. inr (omega arith)) (lt-or-ge (g % 16) (h % 16))

-- a group's four bytes lie in its leaf
pub byte_of-lt : (g : ℕ) → byte_of g + 4 ≤ 64
unfolding byte_of
byte_of-lt g = omega arith

-- there are no more map blocks than leaves, with a bit for each leaf and fewer than 512 past them
pub map_blocks-most : (n : ℕ) → map_blocks n ≤ n
unfolding map_blocks
map_blocks-most n = omega arith

pub map_blocks-enough : (n : ℕ) → n ≤ block_bits * map_blocks n
unfolding map_blocks
map_blocks-enough n = omega arith

pub map_blocks-few : (n : ℕ) → block_bits * map_blocks n < n + block_bits
unfolding map_blocks
map_blocks-few n = omega arith

-- numbers fall from group to leaf to map block
pub leaf_of-few : (g : ℕ) → 16 * leaf_of g ≤ g
unfolding leaf_of
leaf_of-few g = omega arith

pub map_block_of-few : (k : ℕ) → block_bits * map_block_of k ≤ k
unfolding map_block_of
map_block_of-few k = omega arith

-- a leaf below n has its bit in one of the map blocks
pub map_block_of-lt : (n k : ℕ) → k < n → map_block_of k < map_blocks n
unfolding map_block_of map_blocks
map_block_of-lt n k h = omega arith

-- and so has every bit of the map blocks
pub map_block_of-bit : (n k : ℕ) → k < block_bits * map_blocks n → map_block_of k < map_blocks n
unfolding map_block_of map_blocks
map_block_of-bit n k h = omega arith

pub leaf-has-bit : (n k : ℕ) → k < n → k < block_bits * map_blocks n
leaf-has-bit n k h = omega (arith, map_blocks-enough n)

pub map_byte_of-lt : (k : ℕ) → map_byte_of k < 64
unfolding map_byte_of
map_byte_of-lt k = omega arith

pub map_bit_of-lt : (k : ℕ) → map_bit_of k < 8
unfolding map_bit_of
map_bit_of-lt k = omega arith

-- the bytes over level e follow each other, a bit for each of its blocks
pub bit_place-is : (e n k : ℕ) → bit_place e n k ≡ block_place (base (suc e) n) + k / 8
unfolding map_block_of map_byte_of
bit_place-is e n k = omega arith

pub map_place-is : (n k : ℕ) → map_place n k ≡ 64 * n + k / 8
map_place-is n k = bit_place-is 0 n k

-- the blocks of byte j over level e; the leaves of the map's byte j
pub bit_place-byte : (e n j i : ℕ) → i < 8 → bit_place e n (8 * j + i) ≡ block_place (base (suc e) n) + j
bit_place-byte e n j i h = omega (arith, bit_place-is e n (8 * j + i))

pub map_place-byte : (n j i : ℕ) → i < 8 → map_place n (8 * j + i) ≡ block_place n + j
map_place-byte n j i h = bit_place-byte 0 n j i h

pub map_bit_of-byte : (j i : ℕ) → i < 8 → map_bit_of (8 * j + i) ≡ i
unfolding map_bit_of
map_bit_of-byte j i h = omega arith

-- a place tells its block: byte and bit together
pub bit_place-same : (e n k l : ℕ) → bit_place e n k ≡ bit_place e n l → map_bit_of k ≡ map_bit_of l → k ≡ l
unfolding map_bit_of
bit_place-same e n k l p b = omega (arith, bit_place-is e n k, bit_place-is e n l)

pub map_place-same : (n k l : ℕ) → map_place n k ≡ map_place n l → map_bit_of k ≡ map_bit_of l → k ≡ l
map_place-same n k l p b = bit_place-same 0 n k l p b

-- a block's 64 bytes lie in memory
pub block_inside : (n b : ℕ) → b < blocks n → block_place b + 64 ≤ memory_length n
block_inside n b h = omega arith

-- a group's four bytes lie in memory, before the map
pub group-inside : (n g : ℕ) → g < groups n → group_place g + 4 ≤ block_place n
group-inside n g h = let k = leaf_of-lt n g h in let b = byte_of-lt g in omega arith

-- the byte of a bit over level e lies in memory, after the blocks of the levels to e and before those above its own
pub bit_place-after : (e n k : ℕ) → block_place (base (suc e) n) ≤ bit_place e n k
bit_place-after e n k = omega arith

pub bit_place-before : (e n k : ℕ) → k < block_bits * count (suc e) n → bit_place e n k < length_of (suc e) n
bit_place-before e n k h = omega (arith, bit_place-is e n k)

pub bit_place-past : (e n k : ℕ) → block_bits * count (suc e) n ≤ k → length_of (suc e) n ≤ bit_place e n k
bit_place-past e n k h = omega (arith, bit_place-is e n k)

-- in the map
pub bit-inside : (n k : ℕ) → k < block_bits * map_blocks n → map_place n k < memory_length n
bit-inside n k h = bit_place-before 0 n k h

pub bit-after-leaves : (n k : ℕ) → block_place n ≤ map_place n k
bit-after-leaves n k = bit_place-after 0 n k

-- bits past the map's have no byte in memory
pub bit-outside : (n k : ℕ) → block_bits * map_blocks n ≤ k → memory_length n ≤ map_place n k
bit-outside n k h = bit_place-past 0 n k h

-- block, byte and bit tell the block that the bit is for: 64 bytes of 8 bits are 512
pub child-is : (k : ℕ) → block_bits * map_block_of k + (8 * map_byte_of k + map_bit_of k) ≡ k
unfolding map_block_of map_byte_of map_bit_of
child-is k = omega arith

pub map-one : (j k : ℕ) → map_block_of j ≡ map_block_of k → map_byte_of j ≡ map_byte_of k → map_bit_of j ≡ map_bit_of k → j ≡ k
map-one j k a b c = omega (arith, child-is j, child-is k)

-- the blocks that block j has the bits of
pub map_block_of-child : (j i : ℕ) → i < block_bits → map_block_of (block_bits * j + i) ≡ j
unfolding map_block_of
map_block_of-child j i h = omega arith

-- and the byte and bit in it of each
pub map_byte_of-child : (j i q : ℕ) → i < 64 → q < 8 → map_byte_of (block_bits * j + (8 * i + q)) ≡ i
unfolding map_byte_of
map_byte_of-child j i q h l = omega arith

pub map_bit_of-child : (j i q : ℕ) → q < 8 → map_bit_of (block_bits * j + (8 * i + q)) ≡ q
unfolding map_bit_of
map_bit_of-child j i q l = omega arith
