-- The limits and the address rules of 01 "The tag memory", in its order, over the levels 0 to top (02, E5): 01's memory has the top level 1.
use Rattle.std.specs.Prelude.{Bool, ℕ, zero, suc, ◌+◌, ◌-◌, ◌*◌, ◌/◌, ◌%◌, leb, eqb}
use Rattle.laws.specs.Choice.{pick, both}

-- "A group is the 8 tags of one 64-byte data block: an unsigned 32-bit number, tag j in bits 4j to 4j+3"
abbrev pub values : ℕ
values = 4294967296

unfoldable pub tag_of : ℕ → ℕ → ℕ
tag_of v zero = v % 16
tag_of v (suc j) = tag_of (v / 16) j

-- "Group g lies in leaf g / 16 (whole part) at byte 4 x (g mod 16)."
unfoldable pub leaf_of : ℕ → ℕ
leaf_of g = g / 16

unfoldable pub byte_of : ℕ → ℕ
byte_of g = 4 * (g % 16)

-- the groups of n leaves; group j of leaf k
unfoldable pub groups : ℕ → ℕ
groups n = 16 * n

abbrev pub group_on : ℕ → ℕ → ℕ
group_on k j = groups k + j

-- "There are n leaves, 1 to 262,144."; with a third level "n up to 1,048,576". No other number of levels has any.
abbrev pub most_leaves_of : (top : ℕ) → ℕ
most_leaves_of top = pick (eqb top 1) 262144 (pick (eqb top 2) 1048576 0)

abbrev pub most_leaves : ℕ
most_leaves = most_leaves_of 1

unfoldable pub in_limits_of : (top n : ℕ) → Bool
in_limits_of top n = both (leb 1 n) (leb n (most_leaves_of top))

abbrev pub in_limits : ℕ → Bool
in_limits n = in_limits_of 1 n

-- "There are T trackers, 1 to 8, and L lines, T + 1 to 64."
abbrev pub most_trackers : ℕ
most_trackers = 8

abbrev pub most_lines : ℕ
most_lines = 64

-- "Leaf k has its bit in map block k / 512, byte (k mod 512) / 8, bit k mod 8, bit 0 lowest."
-- Level 0 has the leaves; block k of any level has its bit in the level above by "the same block size and bit rule".
abbrev pub block_bits : ℕ
block_bits = 512

unfoldable pub map_block_of : ℕ → ℕ
map_block_of k = k / block_bits

unfoldable pub map_byte_of : ℕ → ℕ
map_byte_of k = k % block_bits / 8

unfoldable pub map_bit_of : ℕ → ℕ
map_bit_of k = k % 8

-- the block of level e that group g lies under
unfoldable pub index : ℕ → ℕ → ℕ
index zero g = leaf_of g
index (suc e) g = map_block_of (index e g)

-- "Memory is the n leaves, then the map blocks: 64 x (n + n/512 rounded up) bytes.", and the top blocks "after the map blocks in memory".
-- The blocks that have the bits of n blocks.
unfoldable pub map_blocks : ℕ → ℕ
map_blocks n = (n + (block_bits - 1)) / block_bits

-- the blocks of level e over n leaves, and those of all levels below e
abbrev pub count : ℕ → ℕ → ℕ
count zero n = n
count (suc e) n = map_blocks (count e n)

abbrev pub base : ℕ → ℕ → ℕ
base zero n = 0
base (suc zero) n = n
base (suc (suc e)) n = base (suc e) n + count (suc e) n

-- block k of level e among all blocks
abbrev pub block_on : ℕ → ℕ → ℕ → ℕ
block_on e n k = base e n + k

-- the block of level e that group g lies under, among all blocks
abbrev pub block_over : (e n g : ℕ) → ℕ
block_over e n g = block_on e n (index e g)

abbrev pub blocks_of : (top n : ℕ) → ℕ
blocks_of top n = base (suc top) n

abbrev pub blocks : ℕ → ℕ
blocks n = blocks_of 1 n

abbrev pub length_of : (top n : ℕ) → ℕ
length_of top n = 64 * blocks_of top n

abbrev pub memory_length : ℕ → ℕ
memory_length n = length_of 1 n

-- places in memory: of a block, of group g's first byte, and of the byte that has the bit of block k of level e; of leaf k
abbrev pub block_place : ℕ → ℕ
block_place b = 64 * b

abbrev pub group_place : ℕ → ℕ
group_place g = block_place (leaf_of g) + byte_of g

abbrev pub bit_place : ℕ → ℕ → ℕ → ℕ
bit_place e n k = block_place (block_on (suc e) n (map_block_of k)) + map_byte_of k

abbrev pub map_place : ℕ → ℕ → ℕ
map_place n k = bit_place 0 n k
