-- 01 "The tag memory": a true memory, and a fresh one. Over the levels 0 to top (02, E5); 01's memory has the top level 1.
use Rattle.std.specs.Prelude.{◌≡◌, List, ◌++◌, Bool, true, ℕ, zero, suc, ◌+◌, ◌-◌, ◌*◌, ◌≤◌, ◌<◌, length, get_or, take, replicate, eqb, ltb}
use Rattle.laws.specs.Choice.{both, implies, no}
use Rattle.laws.specs.Bytes.{part, value}
use Rattle.laws.specs.Scan.{all}
use Rattle.geometry.specs.TagMemory.{block_bits, map_blocks, count, base, block_place}
use Rattle.block.specs.Block.{all_zero}
use Rattle.memory.specs.PlainReading.{leaf_bit, counts}

-- the 64 bytes of block b
abbrev pub block_at : List ℕ → ℕ → List ℕ
block_at m b = part m (block_place b) 64

-- block k of the c blocks from block b on is there, with some byte not zero
abbrev pub some_block : (b c : ℕ) → List ℕ → ℕ → Bool
some_block b c m k = both (ltb k c) (no (all_zero (block_at m (b + k))))

-- "every bit 1 stands over a leaf with some byte not zero and all bits for leaves n and up are 0": of one bit.
-- That over block k of level e, d levels below the top: a block that counts is there, with some byte not zero.
abbrev pub true_on : (d e n : ℕ) → List ℕ → ℕ → Bool
true_on d e n m k = implies (counts d e n m k) (some_block (base e n) (count e n) m k)

unfoldable pub true_at : ℕ → List ℕ → ℕ → Bool
true_at n m k = true_on 1 0 n m k

-- the same of the bit over block k of the c blocks from block b on, whose bits stand in the blocks after them
abbrev pub true_bit : (b c : ℕ) → List ℕ → ℕ → Bool
true_bit b c m k = implies (eqb (leaf_bit (b + c) m k) 1) (some_block b c m k)

-- the map's word i, the bits of leaves 32 i to 32 i + 31: four bytes as a number, low byte first
unfoldable pub map_word : ℕ → List ℕ → ℕ → ℕ
map_word n m i = value (part m (block_place n + 4 * i) 4)

-- of the 32 bits of word i over those blocks
unfoldable pub true_word : (b c : ℕ) → List ℕ → ℕ → Bool
true_word b c m i = all (λ x. true_bit b c m (32 * i + x)) 32

-- of the bits over level e, d levels below the top: of those in block j, and of all
unfoldable pub true_block : (d e n : ℕ) → List ℕ → ℕ → Bool
true_block d e n m j = all (λ x. true_on d e n m (block_bits * j + x)) block_bits

abbrev pub true_level : (d e n : ℕ) → List ℕ → Bool
true_level d e n m = all (true_on d e n m) (block_bits * count (suc e) n)

-- "A memory is true when" that holds of every bit: of those over level e, d levels below the top, and of those above. "true is asked of both levels"
abbrev pub true_from : (d e n : ℕ) → List ℕ → Bool
true_from zero e n m = true
true_from (suc d) e n m = both (true_from d (suc e) n m) (true_level (suc d) e n m)

abbrev pub is_true_of : ℕ → ℕ → List ℕ → Bool
is_true_of top n m = true_from top 0 n m

unfoldable pub is_true : ℕ → List ℕ → Bool
is_true n m = is_true_of 1 n m

-- some byte of block b is not zero
abbrev pub SomeByte : List ℕ → ℕ → Type 0
SomeByte m b = (i : ℕ) × (i < 64) × (get_or m (block_place b + i) 0 ≡ 0 → ⊥)

-- 01's sentence as a statement: what `is_true` tests
pub record TrueMemory (n : ℕ) (m : List ℕ) : Type 0 where
  -- "every bit 1 stands over a leaf with some byte not zero"
  pub over : (k : ℕ) → k < n → leaf_bit n m k ≡ 1 → SomeByte m k
  -- "and all bits for leaves n and up are 0"
  pub past : (k : ℕ) → n ≤ k → k < block_bits * map_blocks n → leaf_bit n m k ≡ 0

-- "A fresh memory sets every map byte to 0 and touches nothing else."; "fresh zeroes only top blocks"
abbrev pub cleared_of : ℕ → ℕ → List ℕ → List ℕ
cleared_of top n m = take (block_place (base top n)) m ++ replicate (length m - block_place (base top n)) 0

unfoldable pub cleared_map : ℕ → List ℕ → List ℕ
cleared_map n m = cleared_of 1 n m
