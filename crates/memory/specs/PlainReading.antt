-- 01 "The tag memory": plain reading and its refusals. Over the levels 0 to top (02, E5); 01's memory has the top level 1.
use Rattle.std.specs.Prelude.{List, [], ◌∷◌, ◌++◌, Bool, true, ℕ, zero, suc, ◌+◌, length, eqb, ltb}
use Rattle.geometry.specs.TagMemory.{groups, leaf_of, in_limits_of, length_of, map_block_of, map_bit_of, group_place, bit_place}
use Rattle.laws.specs.Choice.{pick, both}
use Rattle.laws.specs.Scan.{first_from}
use Rattle.laws.specs.Refusal.{Tests, refusal, unless}
use Rattle.block.specs.Block.{group_at, bit_at}

-- the bit over block k of level e in a memory of n leaves; over leaf k
abbrev pub bit_over : ℕ → ℕ → List ℕ → ℕ → ℕ
bit_over e n m k = bit_at m (bit_place e n k) (map_bit_of k)

unfoldable pub leaf_bit : ℕ → List ℕ → ℕ → ℕ
leaf_bit n m k = bit_over 0 n m k

-- leaf k has bit 1; the first such leaf from k up to but not including end, and end where there is none
unfoldable pub marked : ℕ → List ℕ → ℕ → Bool
marked n m k = eqb (leaf_bit n m k) 1

unfoldable pub next_marked : ℕ → List ℕ → (k end : ℕ) → ℕ
next_marked n m k end = first_from (marked n m) k end

-- Block k of level e counts, which is d levels below the top: a top block always, another if its bit is 1 in a block that counts.
-- "Under top bit 0 the map block is stale and counts as zeros"
abbrev pub counts : (d e n : ℕ) → List ℕ → ℕ → Bool
counts zero e n m k = true
counts (suc d) e n m k = both (counts d (suc e) n m (map_block_of k)) (eqb (bit_over e n m k) 1)

-- "a group under bit 0 is zero, wherever its leaf's bytes came from; under bit 1 it is the leaf's bytes"
abbrev pub plain_group_of : ℕ → ℕ → List ℕ → ℕ → ℕ
plain_group_of top n m g = pick (counts top 0 n m (leaf_of g)) (group_at m (group_place g)) 0

unfoldable pub plain_group : ℕ → List ℕ → ℕ → ℕ
plain_group n m g = plain_group_of 1 n m g

-- what a call asks first of a memory lent for n leaves, 1 and 2
abbrev pub sized_of : ℕ → ℕ → List ℕ → Tests
sized_of top n m = (in_limits_of top n, 1) ∷ (eqb (length m) (length_of top n), 2) ∷ []

abbrev pub sized : ℕ → List ℕ → Tests
sized n m = sized_of 1 n m

-- "plain reading 1, 2, 6"
abbrev pub reading_tests_of : ℕ → ℕ → List ℕ → ℕ → Tests
reading_tests_of top n m g = sized_of top n m ++ (ltb g (groups n), 6) ∷ []

-- "Plain reading gives the group, or 4,294,967,296 plus the refusal"
abbrev pub plain_reading_of : ℕ → ℕ → List ℕ → ℕ → ℕ
plain_reading_of top n m g = unless (refusal (reading_tests_of top n m g)) (plain_group_of top n m g) (λ c. 4294967296 + c)

unfoldable pub plain_reading : ℕ → List ℕ → ℕ → ℕ
plain_reading n m g = plain_reading_of 1 n m g
