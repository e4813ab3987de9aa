-- Which blocks count, and plain reading, a law for each way out.
use mathlib.Core.Path.{◌≡◌, refl, ap, sym, ◌∙◌}
use mathlib.Core.List.{List, [], ◌∷◌}
use mathlib.Core.Bool.{Bool, true, false}
use Prim.Native.Nat.{ℕ, suc, ◌+◌, ◌-◌, ◌≤◌, ◌<◌}
use native.Mathlib.Numerals.{add-one}
use native.Mathlib.Omega.{arith}
use lib.Dec.{eqb, ltb}
use lib.ListN.{length}
use borrow.Author.Tests.{eq-eqb, ne_eqb, lt-ltb, le-ltb}
use Rattle.laws.specs.Choice.{both}
use Rattle.laws.proofs.Choice.{both_true, both-false-left, both-false-right}
use Rattle.laws.specs.Refusal.{refusal}
use Rattle.laws.proofs.Refusals.{refusal-0, refusal-first, refusal-then, unless-0, unless-no}
use Rattle.geometry.specs.TagMemory.{groups, in_limits_of, in_limits, length_of, memory_length, leaf_of, map_block_of, group_place}
use Rattle.block.specs.Block.{group_at}
use Rattle.memory.specs.PlainReading.{bit_over, leaf_bit, counts, plain_group_of, plain_group, sized_of, reading_tests_of, plain_reading_of, plain_reading}
use Rattle.memory.proofs.Sized.{sized_of-fit}

-- a test beside one that holds
both_is : (a : Bool) {b : Bool} → b ≡ true → both a b ≡ a
unfolding both
both_is true e = e
both_is false e = refl

-- below the top: bit 1 in a block that counts, or the one or the other is missing
module _ (d e n : ℕ) (m : List ℕ) (k : ℕ) where
  pub counts-1 : counts d (suc e) n m (map_block_of k) ≡ true → bit_over e n m k ≡ 1 → counts (suc d) e n m k ≡ true
  counts-1 a b = both_true _ _ a (eq-eqb _ _ b)

  pub counts-0 : (bit_over e n m k ≡ 1 → ⊥) → counts (suc d) e n m k ≡ false
  counts-0 b = both-false-right (counts d (suc e) n m (map_block_of k)) _ (ne_eqb _ _ b)

  pub counts-stale : counts d (suc e) n m (map_block_of k) ≡ false → counts (suc d) e n m k ≡ false
  counts-stale a = both-false-left _ _ a

-- of two levels, a leaf does by its bit
pub counts-leaf : (n : ℕ) (m : List ℕ) (k : ℕ) → counts 1 0 n m k ≡ eqb (leaf_bit n m k) 1
unfolding both leaf_bit
counts-leaf n m k = refl

-- level by level from level c of a memory of top level top: nothing is left to ask at the top; below it, the bit, then the block that has it
module _ (top c n : ℕ) (m : List ℕ) (j : ℕ) where
  pub counts-top : top ≤ c → counts (top - c) c n m j ≡ true
  counts-top l = let z : top - c ≡ 0 = omega arith in rw z

  steps : c < top → top - c ≡ suc (top - (c + 1))
  steps l = omega arith

  pub counts-stop : c < top → (bit_over c n m j ≡ 1 → ⊥) → counts (top - c) c n m j ≡ false
  counts-stop l b = rw (steps l) (counts-0 (top - (c + 1)) c n m j b)

  pub counts_up : c < top → bit_over c n m j ≡ 1 → counts (top - c) c n m j ≡ counts (top - (c + 1)) (c + 1) n m (map_block_of j)
  counts_up l b = rw (steps l, add-one) (both_is (counts (top - suc c) (suc c) n m (map_block_of j)) (eq-eqb _ _ b))

-- a group's leaf, from the leaves' level
pub counts-leaf_of : (top n : ℕ) (m : List ℕ) (g : ℕ) {k : ℕ} {b : Bool} → b ≡ counts (top - 0) 0 n m k → k ≡ leaf_of g → counts top 0 n m (leaf_of g) ≡ b
counts-leaf_of top n m g {k} e q = let z : top - 0 ≡ top = omega arith in sym (e ∙ ap (λ (x : ℕ). counts x 0 n m k) z ∙ ap (counts top 0 n m) q)

module _ (top n : ℕ) (m : List ℕ) (g : ℕ) where
  pub plain_group_of-0 : counts top 0 n m (leaf_of g) ≡ false → plain_group_of top n m g ≡ 0
  plain_group_of-0 h = rw h

  pub plain_group_of-1 : counts top 0 n m (leaf_of g) ≡ true → plain_group_of top n m g ≡ group_at m (group_place g)
  plain_group_of-1 h = rw h

  refused_of : (c : ℕ) → refusal (reading_tests_of top n m g) ≡ c → 0 < c → plain_reading_of top n m g ≡ 4294967296 + c
  refused_of c e h = unless-no (plain_group_of top n m g) (λ c. 4294967296 + c) (omega arith) ∙ rw e

  pub misfit_of : 0 < refusal (sized_of top n m) → plain_reading_of top n m g ≡ 4294967296 + refusal (sized_of top n m)
  misfit_of h = refused_of (refusal (sized_of top n m)) (refusal-then (sized_of top n m) ((ltb g (groups n), 6) ∷ []) h) h

  pub refused_of-6 : in_limits_of top n ≡ true → length m ≡ length_of top n → groups n ≤ g → plain_reading_of top n m g ≡ 4294967302
  refused_of-6 h l q = refused_of 6 (refusal-first (sized_of top n m) (ltb g (groups n)) 6 [] (sized_of-fit top n m h l) (le-ltb g (groups n) q)) (omega arith)

  pub accepted_of : in_limits_of top n ≡ true → length m ≡ length_of top n → g < groups n → plain_reading_of top n m g ≡ plain_group_of top n m g
  accepted_of h l q =
      unless-0 (plain_group_of top n m g) (λ c. 4294967296 + c)
      (refusal-0 (reading_tests_of top n m g) (h, (eq-eqb (length m) (length_of top n) l, (lt-ltb g (groups n) q, tt))))

-- of two levels
module _ (n : ℕ) (m : List ℕ) (g : ℕ) where
  pub plain_group-0 : (leaf_bit n m (leaf_of g) ≡ 1 → ⊥) → plain_group n m g ≡ 0
  unfolding plain_group
  plain_group-0 h = plain_group_of-0 1 n m g (counts-leaf n m (leaf_of g) ∙ ne_eqb _ _ h)

  pub plain_group-1 : leaf_bit n m (leaf_of g) ≡ 1 → plain_group n m g ≡ group_at m (group_place g)
  unfolding plain_group
  plain_group-1 h = plain_group_of-1 1 n m g (counts-leaf n m (leaf_of g) ∙ eq-eqb _ _ h)

  pub refused-6 : in_limits n ≡ true → length m ≡ memory_length n → groups n ≤ g → plain_reading n m g ≡ 4294967302
  unfolding plain_reading
  refused-6 h l q = refused_of-6 1 n m g h l q

  pub accepted : in_limits n ≡ true → length m ≡ memory_length n → g < groups n → plain_reading n m g ≡ plain_group n m g
  unfolding plain_reading plain_group
  accepted h l q = accepted_of 1 n m g h l q
