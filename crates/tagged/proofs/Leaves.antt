-- On a true memory a leaf with bit 1 is one in which some group reads not zero: the leaves counted are the tagged ones.
use mathlib.Core.Path.{◌≡◌, ap, sym, ◌∙◌}
use mathlib.Core.Bool.{true}
use mathlib.Core.List.{List}
use Prim.Native.Nat.{ℕ, zero, suc, ◌+◌, ◌*◌, ◌/◌, ◌%◌, ◌≤◌, ◌<◌}
use native.Mathlib.Omega.{arith}
use lib.ListN.{length, get_or}
use mathlib.Core.Logic.{⊎_elim}
use Rattle.laws.proofs.Choice.{not-both-ways, true-or-false}
use Rattle.geometry.specs.TagMemory.{leaf_of, byte_of, group_on, memory_length, group_place, block_place}
use Rattle.geometry.proofs.Places.{leaf_of-group_on, byte_of-group_on, group-lt, group-inside}
use Rattle.block.specs.Block.{group_at}
use Rattle.block.proofs.Groups.{group_at-fits}
use Rattle.memory.specs.PlainReading.{leaf_bit}
use Rattle.memory.specs.True.{is_true, SomeByte}
use Rattle.memory.proofs.Reading.{plain_group-1}
use Rattle.memory.proofs.Truth.{true-means}
use Rattle.tagged.specs.Tagged.{is_tagged, is_marked}
use Rattle.tagged.proofs.Marked.{untagged, tagged_is}

-- some group of leaf k reads not zero
pub TaggedLeaf : ℕ → List ℕ → ℕ → Type 0
TaggedLeaf n m k = (g : ℕ) × (leaf_of g ≡ k) × (is_tagged n m g ≡ true)

-- a group of four zero bytes
four : (m : List ℕ) (a r : ℕ) → r < 4 → a + 4 ≤ length m → group_at m a ≡ 0 → get_or m (a + r) 0 ≡ 0
four m a zero l h z = let e : a + 0 ≡ a = omega arith in rw e (omega (arith, group_at-fits m a h))
four m a (suc zero) l h z = omega (arith, group_at-fits m a h)
four m a (suc (suc zero)) l h z = omega (arith, group_at-fits m a h)
four m a (suc (suc (suc zero))) l h z = omega (arith, group_at-fits m a h)
four m a (suc (suc (suc (suc r)))) l h z = absurd (omega arith)

some-group : (n : ℕ) (m : List ℕ) (k : ℕ) → length m ≡ memory_length n → k < n → leaf_bit n m k ≡ 1 → SomeByte m k → TaggedLeaf n m k
unfolding TaggedLeaf
some-group n m k h l b (i, q, z) =
    let j = i / 4 in
    let g = group_on k j in
    let e : leaf_of g ≡ k = leaf_of-group_on k j (omega arith) in
    let f : byte_of g ≡ 4 * j = byte_of-group_on k j (omega arith) in
    let p : group_place g + i % 4 ≡ block_place k + i = omega arith in
    let s : group_place g + 4 ≤ block_place n = group-inside n g (group-lt n g (omega arith)) in
    (g, e, tagged_is n m g (λ y. z (ap (λ (a : ℕ). get_or m a 0) (sym p) ∙ four m (group_place g) (i % 4) (omega arith) (omega arith) (sym (plain_group-1 n m g (ap (leaf_bit n m) e ∙ b)) ∙ y))))

module _ (n : ℕ) (m : List ℕ) where
  -- a leaf with bit 1 is a tagged leaf
  pub marked-tagged : length m ≡ memory_length n → is_true n m ≡ true → (k : ℕ) → k < n → leaf_bit n m k ≡ 1 → TaggedLeaf n m k
  marked-tagged h t k l b = some-group n m k h l b ((true-means n m t).over k l b)

  -- and on any memory a tagged group has bit 1 above it
  pub tagged-marked : (g : ℕ) → is_tagged n m g ≡ true → is_marked n m (leaf_of g) ≡ true
  tagged-marked g t = ⊎_elim (λ h. h) (λ h. absurd (not-both-ways t (untagged n m g h))) (true-or-false (is_marked n m (leaf_of g)))
