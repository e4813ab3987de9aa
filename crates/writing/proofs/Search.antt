-- Laws of counting and passing over leaves by words of the map: the records of the leaves before them.
use mathlib.Core.Path.{◌≡◌, ap, ◌∙◌}
use mathlib.Core.Bool.{true, false}
use mathlib.Core.List.{List}
use Prim.Native.Nat.{ℕ, ◌+◌, ◌*◌, ◌≤◌, ◌<◌}
use native.Mathlib.Omega.{arith}
use lib.Count.{ones}
use lib.Dec.{eqb}
use lib.ListN.{length}
use borrow.Author.Tests.{eqb-true, eqb-false}
use Rattle.laws.specs.Bits.{bit_of}
use Rattle.laws.specs.Bytes.{Bytes}
use Rattle.laws.specs.Scan.{count, first_from}
use Rattle.laws.proofs.Bits.{is_set, ones-count}
use Rattle.laws.proofs.Scan.{count_same, first_from-≤, first_from-≥, first_from-holds, first_from-before}
use Rattle.geometry.specs.TagMemory.{map_blocks}
use Rattle.memory.specs.PlainReading.{leaf_bit, marked, next_marked}
use Rattle.memory.specs.True.{map_word, is_true}
use Rattle.memory.proofs.Truth.{leaf_bit-lt, word-bit, true-means}
use Rattle.form.specs.Encode.{records_below, records_of}
use Rattle.form.proofs.Records.{below-unmarked, length_more}

-- the ones of a word are its leaves with bit 1
pub word_more : (n : ℕ) (m : List ℕ) → Bytes m → (i word : ℕ) → word ≡ map_word n m i → word < 4294967296
    → length (records_below n m (32 * (i + 1))) ≡ length (records_below n m (32 * i)) + ones word
word_more n m B i word w l =
    let e : 32 * (i + 1) ≡ 32 * i + 32 = omega arith in
    let s : count (is_set word) 32 ≡ count (λ x. eqb (leaf_bit n m (32 * i + x)) 1) 32 =
    count_same (is_set word) (λ x. eqb (leaf_bit n m (32 * i + x)) 1) 32 (λ x h. ap (λ (y : ℕ). eqb (bit_of y x) 1) w ∙ ap (λ (y : ℕ). eqb y 1) (word-bit n m B i x h)) in
    rw e (omega (arith, length_more n m (32 * i) 32, ones-count 32 word l, s))

-- past the last leaf a true memory has no bit 1
pub all-counted : (n : ℕ) (m : List ℕ) (i : ℕ) → is_true n m ≡ true → n ≤ 32 * i → 32 * i ≤ 512 * map_blocks n → records_below n m (32 * i) ≡ records_of n m
all-counted n m i t g h = below-unmarked n m n (32 * i) g (λ k a b. (true-means n m t).past k a (omega arith))

-- the next leaf with bit 1 from leaf k on, or n: between them there are no records
module _ (n : ℕ) (m : List ℕ) where
  zero-bit : (x : ℕ) → marked n m x ≡ false → leaf_bit n m x ≡ 0
  unfolding marked
  zero-bit x f = let o = eqb-false (leaf_bit n m x) 1 f in omega (arith, leaf_bit-lt n m x)

  one-bit : (x : ℕ) → marked n m x ≡ true → leaf_bit n m x ≡ 1
  unfolding marked
  one-bit x t = eqb-true (leaf_bit n m x) 1 t

  pub next-leaf : (k r : ℕ) → k ≤ n → r ≡ next_marked n m k n
      → (k ≤ r) × (r ≤ n) × (records_below n m r ≡ records_below n m k) × (r < n → leaf_bit n m r ≡ 1)
  unfolding next_marked
  next-leaf k r l e =
      let p = marked n m in
      let above = first_from-≥ p k n l in
      rw e (above, first_from-≤ p k n, below-unmarked n m k (first_from p k n) above (λ x g h. zero-bit x (first_from-before p k n x g h)), λ h. one-bit (first_from p k n) (first_from-holds p k n h))
