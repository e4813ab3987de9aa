-- The search for a leaf with bit 1 by words of the map: what a word, from leaf j's bit on, says of j and the leaves after it.
use mathlib.Core.Path.{◌≡◌, ap, sym, ◌∙◌}
use mathlib.Core.Bool.{true, false}
use mathlib.Core.List.{List}
use mathlib.Core.Logic.{⊎_elim}
use Prim.Native.Nat.{ℕ, ◌+◌, ◌-◌, ◌*◌, ◌/◌, ◌%◌, ◌^◌, ◌≤◌, ◌<◌, min}
use native.Mathlib.Nat.{div-le_self}
use native.Mathlib.Omega.{arith}
use borrow.Author.Tests.{eq-eqb, ne_eqb}
use lib.Count.{count_trailing_zeros}
use Rattle.laws.specs.Bits.{bit_of}
use Rattle.laws.specs.Bytes.{Bytes}
use Rattle.laws.proofs.Bits.{bit_of-0, bit_of-shr, bit_of-past, lowest-one, lowest-below}
use Rattle.laws.proofs.Splice.{lt-or-ge}
use Rattle.laws.proofs.Scan.{first_from-hit, first_from-none, first_from-skip}
use Rattle.memory.specs.PlainReading.{leaf_bit, marked, next_marked}
use Rattle.memory.specs.True.{map_word}
use Rattle.memory.proofs.Truth.{word-bit}

module _ (n : ℕ) (m : List ℕ) (B : Bytes m) (j word rest : ℕ) (w : word ≡ map_word n m (j / 32)) (l : word < 4294967296) (e : rest ≡ word / 2 ^ (j % 32)) where
  in-word : (x : ℕ) → bit_of rest x ≡ bit_of word (j % 32 + x)
  in-word x = ap (λ (y : ℕ). bit_of y x) e ∙ bit_of-shr word (j % 32) x

  rest-bit : (k : ℕ) → j ≤ k → k < j / 32 * 32 + 32 → bit_of rest (k - j) ≡ leaf_bit n m k
  rest-bit k a h =
      let p : 32 * (j / 32) + (j % 32 + (k - j)) ≡ k = omega arith in
      in-word (k - j) ∙ ap (λ (y : ℕ). bit_of y (j % 32 + (k - j))) w ∙ word-bit n m B (j / 32) (j % 32 + (k - j)) (omega arith) ∙ ap (leaf_bit n m) p

  -- it is zero: no leaf from j to the word's last has bit 1
  pub none_left : rest ≡ 0 → (k : ℕ) → j ≤ k → k < j / 32 * 32 + 32 → leaf_bit n m k ≡ 0
  none_left z k a h = sym (rest-bit k a h) ∙ ap (λ (y : ℕ). bit_of y (k - j)) z ∙ bit_of-0 (k - j)

  -- it is not: its lowest one is the bit of the first leaf from j on that has bit 1
  module _ (some : rest ≡ 0 → ⊥) where
    abbrev zeros : ℕ
    zeros = count_trailing_zeros 32 rest

    small : rest < 4294967296
    small = omega (arith, e, l, div-le_self word (2 ^ (j % 32)))

    lowest : (zeros < 32) × (bit_of rest zeros ≡ 1)
    lowest = lowest-one 32 rest (⊎_elim (λ (z : rest < 1). absurd (some (omega arith))) (λ (z : 1 ≤ rest). omega arith) (lt-or-ge rest 1)) small

    pub in-it : j % 32 + zeros < 32
    in-it =
        ⊎_elim
        (λ h. h)
        (λ (h : 32 ≤ j % 32 + zeros). let z : bit_of word (j % 32 + zeros) ≡ 0 = bit_of-past word 32 (j % 32 + zeros) l h in absurd (omega (arith, in-word zeros, lowest.1)))
        (lt-or-ge (j % 32 + zeros) 32)

    pub found : leaf_bit n m (j + zeros) ≡ 1
    found =
        let p : j + zeros - j ≡ zeros = omega arith in
        sym (rest-bit (j + zeros) (omega arith) (omega (arith, in-it))) ∙ ap (bit_of rest) p ∙ lowest.1

    pub none_before : (k : ℕ) → j ≤ k → k < j + zeros → leaf_bit n m k ≡ 0
    none_before k a h = sym (rest-bit k a (omega (arith, in-it))) ∙ lowest-below 32 rest (k - j) (omega arith)

-- word i, from its own first leaf on
pub its-word : (n : ℕ) (m : List ℕ) (i word : ℕ) → word ≡ map_word n m i → word ≡ map_word n m (32 * i / 32)
its-word n m i word w =
    let h : i ≡ 32 * i / 32 = omega arith in
    w ∙ ap (map_word n m) h

pub whole-word : (i word : ℕ) → word ≡ word / 2 ^ (32 * i % 32)
whole-word i word =
    let h : 0 ≡ 32 * i % 32 = omega arith in
    let z : word ≡ word / 1 = omega arith in
    z ∙ ap (λ (y : ℕ). word / 2 ^ y) h

-- leaves with bit 1, from leaf k on
module _ (n : ℕ) (m : List ℕ) where
  marked-not : (k : ℕ) → leaf_bit n m k ≡ 0 → marked n m k ≡ false
  unfolding marked
  marked-not k h = ne_eqb (leaf_bit n m k) 1 (λ o. absurd (omega arith))

  marked-is : (k : ℕ) → leaf_bit n m k ≡ 1 → marked n m k ≡ true
  unfolding marked
  marked-is k h = eq-eqb (leaf_bit n m k) 1 h

  -- past leaves with bit 0
  pub skip-leaves : (k j end : ℕ) → k ≤ j → ((x : ℕ) → k ≤ x → x < j → leaf_bit n m x ≡ 0) → next_marked n m j end ≡ next_marked n m k end
  unfolding next_marked
  skip-leaves k j end h z = first_from-skip (marked n m) k j end h (λ c q r. marked-not c (z c q r))

  -- up to one with bit 1, or the end
  pub hit-leaf : (k r end : ℕ) → k ≤ r → ((x : ℕ) → k ≤ x → x < r → leaf_bit n m x ≡ 0) → leaf_bit n m r ≡ 1 → min end r ≡ next_marked n m k end
  unfolding next_marked
  hit-leaf k r end h z o =
      ⊎_elim
      (λ (l : r < end). let e : min end r ≡ r = omega arith in
      e ∙ sym (first_from-hit (marked n m) r end l (marked-is r o)) ∙ first_from-skip (marked n m) k r end h (λ c q s. marked-not c (z c q s)))
      (λ (l : end ≤ r). let e : min end r ≡ end = omega arith in
      e ∙ sym (first_from-none (marked n m) k end (λ c q s. marked-not c (z c q (omega arith)))))
      (lt-or-ge r end)

  -- the end is reached
  pub no-leaf : (k end : ℕ) → end ≤ k → end ≡ next_marked n m k end
  unfolding next_marked
  no-leaf k end h = sym (first_from-none (marked n m) k end (λ c q r. absurd (omega arith)))
