-- Each promise of this crate allows one result for one input: the answer, or the lent bytes, equal a definition.
use mathlib.Core.Path.{◌≡◌}
use mathlib.Core.Bool.{Bool}
use mathlib.Core.List.{List}
use Prim.Native.Nat.{ℕ, ◌<◌}
use Rattle.std.specs.Prelude.{Result, IfOk}
use Rattle.laws.specs.declared.Refusal.{Refusal}
use Rattle.laws.specs.Refusal.{refusal, refused_with, given}
use Rattle.laws.proofs.Told.{refused-one, given-one}
use Rattle.geometry.proofs.One.{one}
use Rattle.memory.specs.PlainReading.{bit_over, next_marked, plain_group_of, plain_group, sized_of, sized, plain_reading_of, plain_reading}
use Rattle.memory.specs.True.{map_word, is_true_of, is_true, cleared_of, cleared_map}

module _ (n : ℕ) (m : List ℕ) where
  pub bit-over-one : (e k : ℕ) {r s : ℕ} → r ≡ bit_over e n m k → s ≡ bit_over e n m k → r ≡ s
  bit-over-one e k = one

  pub next-marked-one : (k end : ℕ) {r s : ℕ} → r ≡ next_marked n m k end → s ≡ next_marked n m k end → r ≡ s
  next-marked-one k end = one

  pub plain-group-of-one : (top g : ℕ) {r s : ℕ} → r ≡ plain_group_of top n m g → s ≡ plain_group_of top n m g → r ≡ s
  plain-group-of-one top g = one

  pub plain-group-one : (g : ℕ) {r s : ℕ} → r ≡ plain_group n m g → s ≡ plain_group n m g → r ≡ s
  plain-group-one g = one

  pub fits-of-one : (top : ℕ) (r s : Result Unit Refusal) → refused_with r ≡ refusal (sized_of top n m) → refused_with s ≡ refusal (sized_of top n m) → r ≡ s
  fits-of-one top r s p q = refused-one r s (one p q)

  pub fits-one : (r s : Result Unit Refusal) → refused_with r ≡ refusal (sized n m) → refused_with s ≡ refusal (sized n m) → r ≡ s
  fits-one r s p q = refused-one r s (one p q)

  -- a group has 32 bits
  pub plain-reading-of-one : (top g : ℕ) (r s : Result ℕ Refusal) → IfOk r (λ v. v < 4294967296) → IfOk s (λ v. v < 4294967296)
      → given r ≡ plain_reading_of top n m g → given s ≡ plain_reading_of top n m g → r ≡ s
  plain-reading-of-one top g r s a b p q = given-one r s a b (one p q)

  pub plain-reading-one : (g : ℕ) (r s : Result ℕ Refusal) → IfOk r (λ v. v < 4294967296) → IfOk s (λ v. v < 4294967296)
      → given r ≡ plain_reading n m g → given s ≡ plain_reading n m g → r ≡ s
  plain-reading-one g r s a b p q = given-one r s a b (one p q)

  pub map-word-one : (i : ℕ) {r s : ℕ} → r ≡ map_word n m i → s ≡ map_word n m i → r ≡ s
  map-word-one i = one

  pub is-true-of-one : (top : ℕ) {r s : Bool} → r ≡ is_true_of top n m → s ≡ is_true_of top n m → r ≡ s
  is-true-of-one top = one

  pub is-true-one : {r s : Bool} → r ≡ is_true n m → s ≡ is_true n m → r ≡ s
  is-true-one = one

  pub clear-of-one : (top : ℕ) {r s : List ℕ} → r ≡ cleared_of top n m → s ≡ cleared_of top n m → r ≡ s
  clear-of-one top = one

  pub clear-map-one : {r s : List ℕ} → r ≡ cleared_map n m → s ≡ cleared_map n m → r ≡ s
  clear-map-one = one
