-- Each promise of this crate allows one result for one input.
use mathlib.Core.Path.{◌≡◌, sym, ◌∙◌}
use mathlib.Core.List.{List}
use Prim.Native.Nat.{ℕ}
use Rattle.memory.specs.PlainReading.{plain_reading}
use Rattle.tagged.specs.Tagged.{between, between_as_true, group_number, leaves_number}
use Rattle.tagged.proofs.One.{first-tagged-one, tagged-leaves-one, first-tagged-as-true-one, tagged-leaves-as-true-one}
use Rattle.form.specs.Test.{image_test}

pub tag-plain-read-one : (n : ℕ) (m : List ℕ) (g : ℕ) {r s : ℕ} → r ≡ plain_reading n m g → s ≡ plain_reading n m g → r ≡ s
tag-plain-read-one n m g p q = p ∙ sym q

pub tag-image-test-one : (image : List ℕ) {r s : ℕ} → r ≡ image_test image → s ≡ image_test image → r ≡ s
tag-image-test-one image p q = p ∙ sym q

pub tag-first-tagged-one : (n : ℕ) (m : List ℕ) (a b : ℕ) {r s : ℕ} → r ≡ group_number (between n m a b) → s ≡ group_number (between n m a b) → r ≡ s
tag-first-tagged-one = first-tagged-one

pub tag-tagged-leaves-one : (n : ℕ) (m : List ℕ) (a b : ℕ) {r s : ℕ} → r ≡ leaves_number (between n m a b) → s ≡ leaves_number (between n m a b) → r ≡ s
tag-tagged-leaves-one = tagged-leaves-one

pub tag-first-tagged-as-true-one : (n : ℕ) (m : List ℕ) (a b : ℕ) {r s : ℕ} → r ≡ group_number (between_as_true n m a b) → s ≡ group_number (between_as_true n m a b) → r ≡ s
tag-first-tagged-as-true-one = first-tagged-as-true-one

pub tag-tagged-leaves-as-true-one : (n : ℕ) (m : List ℕ) (a b : ℕ) {r s : ℕ} → r ≡ leaves_number (between_as_true n m a b) → s ≡ leaves_number (between_as_true n m a b) → r ≡ s
tag-tagged-leaves-as-true-one = tagged-leaves-as-true-one
