-- Laws of what is taken: one for each way that a record and a block can go.
use mathlib.Core.Path.{◌≡◌, refl, ap, sym, ◌∙◌}
use mathlib.Core.List.{List, [], ◌∷◌, ◌++◌}
use mathlib.Core.Bool.{Bool, true, false}
use Prim.Native.Nat.{ℕ, zero, suc, ◌+◌, ◌*◌, ◌-◌, ◌≤◌}
use native.Mathlib.Numerals.{add-one}
use native.Mathlib.Omega.{arith}
use lib.ListN.{length, get_or, length-append}
use lib.Seq.{get_or_at}
use lib.Dec.{eqb}
use Rattle.laws.proofs.Choice.{both_right}
use Rattle.form.specs.Encode.{Record, none}
use Rattle.form.specs.Test.{whole_blocks, image_block, count_of, record_in, leaves_in, good_above, lowest}
use Rattle.form.proofs.Sound.{count-bounds, sound-count}
use Rattle.form.proofs.Rules.{lowest-none, lowest-more}
use Rattle.damaged.specs.Taken.{Taken, used, above, take_record, take_records, take_block, take_blocks}

-- one element more at the end
module _ {A : Type 0} (xs : List A) (x : A) where
  pub length_more : length (xs ++ (x ∷ [])) ≡ length xs + 1
  length_more = length-append xs (x ∷ [])

  pub get_d-last : (d : A) → get_or (xs ++ (x ∷ [])) (length xs) d ≡ x
  get_d-last d = get_or_at xs x [] d (length xs) refl

pub above-none : above [] ≡ 0
unfolding above
above-none = lowest-none 0 (λ p. get_or [] p none)

pub above_more : (rs : List Record) (r : Record) → above (rs ++ (r ∷ [])) ≡ r.leaf + 1
unfolding above
above_more rs r =
    ap (lowest 0 (λ p. get_or (rs ++ (r ∷ [])) p none)) (length_more rs r) ∙ lowest-more 0 (λ p. get_or (rs ++ (r ∷ [])) p none) (length rs)
    ∙ ap (λ (x : Record). x.leaf + 1) (get_d-last rs r none)

-- a record that is kept, and one that is left out
module _ (n j : ℕ) (b : List ℕ) (t : Taken) (i : ℕ) where
  pub record-kept : good_above n (above t.kept) (record_in b i) ≡ true
      → take_record n j b t i ≡ record { kept = t.kept ++ (record_in b i ∷ []); listed = t.listed }
  unfolding take_record
  record-kept h = rw h

  pub record-left : good_above n (above t.kept) (record_in b i) ≡ false
      → take_record n j b t i ≡ record { kept = t.kept; listed = t.listed ++ ((8 * j + i) ∷ []) }
  unfolding take_record
  record-left h = rw h

module _ (n j : ℕ) (b : List ℕ) (t : Taken) where
  pub records-none : take_records n j b t 0 ≡ t
  unfolding take_records
  records-none = refl

  pub records-more : (i : ℕ) → take_records n j b t (i + 1) ≡ take_record n j b (take_records n j b t i) i
  unfolding take_records
  records-more i = rw (add-one i)

  pub block-used : (sound : Bool) → sound ≡ true → take_block n j sound b t ≡ take_records n j b t (count_of b)
  unfolding take_block
  block-used sound h = rw h

  pub block-left : (sound : Bool) → sound ≡ false → take_block n j sound b t ≡ record { kept = t.kept; listed = t.listed ++ ((8 * j + 7) ∷ []) }
  unfolding take_block
  block-left sound h = rw h

-- a block that is used has at most seven records
pub used-few : (image : List ℕ) (j : ℕ) → used image j ≡ true → count_of (image_block image j) ≤ 7
unfolding used
used-few image j h =
    (count-bounds (eqb (j + 1) (whole_blocks image)) (count_of (image_block image j)) (sound-count (eqb (j + 1) (whole_blocks image)) j (image_block image j) (both_right _ _ h))).1

pub blocks-none : (image : List ℕ) → take_blocks image 0 ≡ record { kept = []; listed = [] }
unfolding take_blocks
blocks-none image = refl

pub blocks_more : (image : List ℕ) (j : ℕ) {n : ℕ} {s : Bool} {b : List ℕ} → 1 ≤ j → n ≡ leaves_in image → s ≡ used image j → b ≡ image_block image j
    → take_block n j s b (take_blocks image (j - 1)) ≡ take_blocks image (j + 1 - 1)
unfolding take_blocks
blocks_more image zero l e f g = absurd (omega arith)
blocks_more image (suc j) l e f g =
    let p : suc j - 1 ≡ j = omega arith in
    let q : suc (suc j - 1) ≡ suc j + 1 - 1 = omega arith in
    (λ i. take_block (e i) (suc j) (f i) (g i) (take_blocks image (p i))) ∙ ap (take_blocks image) (ap suc (sym p) ∙ q)
