-- Laws of sound blocks and counts: the ways out of each test, and what a test that holds says.
use mathlib.Core.Path.{◌≡◌, refl, ap, sym, ◌∙◌}
use mathlib.Core.List.{List}
use mathlib.Core.Bool.{Bool, true, false}
use Prim.Native.Nat.{ℕ, ◌+◌, ◌*◌, ◌-◌, ◌≤◌, ◌<◌}
use native.Mathlib.Omega.{arith}
use lib.ListN.{length, replicate}
use lib.Dec.{eqb, leb}
use borrow.Author.Tests.{eq-eqb, ne_eqb, eqb-true, eqb-false, leb-true, le-leb, lt-leb}
use mathlib.Core.Logic.{⊎_elim}
use Rattle.laws.specs.Bytes.{part}
use Rattle.laws.specs.Choice.{pick, both, either}
use Rattle.laws.specs.Scan.{all}
use Rattle.laws.proofs.Scan.{all-at}
use Rattle.laws.proofs.Splice.{lt-or-ge, length-part'}
use Rattle.laws.proofs.Choice.{true-or-false, both-when, both_left, both_right, both-false-left, both-false-right}
use Rattle.geometry.specs.TagMemory.{in_limits}
use Rattle.sums.specs.Check.{modulus_for}
use Rattle.sums.proofs.Words.{modulus-old, modulus-new}
use Rattle.form.specs.Encode.{Form, Fit, version1, version2, form_for, head_rest}
use Rattle.form.specs.Test.{form_in, same, whole_blocks, image_block, number_of, kind_of, version_of, leaves_of, count_of, unused_zero, head_sound, count_right, block_sound, sound_at, record_count}
use Rattle.form.proofs.Rows.{same-zeros}

-- counts
pub count-last : (last : Bool) (c : ℕ) → last ≡ true → count_right last c ≡ both (leb 1 c) (leb c 7)
unfolding count_right
count-last last c e = rw e

pub count-full : (last : Bool) (c : ℕ) → last ≡ false → count_right last c ≡ eqb c 7
unfolding count_right
count-full last c e = rw e

pub count-bounds : (last : Bool) (c : ℕ) → count_right last c ≡ true → (1 ≤ c) × (c ≤ 7)
unfolding count_right
count-bounds true c h = (leb-true 1 c (both_left (leb 1 c) (leb c 7) h), leb-true c 7 (both_right (leb 1 c) (leb c 7) h))
count-bounds false c h = let e : c ≡ 7 = eqb-true c 7 h in (omega arith, omega arith)

-- the head
module _ (F : Form) (b : List ℕ) where
  pub head-short : (length b ≡ 512 → ⊥) → head_sound F b ≡ false
  unfolding head_sound
  head-short h = both-false-left _ _ (ne_eqb _ _ h)

  pub head-by : length b ≡ 512
      → head_sound F b ≡ both (eqb (number_of b) 0) (both (eqb (kind_of b) 1) (both (eqb (version_of b) F.version) (both (in_limits (leaves_of b)) (same (part b 16 492) (head_rest F)))))
  unfolding head_sound
  head-by h = both-when _ _ (eq-eqb _ _ h)

-- the two forms
pub form-old : (v : ℕ) → v ≡ 1 → form_for v ≡ version1
unfolding form_for
form-old v e = rw (eq-eqb v 1 e)

pub form-new : (v : ℕ) → (v ≡ 1 → ⊥) → form_for v ≡ version2
unfolding form_for
form-new v h = rw (ne_eqb v 1 h)

modulus-1 : version1.modulus ≡ 65535
unfolding version1
modulus-1 = refl

pub modulus-2 : version2.modulus ≡ 65536
unfolding version2
modulus-2 = refl

pub form-modulus : (v : ℕ) → (form_for v).modulus ≡ modulus_for v
form-modulus v =
    ⊎_elim
    (λ (e : eqb v 1 ≡ true). let o : v ≡ 1 = eqb-true v 1 e in ap (λ (F : Form). F.modulus) (form-old v o) ∙ modulus-1 ∙ sym (modulus-old v o))
    (λ (e : eqb v 1 ≡ false). let o : v ≡ 1 → ⊥ = eqb-false v 1 e in ap (λ (F : Form). F.modulus) (form-new v o) ∙ modulus-2 ∙ sym (modulus-new v o))
    (true-or-false (eqb v 1))

-- a head is of its own form exactly if it is of version 1 or 2
version-by : (v : ℕ) (o : Bool) → o ≡ eqb v 1 → eqb v (pick o version1 version2).version ≡ either o (eqb v 2)
unfolding version1 version2 either
version-by v true e = sym e
version-by v false e = refl

form-version : (v : ℕ) → eqb v (form_for v).version ≡ either (eqb v 1) (eqb v 2)
unfolding form_for
form-version v = version-by v (eqb v 1) refl

rest-1 : head_rest version1 ≡ replicate 492 0
unfolding version1
rest-1 = refl

rest-2 : head_rest version2 ≡ replicate 492 0
unfolding version2
rest-2 = refl

form-rest : (v : ℕ) → head_rest (form_for v) ≡ replicate 492 0
form-rest v =
    ⊎_elim
    (λ (e : eqb v 1 ≡ true). ap head_rest (form-old v (eqb-true v 1 e)) ∙ rest-1)
    (λ (e : eqb v 1 ≡ false). ap head_rest (form-new v (eqb-false v 1 e)) ∙ rest-2)
    (true-or-false (eqb v 1))

pub fit-1 : Fit version1
unfolding version1
fit-1 = record { some = omega arith; most = omega arith; number = omega arith; room = omega arith }

pub fit-2 : Fit version2
unfolding version2
fit-2 = record { some = omega arith; most = omega arith; number = omega arith; room = omega arith }

pub head-by-form : (b : List ℕ) → length b ≡ 512
    → head_sound (form_in b) b ≡ both (eqb (number_of b) 0) (both (eqb (kind_of b) 1) (both (either (eqb (version_of b) 1) (eqb (version_of b) 2)) (both (in_limits (leaves_of b)) (unused_zero b 16))))
head-by-form b h =
    let r : same (part b 16 492) (head_rest (form_in b)) ≡ unused_zero b 16 =
    ap (same (part b 16 492)) (form-rest (version_of b)) ∙ same-zeros (part b 16 492) 492 (length-part' b 16 492 (omega arith)) in
    head-by (form_in b) b h ∙ (λ i. both (eqb (number_of b) 0) (both (eqb (kind_of b) 1) (both (form-version (version_of b) i) (both (in_limits (leaves_of b)) (r i)))))

-- a record block
module _ (last : Bool) (j : ℕ) (b : List ℕ) where
  pub block-short : (length b ≡ 512 → ⊥) → block_sound last j b ≡ false
  unfolding block_sound
  block-short h = both-false-left _ _ (ne_eqb _ _ h)

  pub block-miscounted : count_right last (count_of b) ≡ false → block_sound last j b ≡ false
  unfolding block_sound
  block-miscounted h = both-false-right _ _ (both-false-right _ _ (both-false-right _ _ (both-false-left _ _ h)))

  pub block-by : length b ≡ 512 → count_right last (count_of b) ≡ true
      → block_sound last j b ≡ both (eqb (number_of b) j) (both (eqb (kind_of b) 2) (unused_zero b (8 + 68 * count_of b)))
  unfolding block_sound
  block-by h g = rw (both-when _ _ (eq-eqb (length b) 512 h), both-when _ (unused_zero b (8 + 68 * count_of b)) g)

-- block j of an image
pub sound-head : (F : Form) (image : List ℕ) (j : ℕ) → j ≡ 0 → sound_at F image j ≡ head_sound F (image_block image j)
unfolding sound_at
sound-head F image j e = rw (eq-eqb j 0 e)

pub sound-block : (F : Form) (image : List ℕ) (j : ℕ) → (j ≡ 0 → ⊥)
    → sound_at F image j ≡ block_sound (eqb (j + 1) (whole_blocks image)) j (image_block image j)
unfolding sound_at
sound-block F image j h = rw (ne_eqb j 0 h)

-- the number of records
pub records-none : (image : List ℕ) → whole_blocks image ≤ 1 → record_count image ≡ 0
unfolding record_count
records-none image h = rw (le-leb (whole_blocks image) 1 h)

pub records-by : (image : List ℕ) → 1 < whole_blocks image
    → record_count image ≡ 7 * (whole_blocks image - 2) + count_of (image_block image (whole_blocks image - 1))
unfolding record_count
records-by image h = rw (lt-leb (whole_blocks image) 1 h)

-- the count of a sound record block
pub sound-count : (last : Bool) (j : ℕ) (b : List ℕ) → block_sound last j b ≡ true → count_right last (count_of b) ≡ true
unfolding block_sound
sound-count last j b h = both_left _ _ (both_right _ _ (both_right _ _ (both_right _ _ h)))

-- the records of sound blocks stand in them
pub records-fit : (F : Form) (image : List ℕ) → all (sound_at F image) (whole_blocks image) ≡ true → record_count image ≤ 7 * (whole_blocks image - 1)
records-fit F image h =
    ⊎_elim
    (λ (g : whole_blocks image < 2). rw (records-none image (omega arith)) (omega arith))
    (λ (g : 2 ≤ whole_blocks image).
    let j : ℕ = whole_blocks image - 1 in
    let s : sound_at F image j ≡ true = all-at (sound_at F image) (whole_blocks image) h j (omega arith) in
    let t : block_sound (eqb (j + 1) (whole_blocks image)) j (image_block image j) ≡ true = sym (sound-block F image j (λ e. absurd (omega arith))) ∙ s in
    rw (records-by image (omega arith)) (omega (arith, count-bounds (eqb (j + 1) (whole_blocks image)) (count_of (image_block image j)) (sound-count (eqb (j + 1) (whole_blocks image)) j (image_block image j) t))))
    (lt-or-ge (whole_blocks image) 2)
