-- Reading an accepted image record by record, from place 0, gives its records in order and then the end.
use mathlib.Core.Path.{◌≡◌, refl, ap, sym, ◌∙◌}
use mathlib.Core.List.{List}
use mathlib.Core.Logic.{⊎_elim}
use Prim.Native.Nat.{ℕ, zero, suc, ◌+◌, ◌*◌, ◌/◌, ◌%◌, ◌-◌, ◌≤◌, ◌<◌}
use native.Mathlib.Omega.{arith}
use Rattle.laws.specs.Bytes.{part}
use Rattle.laws.proofs.Splice.{lt-or-ge}
use Rattle.form.specs.Encode.{Form, next7}
use Rattle.form.specs.Test.{whole_blocks, image_block, count_of, record_at, recorded_in}
use Rattle.laws.proofs.Parts.{part-part}
use Rattle.form.proofs.Rules.{Accepted, accepted-fits}
use Rattle.form.proofs.Records.{next-few}
use Rattle.reader.specs.Read.{Reading, content_place, the_end, the_record, reading_at}
use Rattle.reader.proofs.Place.{past-blocks, past-count, is-record}
use Rattle.archive.specs.Theorems.{place_after, read_after}
use Rattle.archive.proofs.Written.{under7}
use Rattle.archive.proofs.Encoded.{long, count_next}

module _ (F : Form) (image : List ℕ) (A : Accepted F image) where
  abbrev m : ℕ
  m = recorded_in image

  count-is : (p : ℕ) → 1 + p / 7 < whole_blocks image → count_of (image_block image (1 + p / 7)) ≡ next7 (m - 7 * (p / 7))
  count-is p l =
      let e : 1 + p / 7 ≡ suc (p / 7) = omega arith in
      ap (λ (x : ℕ). count_of (image_block image x)) e ∙ count_next F image A (p / 7) (omega arith)

  pub reads-record : (p : ℕ) → p < m → reading_at image p ≡ the_record image p
  reads-record p l =
      let w : 1 + p / 7 < whole_blocks image = omega (arith, accepted-fits F image A) in
      is-record image p w (omega (arith, count-is p w, under7 (m - 7 * (p / 7)) (p % 7) (omega arith) (omega arith)))

  pub reads_end : reading_at image m ≡ the_end m
  reads_end =
      ⊎_elim
      (λ (w : 1 + m / 7 < whole_blocks image). past-count image m w (omega (arith, count-is m w, next-few (m - 7 * (m / 7)) (omega arith))))
      (λ (w : whole_blocks image ≤ 1 + m / 7). past-blocks image m w)
      (lt-or-ge (1 + m / 7) (whole_blocks image))

  -- the bytes of the record are where it says
  pub reads-content : (p : ℕ) → p < m → part image (content_place p) 64 ≡ (record_at image p).content
  reads-content p l =
      let w : 1 + p / 7 < whole_blocks image = omega (arith, accepted-fits F image A) in
      sym (part-part image (512 * (1 + p / 7)) 512 (12 + 68 * (p % 7)) 64 (omega (arith, long F image A)) (omega arith))

  -- read after read: record k after k reads, up to m; then the end, again and again
  pub place_is : (k : ℕ) → k ≤ m → place_after image k ≡ k
  unfolding place_after
  place_is zero h = refl
  place_is (suc k) h =
      let e : k + 1 ≡ suc k = omega arith in
      ap (λ (x : ℕ). (reading_at image x).next) (place_is k (omega arith)) ∙ ap (λ (r : Reading). r.next) (reads-record k h) ∙ e

  pub place-stays : (k : ℕ) → place_after image (m + k) ≡ m
  unfolding place_after
  place-stays zero = let e : m + zero ≡ m = omega arith in ap (place_after image) e ∙ place_is m (omega arith)
  place-stays (suc k) =
      let e : m + suc k ≡ suc (m + k) = omega arith in
      ap (place_after image) e ∙ ap (λ (x : ℕ). (reading_at image x).next) (place-stays k) ∙ ap (λ (r : Reading). r.next) reads_end

  pub read-record : (k : ℕ) → k < m → read_after image k ≡ the_record image k
  read-record k h = ap (reading_at image) (place_is k (omega arith)) ∙ reads-record k h

  pub read-end : (k : ℕ) → read_after image (m + k) ≡ the_end m
  read-end k = ap (reading_at image) (place-stays k) ∙ reads_end
