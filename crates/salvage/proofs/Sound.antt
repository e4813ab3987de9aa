-- What a salvage makes is accepted; a sound image of version 2 comes out unchanged, with an empty list; and salvaging again changes nothing.
use mathlib.Core.Path.{◌≡◌, refl, ap, sym, ◌∙◌, subst}
use mathlib.Core.List.{List, [], ◌∷◌, ◌++◌}
use mathlib.Core.Bool.{true}
use mathlib.Core.Logic.{⊎_elim}
use Prim.Native.Nat.{ℕ, zero, suc, ◌+◌, ◌*◌, ◌-◌, ◌≤◌, ◌<◌}
use native.Mathlib.Numerals.{add-one}
use native.Mathlib.Omega.{arith}
use lib.ListN.{length, get_or, get_or-append}
use lib.Seq.{ext_get_or}
use lib.Dec.{eqb}
use Rattle.laws.specs.Bytes.{splice, Bytes}
use Rattle.laws.specs.Scan.{all}
use Rattle.laws.specs.Refusal.{refusal}
use Rattle.laws.proofs.Choice.{both_true}
use Rattle.laws.proofs.Scan.{all_more, all-at, all-is, all-zero}
use Rattle.laws.proofs.Splice.{lt-or-ge}
use Rattle.laws.proofs.Writes.{splice-none}
use Rattle.geometry.specs.TagMemory.{in_limits}
use Rattle.sums.specs.Check.{check_right}
use Rattle.form.specs.Encode.{Form, version2, Record, none, next7, encode}
use Rattle.form.specs.Test.{whole_blocks, image_block, count_of, record_in, record_at, block_sound, sound_at, record_count, lowest, good_above, good_record, form_of, version_in, leaves_in, recorded_in, checks_right, test_by, image_test}
use Rattle.form.specs.Calls.{records_to, records_in}
use Rattle.form.proofs.Sound.{form-new, fit-2, sound-head, sound-block}
use Rattle.form.proofs.Rules.{Accepted, accepted, good-is, good-above, good-below, record-in}
use Rattle.form.proofs.Records.{length-records_to, records_to-at, next-few, next-full, next-bounds}
use Rattle.archive.specs.Theorems.{listed, Good}
use Rattle.archive.proofs.Written.{good-same, leaves-are, recorded-are, record_is}
use Rattle.archive.proofs.Encoded.{head-limits, few-blocks, count_next, is-encoding}
use Rattle.archive.proofs.Versions.{new-encoding-version, new-encoding-accepted}
use Rattle.damaged.specs.Taken.{Taken, used, above, take_record, take_records, take_block, take_blocks, taken}
use Rattle.salvage.specs.Salvage.{new_image, head_tests, left, salvaging}
use Rattle.damaged.specs.Theorems.{From}
use Rattle.damaged.proofs.Taken.{length_more, get_d-last, above-none, above_more, record-kept, records-none, records-more, block-used, blocks-none}
use Rattle.salvage.proofs.Walk.{sound-head as head-not-refused}
use Rattle.damaged.proofs.Kept.{taken-by, all_from, kept-sized}
use Rattle.salvage.proofs.Refusals.{holds, some, whole, length-new, salvages}
use Rattle.damaged.proofs.Told.{few-taken}

-- what the records kept are, as they are taken: good, no more than the leaf number after the last, and that at most n
record Rising (n : ℕ) (rs : List Record) : Type 0 where
  pub each : all (good_record n 0 (listed rs)) (length rs) ≡ true
  pub few : length rs ≤ above rs
  pub most : above rs ≤ n

lowest-same : (f g : ℕ → Record) (p : ℕ) → ((q : ℕ) → q < p → f q ≡ g q) → lowest 0 f p ≡ lowest 0 g p
unfolding lowest
lowest-same f g zero e = refl
lowest-same f g (suc p) e = ap (λ (r : Record). r.leaf + 1) (e p (omega arith))

module _ (n : ℕ) (rs : List Record) (r : Record) (R : Rising n rs) (g : good_above n (above rs) r ≡ true) where
  abbrev more : List Record
  more = rs ++ (r ∷ [])

  old : (q : ℕ) → q < length rs → listed more q ≡ listed rs q
  old q l = get_or-append rs (r ∷ []) none q l

  least : above rs ≡ lowest 0 (listed more) (length rs)
  unfolding above
  least = sym (lowest-same (listed more) (listed rs) (length rs) old)

  new-good : good_record n 0 (listed more) (length rs) ≡ true
  new-good = good-is n 0 (listed more) (length rs) (above rs) least ∙ ap (good_above n (above rs)) (get_d-last rs r none) ∙ g

  rising-more : Rising n more
  rising-more =
      let a : above rs ≤ r.leaf = good-above n (above rs) r g in
      let b : r.leaf < n = good-below n (above rs) r g in
      record {
        each = ap (all (good_record n 0 (listed more))) (length_more rs r)
            ∙ all_more (good_record n 0 (listed more)) (length rs)
            (all-is (good_record n 0 (listed more)) (length rs) (λ q l. good-same n (listed more) (listed rs) q (λ k h. old k (omega arith)) ∙ all-at (good_record n 0 (listed rs)) (length rs) R.each q l))
            new-good;
        few = omega (arith, length_more rs r, above_more rs r, R.few);
        most = omega (arith, above_more rs r);
      }

none-rising : (n : ℕ) → Rising n []
none-rising n = record { each = all-zero (good_record n 0 (listed [])); few = omega arith; most = omega (arith, above-none) }

all-rising : (image : List ℕ) (j : ℕ) → j < whole_blocks image → Rising (leaves_in image) (take_blocks image j).kept
all-rising image =
    taken-by image (λ p t. Rising (leaves_in image) t.kept)
    (none-rising (leaves_in image))
    (λ j i t one inside u f g R. rising-more (leaves_in image) t.kept (record_in (image_block image j) i) R g)
    (λ j i t one inside u f g R. R)
    (λ j t one inside u R. R)
    (λ j t one inside u R. R)

-- of an image whose head is not refused
module _ (image : List ℕ) (e : refusal (head_tests image) ≡ 0) where
  abbrev rs : List Record
  rs = (taken image).kept

  abbrev n : ℕ
  n = leaves_in image

  limits : in_limits n ≡ true
  limits = head-limits (form_of image) (image_block image 0) (holds image e).1.0

  rising : Rising n rs
  rising = all-rising image (whole_blocks image - 1) (omega (arith, some image e, whole image e))

  good : Good n rs
  good = record { sized = kept-sized image (some image e) (whole image e); each = rising.each }

  few-kept : length rs ≤ n
  few-kept = omega (arith, rising.few, rising.most)

  -- "a new sound image"
  pub new-accepted : image_test (new_image image) ≡ 0
  new-accepted = new-encoding-accepted n rs limits good few-kept

  pub new-version : version_in (new_image image) ≡ 2
  new-version = new-encoding-version n rs limits good few-kept

  -- an output as long as the image has room
  pub new-fits : length (new_image image) ≤ length image
  new-fits = omega (arith, length-new image e, some image e, whole image e, few-taken image (omega (arith, some image e, whole image e)))

  -- its leaves and its records
  pub new-leaves : leaves_in (new_image image) ≡ n
  new-leaves = leaves-are version2 fit-2 n rs limits good few-kept

  pub new-records : records_in (new_image image) ≡ rs
  new-records =
      let f : recorded_in (new_image image) ≡ length rs = recorded-are version2 fit-2 n rs limits good few-kept in
      ext_get_or none (records_in (new_image image)) rs (length-records_to (record_at (new_image image)) (recorded_in (new_image image)) ∙ f)
      (λ p k. let h : p < recorded_in (new_image image) = omega (arith, length-records_to (record_at (new_image image)) (recorded_in (new_image image))) in
      records_to-at (record_at (new_image image)) (recorded_in (new_image image)) p h ∙ record_is version2 fit-2 n rs limits good few-kept p (omega arith))

  -- "Every leaf in the output is byte for byte one from a sound block"
  pub new-from : (p : ℕ) → p < length (records_in (new_image image)) → From image (get_or (records_in (new_image image)) p none)
  new-from p l =
      subst (From image) (sym (ap (λ (x : List Record). get_or x p none) new-records))
      (all_from image (whole_blocks image - 1) (omega (arith, some image e, whole image e)) p (omega (arith, ap length new-records)))

-- the first p records of an accepted image, all kept
above-to : (f : ℕ → Record) (p : ℕ) → above (records_to f p) ≡ lowest 0 f p
unfolding above
above-to f p =
    ap (lowest 0 (λ q. get_or (records_to f p) q none)) (length-records_to f p) ∙ lowest-same (λ q. get_or (records_to f p) q none) f p (λ q l. records_to-at f p q l)

to-more : (f : ℕ → Record) (p : ℕ) → records_to f (p + 1) ≡ records_to f p ++ (f p ∷ [])
unfolding records_to
to-more f p = rw (add-one p)

abbrev all_kept : (ℕ → Record) → ℕ → Taken
all_kept f p = record { kept = records_to f p; listed = [] }

-- an image that is accepted by the form of its version
module _ (image : List ℕ) (A : Accepted (form_of image) image) where
  abbrev F : Form
  F = form_of image

  abbrev W : ℕ
  W = whole_blocks image

  abbrev N : ℕ
  N = leaves_in image

  abbrev at : ℕ → List ℕ
  at j = image_block image (suc j)

  some_block : 1 ≤ W
  some_block = omega (arith, A.some, A.whole)

  right-at : (j : ℕ) → j < W → check_right F.modulus (image_block image j) ≡ true
  unfolding checks_right
  right-at j l = all-at (λ i. check_right F.modulus (image_block image i)) W A.checks j l

  pub head-accepted : refusal (head_tests image) ≡ 0
  head-accepted =
      head-not-refused image A.some A.whole (right-at 0 some_block) (sym (sound-head F image 0 refl) ∙ all-at (sound_at F image) W A.sound 0 some_block)

  block-ok : (j : ℕ) → suc j < W → block_sound (eqb (suc j + 1) W) (suc j) (at j) ≡ true
  block-ok j l = sym (sound-block F image (suc j) (λ e. absurd (omega arith))) ∙ all-at (sound_at F image) W A.sound (suc j) l

  all-used : (j : ℕ) → suc j < W → used image (suc j) ≡ true
  unfolding used
  all-used j l = both_true _ _ (right-at (suc j) l) (block-ok j l)

  good-at : (p : ℕ) → p < record_count image → good_above N (above (records_to (record_at image) p)) (record_at image p) ≡ true
  good-at p l =
      ap (λ (x : ℕ). good_above N x (record_at image p)) (above-to (record_at image) p)
      ∙ sym (good-is N 0 (record_at image) p (lowest 0 (record_at image) p) refl) ∙ all-at (good_record N 0 (record_at image)) (record_count image) A.good p l

  -- the records of a block
  take_all : (j c : ℕ) → c ≤ 7 → 7 * j + c ≤ record_count image
      → take_records N (suc j) (at j) (all_kept (record_at image) (7 * j)) c ≡ all_kept (record_at image) (7 * j + c)
  take_all j zero h l =
      let e : 7 * j ≡ 7 * j + zero = omega arith in
      records-none N (suc j) (at j) (all_kept (record_at image) (7 * j)) ∙ ap (all_kept (record_at image)) e
  take_all j (suc c) h l =
      let p : ℕ = 7 * j + c in
      let e : p + 1 ≡ 7 * j + suc c = omega arith in
      let r : record_at image p ≡ record_in (at j) c = record-in image j c (omega arith) in
      let g : good_above N (above (records_to (record_at image) p)) (record_in (at j) c) ≡ true = ap (good_above N (above (records_to (record_at image) p))) (sym r) ∙ good-at p (omega arith) in
      ap (take_records N (suc j) (at j) (all_kept (record_at image) (7 * j))) (sym (add-one c)) ∙ records-more N (suc j) (at j) (all_kept (record_at image) (7 * j)) c
      ∙ ap (λ (t : Taken). take_record N (suc j) (at j) t c) (take_all j c (omega arith) (omega arith))
      ∙ record-kept N (suc j) (at j) (all_kept (record_at image) p) c g
      ∙ (λ i. record { kept = (ap (λ (x : Record). records_to (record_at image) p ++ (x ∷ [])) (sym r) ∙ sym (to-more (record_at image) p)) i; listed = [] })
      ∙ ap (all_kept (record_at image)) e

  -- a block more, and full blocks
  abbrev m : ℕ
  m = recorded_in image

  abbrev count : ℕ → ℕ
  count j = count_of (at j)

  count-is : (j : ℕ) → suc j < W → (count j ≡ next7 (m - 7 * j)) × (7 * j + count j ≤ m) × (count j ≤ 7)
  count-is j l =
      let e : count j ≡ next7 (m - 7 * j) = count_next F image A j l in
      (e, omega (arith, e, few-blocks F image A, (next-bounds (m - 7 * j)).1), omega (arith, e, (next-bounds (m - 7 * j)).0))

  one_block : (j : ℕ) → suc j < W → take_blocks image j ≡ all_kept (record_at image) (7 * j) → take_blocks image (suc j) ≡ all_kept (record_at image) (7 * j + count j)
  unfolding take_blocks
  one_block j l e =
      ap (take_block N (suc j) (used image (suc j)) (at j)) e ∙ block-used N (suc j) (at j) (all_kept (record_at image) (7 * j)) (used image (suc j)) (all-used j l)
      ∙ take_all j (count j) (count-is j l).2 (omega (arith, (count-is j l).1, A.count))

  full-blocks : (j : ℕ) → suc j < W → take_blocks image j ≡ all_kept (record_at image) (7 * j)
  unfolding records_to
  full-blocks zero l = blocks-none image
  full-blocks (suc j) l =
      let c : count j ≡ 7 = (count-is j (omega arith)).0 ∙ next-full (m - 7 * j) (omega (arith, few-blocks F image A)) in
      let e : 7 * j + count j ≡ 7 * suc j = omega arith in
      one_block j (omega arith) (full-blocks j (omega arith)) ∙ ap (all_kept (record_at image)) e

  -- nothing is left out
  pub all-kept : taken image ≡ record { kept = records_in image; listed = [] }
  unfolding records_to
  all-kept =
      ⊎_elim
      (λ (q : W < 2).
      let z : W - 1 ≡ 0 = omega arith in
      let o : 0 ≡ m = omega (arith, few-blocks F image A) in
      ap (take_blocks image) z ∙ blocks-none image ∙ ap (all_kept (record_at image)) o)
      (λ (q : 2 ≤ W).
      let j : ℕ = W - 2 in
      let z : W - 1 ≡ suc j = omega arith in
      let c : count j ≡ m - 7 * j = (count-is j (omega arith)).0 ∙ next-few (m - 7 * j) (omega (arith, few-blocks F image A)) in
      let o : 7 * j + count j ≡ m = omega (arith, few-blocks F image A) in
      ap (take_blocks image) z ∙ one_block j (omega arith) (full-blocks j (omega arith)) ∙ ap (all_kept (record_at image)) o)
      (lt-or-ge W 2)

-- an accepted image of version 2
module _ (image : List ℕ) (e : image_test image ≡ 0) (v : version_in image ≡ 2) where
  form-2 : form_of image ≡ version2
  form-2 = form-new (version_in image) (λ q. absurd (omega arith))

  A : Accepted (form_of image) image
  A = accepted (form_of image) image e

  head-0 : refusal (head_tests image) ≡ 0
  head-0 = head-accepted image A

  none-listed : (taken image).listed ≡ []
  none-listed = ap (λ (t : Taken). t.listed) (all-kept image A)

  -- what it is made of is what comes out
  comes-out : (same : new_image image ≡ image) (output list : List ℕ) → length image ≤ length output
      → salvaging image output list ≡ left (record { refusal = 0; length = length image; listed = 0 }) (splice output 0 image) list
  comes-out same output list h =
      salvages image output list head-0 (omega (arith, ap length same)) (omega (arith, ap length none-listed))
      ∙ (λ i. left (record { refusal = 0; length = length (same i); listed = length (none-listed i) }) (splice output 0 (same i)) (splice list 0 (none-listed i)))
      ∙ ap (left (record { refusal = 0; length = length image; listed = 0 }) (splice output 0 image)) (splice-none list 0)

  -- "a sound version 2 image comes out unchanged with an empty list"
  pub unchanged : Bytes image → new_image image ≡ image
  unchanged B =
      ap (λ (t : Taken). encode version2 (leaves_in image) t.kept) (all-kept image A)
      ∙ sym (is-encoding version2 image (accepted version2 image (ap (λ (F : Form). test_by F image) (sym form-2) ∙ e)) B)

  pub sound-unchanged : Bytes image → (output list : List ℕ) → length image ≤ length output
      → salvaging image output list ≡ left (record { refusal = 0; length = length image; listed = 0 }) (splice output 0 image) list
  sound-unchanged B = comes-out (unchanged B)

-- salvaging again changes nothing
module _ (image : List ℕ) (e : refusal (head_tests image) ≡ 0) where
  again : new_image (new_image image) ≡ new_image image
  again =
      let t : (taken (new_image image)).kept ≡ (taken image).kept =
      ap (λ (x : Taken). x.kept) (all-kept (new_image image) (accepted (form_of (new_image image)) (new_image image) (new-accepted image e))) ∙ new-records image e in
      (λ i. encode version2 (new-leaves image e i) (t i))

  pub again-unchanged : (output list : List ℕ) → length (new_image image) ≤ length output
      → salvaging (new_image image) output list ≡ left (record { refusal = 0; length = length (new_image image); listed = 0 }) (splice output 0 (new_image image)) list
  again-unchanged = comes-out (new_image image) (new-accepted image e) (new-version image e) again
