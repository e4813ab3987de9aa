-- The archive's theorems for each version: an image with version word 1 is accepted exactly if the old writer could have written it, any other exactly if the new one could; and the image of either is tested by its own form.
use mathlib.Core.Path.{◌≡◌, refl, ap, sym, ◌∙◌}
use mathlib.Core.List.{List}
use mathlib.Core.Bool.{true}
use Prim.Native.Nat.{ℕ, ◌≤◌}
use native.Mathlib.Omega.{arith}
use lib.ListN.{length, take}
use borrow.Author.Tests.{eq-eqb, le-leb}
use Rattle.laws.specs.Bytes.{Bytes}
use Rattle.geometry.specs.TagMemory.{in_limits, memory_length}
use Rattle.memory.specs.PlainReading.{plain_reading}
use Rattle.memory.specs.True.{is_true}
use Rattle.form.specs.Encode.{Form, Fit, version1, version2, form_for, Record, records_of, encode, image_of, old_image_of}
use Rattle.form.specs.Test.{version_in, form_of, test_by, image_test}
use Rattle.laws.proofs.Refusals.{refusal-0}
use Rattle.form.specs.Calls.{writing_tests, writing_refusal, writing_answer, written, restored}
use Rattle.form.proofs.Sound.{form-old, form-new, fit-1, fit-2}
use Rattle.form.proofs.Records.{length-below}
use Rattle.archive.specs.Theorems.{Good, TrueImage}
use Rattle.archive.proofs.Written.{version-is, encoding-accepted}
use Rattle.archive.proofs.Restored.{true-records-good}
use Rattle.archive.proofs.RoundTrip.{accepted-image, image-accepted, round_trip, written-front}

-- the number of each form names it
own-1 : form_for version1.version ≡ version1
unfolding version1
own-1 = form-old 1 refl

own-2 : form_for version2.version ≡ version2
unfolding version2
own-2 = form-new 2 (λ e. absurd (omega arith))

-- good records, as the old writer encoded them, are accepted
pub old-encoding-accepted : (n : ℕ) (rs : List Record) → in_limits n ≡ true → Good n rs → length rs ≤ n → image_test (encode version1 n rs) ≡ 0
old-encoding-accepted n rs h G few =
    ap (λ (F : Form). test_by F (encode version1 n rs)) (ap form_for (version-is version1 fit-1 n rs h G few) ∙ own-1)
    ∙ encoding-accepted version1 fit-1 n rs h G few

-- and so are they as they are written now, with version word 2
pub new-encoding-version : (n : ℕ) (rs : List Record) → in_limits n ≡ true → Good n rs → length rs ≤ n → version_in (encode version2 n rs) ≡ 2
unfolding version2
new-encoding-version n rs h G few = version-is version2 fit-2 n rs h G few

pub new-encoding-accepted : (n : ℕ) (rs : List Record) → in_limits n ≡ true → Good n rs → length rs ≤ n → image_test (encode version2 n rs) ≡ 0
new-encoding-accepted n rs h G few =
    ap (λ (F : Form). test_by F (encode version2 n rs)) (ap form_for (version-is version2 fit-2 n rs h G few) ∙ own-2)
    ∙ encoding-accepted version2 fit-2 n rs h G few

-- the image of a true memory
module _ (n : ℕ) (mem : List ℕ) (h : in_limits n ≡ true) (l : length mem ≡ memory_length n) (t : is_true n mem ≡ true) where
  version_of_lem : (F : Form) → Fit F → version_in (encode F n (records_of n mem)) ≡ F.version
  version_of_lem F fit = version-is F fit n (records_of n mem) h (true-records-good n mem l t) (length-below n mem n)

  pub old-own : form_of (old_image_of n mem) ≡ version1
  old-own = ap form_for (version_of_lem version1 fit-1) ∙ own-1

  pub new-own : form_of (image_of n mem) ≡ version2
  new-own = ap form_for (version_of_lem version2 fit-2) ∙ own-2

  pub old-accepted : image_test (old_image_of n mem) ≡ 0
  old-accepted = ap (λ (F : Form). test_by F (old_image_of n mem)) old-own ∙ image-accepted version1 fit-1 n mem h l t

  pub new-accepted : image_test (image_of n mem) ≡ 0
  new-accepted = ap (λ (F : Form). test_by F (image_of n mem)) new-own ∙ image-accepted version2 fit-2 n mem h l t

  -- restoring what the old writer wrote, and what the new one writes, gives back the plain reading of every group
  module _ (old : List ℕ) (o : length old ≡ memory_length n) where
    pub old-round-trip : (g : ℕ) → plain_reading n (restored (old_image_of n mem) old) g ≡ plain_reading n mem g
    old-round-trip = round_trip version1 fit-1 n mem h l t old-own old o

    pub new-round-trip : (g : ℕ) → plain_reading n (restored (image_of n mem) old) g ≡ plain_reading n mem g
    new-round-trip = round_trip version2 fit-2 n mem h l t new-own old o

-- "An image is accepted only if the writer could have written it": the old one, for version word 1; else the new one
module _ (image : List ℕ) (B : Bytes image) (e : image_test image ≡ 0) where
  pub old-could : version_in image ≡ 1 → TrueImage version1 image
  old-could v = accepted-image version1 fit-1 image B (ap (λ (F : Form). test_by F image) (sym (form-old (version_in image) v)) ∙ e)

  pub new-could : (version_in image ≡ 1 → ⊥) → TrueImage version2 image
  new-could v = accepted-image version2 fit-2 image B (ap (λ (F : Form). test_by F image) (sym (form-new (version_in image) v)) ∙ e)

pub old-could-accepted : (image : List ℕ) → TrueImage version1 image → image_test image ≡ 0
old-could-accepted image I = ap image_test (sym I.same) ∙ old-accepted I.n I.mem I.limits I.long I.true-memory

pub new-could-accepted : (image : List ℕ) → TrueImage version2 image → image_test image ≡ 0
new-could-accepted image I = ap image_test (sym I.same) ∙ new-accepted I.n I.mem I.limits I.long I.true-memory

-- and the new one does write it, into any output that has room
not-refused : (n : ℕ) (mem : List ℕ) (room : ℕ) → in_limits n ≡ true → length mem ≡ memory_length n → is_true n mem ≡ true → length (image_of n mem) ≤ room → writing_refusal n mem room ≡ 0
unfolding writing_refusal
not-refused n mem room h l t r = refusal-0 (writing_tests n mem room) (h, (eq-eqb (length mem) (memory_length n) l, (t, (le-leb (length (image_of n mem)) room r, tt))))

pub new-writes : (image : List ℕ) (I : TrueImage version2 image) (output : List ℕ) → length image ≤ length output
    → (writing_refusal I.n I.mem (length output) ≡ 0) × (take (writing_answer I.n I.mem (length output)) (written I.n I.mem output) ≡ image)
new-writes image I output r =
    let z : writing_refusal I.n I.mem (length output) ≡ 0 = not-refused I.n I.mem (length output) I.limits I.long I.true-memory (omega (arith, ap length I.same)) in
    (z, written-front I.n I.mem output z ∙ I.same)
