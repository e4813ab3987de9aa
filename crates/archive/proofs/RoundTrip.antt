-- The archive's theorems, over the form: an image is accepted exactly if it is the image of a true memory; restoring it gives back every leaf and bit, and with them every group; reading gives the recorded leaves in order.
use mathlib.Core.Path.{◌≡◌, refl, ap, sym, ◌∙◌}
use mathlib.Core.List.{List}
use mathlib.Core.Bool.{true, false}
use mathlib.Core.Logic.{⊎_elim}
use Prim.Native.Nat.{ℕ, ◌+◌, ◌*◌, ◌≤◌, ◌<◌}
use native.Mathlib.Omega.{arith}
use lib.Dec.{eqb}
use lib.ListN.{length, take}
use lib.Seq.{ext_get_or}
use borrow.Author.Tests.{eq-eqb, eqb-true, eqb-false}
use Rattle.laws.specs.Bytes.{part, splice, number_at, Bytes}
use Rattle.laws.proofs.Choice.{true-or-false}
use Rattle.laws.proofs.Splice.{lt-or-ge}
use Rattle.laws.proofs.Parts.{number_at-part}
use Rattle.laws.proofs.Writes.{take-splice}
use Rattle.laws.proofs.Refusals.{refusal-0, unless-0}
use Rattle.geometry.specs.TagMemory.{groups, leaf_of, byte_of, in_limits, memory_length}
use Rattle.geometry.proofs.Places.{leaf_of-lt, byte_of-lt}
use Rattle.memory.specs.PlainReading.{leaf_bit, plain_group, plain_reading}
use Rattle.memory.specs.True.{block_at, is_true}
use Rattle.memory.proofs.Truth.{leaf_bit-lt}
use Rattle.memory.proofs.Reading.{plain_group-0, plain_group-1, refused-6}
use Rattle.memory.proofs.Reading.{accepted as reading-accepted}
use Rattle.form.specs.Encode.{Form, Fit, Record, none, records_below, records_of, encode, image_of}
use Rattle.form.specs.Test.{form_of, leaves_in, recorded_in, record_at, test_by, image_test}
use Rattle.form.specs.Calls.{writing_refusal, writing_answer, written, records_in, memory_of, restoring_tests, restoring_refusal, restored}
use Rattle.form.proofs.Rules.{Accepted, accepted}
use Rattle.form.proofs.Records.{Marked, marked, marked-is, below_at, length-below, length-take, length-rises, length-records_to, records_to-at}
use Rattle.reader.specs.Read.{the_end}
use Rattle.archive.specs.Theorems.{listed, Good, TrueImage, read_after}
use Rattle.archive.proofs.Written.{encoding-accepted, leaves-are, recorded-are, record_is}
use Rattle.archive.proofs.Encoded.{is-encoding, in-limits, good-records, records-bytes}
use Rattle.archive.proofs.Restored.{true-records-good, bytes-filled, length-memory, memory-true, memory-records, bit-recorded, bit-other, leaf-recorded}
use Rattle.archive.proofs.Reading.{reads-content, read-record, read-end}

-- memories with the same bits, and the same bytes under bit 1, read the same
module _ (n : ℕ) (x y : List ℕ) (h : in_limits n ≡ true) (lx : length x ≡ memory_length n) (ly : length y ≡ memory_length n)
    (bits : (k : ℕ) → k < n → leaf_bit n x k ≡ leaf_bit n y k) (leaves : (k : ℕ) → k < n → leaf_bit n y k ≡ 1 → block_at x k ≡ block_at y k) where
  same-group : (g : ℕ) → g < groups n → plain_group n x g ≡ plain_group n y g
  same-group g q =
      let k : ℕ = leaf_of g in
      let kl : leaf_of g < n = leaf_of-lt n g q in
      let bl = byte_of-lt g in
      ⊎_elim
      (λ (e : eqb (leaf_bit n y k) 1 ≡ true).
      let b : leaf_bit n y k ≡ 1 = eqb-true (leaf_bit n y k) 1 e in
      plain_group-1 n x g (bits k (omega arith) ∙ b)
      ∙ sym (number_at-part 4 x (64 * k) 64 (byte_of g) (omega arith) (omega arith))
      ∙ ap (λ (l : List ℕ). number_at 4 l (byte_of g)) (leaves k (omega arith) b)
      ∙ number_at-part 4 y (64 * k) 64 (byte_of g) (omega arith) (omega arith)
      ∙ sym (plain_group-1 n y g b))
      (λ (e : eqb (leaf_bit n y k) 1 ≡ false).
      let ne : leaf_bit n y k ≡ 1 → ⊥ = eqb-false (leaf_bit n y k) 1 e in
      plain_group-0 n x g (λ b. ne (sym (bits k (omega arith)) ∙ b)) ∙ sym (plain_group-0 n y g ne))
      (true-or-false (eqb (leaf_bit n y k) 1))

  pub same-reading : (g : ℕ) → plain_reading n x g ≡ plain_reading n y g
  same-reading g =
      ⊎_elim
      (λ (q : g < groups n). reading-accepted n x g h lx q ∙ same-group g q ∙ sym (reading-accepted n y g h ly q))
      (λ (q : groups n ≤ g). refused-6 n x g h lx q ∙ sym (refused-6 n y g h ly q))
      (lt-or-ge g (groups n))

-- of any form
module _ (F : Form) (fit : Fit F) where
  -- an accepted image is the image of a true memory, that of its records
  pub accepted-image : (image : List ℕ) → Bytes image → test_by F image ≡ 0 → TrueImage F image
  accepted-image image B e =
      let A : Accepted F image = accepted F image e in
      let G : Good (leaves_in image) (records_in image) = good-records F image A in
      record {
        n = leaves_in image;
        mem = memory_of (leaves_in image) (records_in image);
        limits = in-limits F image A;
        is-bytes = bytes-filled (leaves_in image) (records_in image) G (records-bytes F image A B) (length (records_in image)) (omega arith);
        long = length-memory (leaves_in image) (records_in image) G;
        true-memory = memory-true (leaves_in image) (records_in image) G;
        same = ap (encode F (leaves_in image)) (memory-records (leaves_in image) (records_in image) G) ∙ sym (is-encoding F image A B);
      }

  -- the image of a true memory, its numbers and its records
  module _ (n : ℕ) (mem : List ℕ) (h : in_limits n ≡ true) (l : length mem ≡ memory_length n) (t : is_true n mem ≡ true) where
    abbrev rs : List Record
    rs = records_of n mem

    abbrev image : List ℕ
    image = encode F n rs

    G : Good n rs
    G = true-records-good n mem l t

    -- it is accepted
    pub image-accepted : test_by F image ≡ 0
    image-accepted = encoding-accepted F fit n rs h G (length-below n mem n)

    pub image-leaves : leaves_in image ≡ n
    image-leaves = leaves-are F fit n rs h G (length-below n mem n)

    pub image-recorded : recorded_in image ≡ length rs
    image-recorded = recorded-are F fit n rs h G (length-below n mem n)

    pub image-record : (p : ℕ) → p < length rs → record_at image p ≡ listed rs p
    image-record p k = record_is F fit n rs h G (length-below n mem n) p k

    pub image-records : records_in image ≡ rs
    image-records =
        let f : length (records_in image) ≡ length rs = length-records_to (record_at image) (recorded_in image) ∙ image-recorded in
        ext_get_or none (records_in image) rs f (λ p k. records_to-at (record_at image) (recorded_in image) p (omega (arith, image-recorded)) ∙ image-record p (omega arith))

    abbrev back : List ℕ
    back = memory_of n rs

    -- the leaves and bits of the memory made of its records
    place : (k : ℕ) → k < n → leaf_bit n mem k ≡ 1 → length (records_below n mem k) < length rs
    place k q b = omega (arith, length-take n mem k b, length-rises n mem (k + 1) n (omega arith))

    back-marked : (k : ℕ) → k < n → leaf_bit n mem k ≡ 1 → leaf_bit n back k ≡ 1
    back-marked k q b =
        let p : ℕ = length (records_below n mem k) in
        let e : (listed rs p).leaf ≡ k = ap (λ (r : Record). r.leaf) (below_at n mem n k q b) in
        ap (leaf_bit n back) (sym e) ∙ bit-recorded n rs G (length rs) p (place k q b) (omega arith)

    back-unmarked : (k : ℕ) → (leaf_bit n mem k ≡ 1 → ⊥) → leaf_bit n back k ≡ 0
    back-unmarked k ne =
        bit-other n rs G (length rs) k (omega arith) (λ p q e.
        let m : Marked n mem n p = marked n mem n p q in
        ne (ap (leaf_bit n mem) (e ∙ ap (λ (r : Record). r.leaf) (marked-is n mem n p m)) ∙ m.bit))

    back-bit : (k : ℕ) → k < n → leaf_bit n back k ≡ leaf_bit n mem k
    back-bit k q =
        ⊎_elim
        (λ (e : eqb (leaf_bit n mem k) 1 ≡ true). let b : leaf_bit n mem k ≡ 1 = eqb-true (leaf_bit n mem k) 1 e in back-marked k q b ∙ sym b)
        (λ (e : eqb (leaf_bit n mem k) 1 ≡ false).
        let ne : leaf_bit n mem k ≡ 1 → ⊥ = eqb-false (leaf_bit n mem k) 1 e in
        let z : leaf_bit n mem k ≡ 0 = ⊎_elim (λ (s : leaf_bit n mem k < 1). omega arith) (λ (s : 1 ≤ leaf_bit n mem k). absurd (ne (omega (arith, leaf_bit-lt n mem k)))) (lt-or-ge (leaf_bit n mem k) 1) in
        back-unmarked k ne ∙ sym z)
        (true-or-false (eqb (leaf_bit n mem k) 1))

    back-leaf : (k : ℕ) → k < n → leaf_bit n mem k ≡ 1 → block_at back k ≡ block_at mem k
    back-leaf k q b =
        let p : ℕ = length (records_below n mem k) in
        let e : (listed rs p).leaf ≡ k = ap (λ (r : Record). r.leaf) (below_at n mem n k q b) in
        ap (block_at back) (sym e) ∙ leaf-recorded n rs G (length rs) p (place k q b) (omega arith) ∙ ap (λ (r : Record). r.content) (below_at n mem n k q b)

    -- restoring it, where it is tested by its own form, into any bytes of that length
    module _ (own : form_of image ≡ F) (old : List ℕ) (o : length old ≡ memory_length n) where
      pub own-accepted : image_test image ≡ 0
      own-accepted = ap (λ (E : Form). test_by E image) own ∙ image-accepted

      pub restoring-accepted : restoring_refusal image (length old) ≡ 0
      unfolding restoring_refusal
      restoring-accepted =
          refusal-0 (restoring_tests image (length old)) (eq-eqb (image_test image) 0 own-accepted, (eq-eqb (length old) (memory_length (leaves_in image)) (o ∙ ap memory_length (sym image-leaves)), tt))

      pub restored-is : restored image old ≡ back
      unfolding restored
      restored-is = unless-0 (memory_of (leaves_in image) (records_in image)) (λ c. old) restoring-accepted ∙ rw (image-leaves, image-records)

      pub restored-true : is_true n (restored image old) ≡ true
      restored-true = ap (is_true n) restored-is ∙ memory-true n rs G

      pub restored-long : length (restored image old) ≡ memory_length n
      restored-long = ap length restored-is ∙ length-memory n rs G

      -- every leaf's bit, and its bytes under bit 1
      pub restored-bit : (k : ℕ) → k < n → leaf_bit n (restored image old) k ≡ leaf_bit n mem k
      restored-bit k q = ap (λ (x : List ℕ). leaf_bit n x k) restored-is ∙ back-bit k q

      pub restored-leaf : (k : ℕ) → k < n → leaf_bit n mem k ≡ 1 → block_at (restored image old) k ≡ block_at mem k
      restored-leaf k q b = ap (λ (x : List ℕ). block_at x k) restored-is ∙ back-leaf k q b

      -- "writing then restoring gives a memory with the same plain reading for every group"
      pub round_trip : (g : ℕ) → plain_reading n (restored image old) g ≡ plain_reading n mem g
      round_trip = same-reading n (restored image old) mem h restored-long l restored-bit restored-leaf

    -- reading the image record by record gives the recorded leaves, in order, and then the end
    A : Accepted F image
    A = accepted F image image-accepted

    pub reading-leaf : (k : ℕ) → k < length rs → ((read_after image k).found ≡ true) × ((read_after image k).leaf ≡ (listed rs k).leaf)
    reading-leaf k q = rw (read-record F image A k (omega (arith, image-recorded))) (refl, ap (λ (r : Record). r.leaf) (image-record k q))

    pub reading-content : (k : ℕ) → k < length rs → part image (read_after image k).start 64 ≡ (listed rs k).content
    reading-content k q =
        rw (read-record F image A k (omega (arith, image-recorded)))
        (reads-content F image A k (omega (arith, image-recorded)) ∙ ap (λ (r : Record). r.content) (image-record k q))

    pub reading-end : (k : ℕ) → read_after image (length rs + k) ≡ the_end (length rs)
    reading-end k = rw (← image-recorded) (read-end F image A k)

  pub true-image-accepted : (image : List ℕ) → TrueImage F image → test_by F image ≡ 0
  true-image-accepted image I = ap (test_by F) (sym I.same) ∙ image-accepted I.n I.mem I.limits I.long I.true-memory

-- what writing leaves in front of the output, as long as it answers, is the image
pub written-front : (n : ℕ) (mem output : List ℕ) → writing_refusal n mem (length output) ≡ 0 → take (writing_answer n mem (length output)) (written n mem output) ≡ image_of n mem
unfolding writing_answer written
written-front n mem output e = rw (unless-0 {c = writing_refusal n mem (length output)} (length (image_of n mem)) (λ c. 4294967296 + c) e, unless-0 {c = writing_refusal n mem (length output)} (splice output 0 (image_of n mem)) (λ c. output) e) (take-splice output (image_of n mem) (length (image_of n mem)) refl)
