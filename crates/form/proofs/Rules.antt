-- Laws of the image test: the ways out of it, what a test that holds says, and the rules block by block.
use mathlib.Core.Path.{◌≡◌, refl, ap, sym, ◌∙◌}
use mathlib.Core.List.{List}
use mathlib.Core.Bool.{Bool, true, false}
use mathlib.Core.Logic.{⊎_elim}
use Prim.Native.Nat.{ℕ, zero, suc, ◌+◌, ◌*◌, ◌/◌, ◌%◌, ◌-◌, ◌≤◌, ◌<◌}
use native.Mathlib.Numerals.{add-one}
use native.Mathlib.Omega.{arith}
use lib.ListN.{length}
use lib.Dec.{eqb, leb, ltb}
use borrow.Author.Tests.{eq-eqb, ne_eqb, eqb-true, lt-ltb, le-ltb, ltb-true, leb-true}
use Rattle.laws.specs.Choice.{pick, both, no}
use Rattle.laws.specs.Scan.{all}
use Rattle.laws.proofs.Choice.{both_left, both_right, both_true, both-false-left, both-false-right, no_true, true-or-false, same_truth}
use Rattle.laws.proofs.Scan.{all-zero, all_more, all-at, all-is, all_same, all-fails, all-add}
use Rattle.laws.proofs.Splice.{lt-or-ge}
use Rattle.block.specs.Block.{all_zero}
use Rattle.sums.specs.Check.{check_right}
use Rattle.form.specs.Encode.{Form, Record}
use Rattle.form.specs.Test.{whole_blocks, image_block, count_of, leaves_in, recorded_in, record_in, record_at, head_sound, block_sound, sound_at, record_count, lowest, good_above, good_record, length_right, checks_right, rules_kept, test_by}
use Rattle.form.proofs.Sound.{sound-head, sound-block, sound-count, count-bounds, count-full, records-none, records-by, records-fit}

-- records
pub good-by : (n low : ℕ) (r : Record) → good_above n low r ≡ both (leb low r.leaf) (both (ltb r.leaf n) (no (all_zero r.content)))
unfolding good_above
good-by n low r = refl

-- what a good record says
module _ (n low : ℕ) (r : Record) (good : good_above n low r ≡ true) where
  all_three : both (leb low r.leaf) (both (ltb r.leaf n) (no (all_zero r.content))) ≡ true
  all_three = sym (good-by n low r) ∙ good

  pub good-above : low ≤ r.leaf
  good-above = leb-true _ _ (both_left _ _ all_three)

  pub good-below : r.leaf < n
  good-below = ltb-true _ _ (both_left _ _ (both_right _ _ all_three))

  pub good-some : all_zero r.content ≡ false
  good-some = no_true _ (both_right _ _ (both_right _ _ all_three))

pub lowest-none : (low : ℕ) (records : ℕ → Record) → lowest low records 0 ≡ low
unfolding lowest
lowest-none low records = refl

pub lowest-more : (low : ℕ) (records : ℕ → Record) (p : ℕ) → lowest low records (p + 1) ≡ (records p).leaf + 1
unfolding lowest
lowest-more low records p = rw (add-one p)

pub good-is : (n low : ℕ) (records : ℕ → Record) (p least : ℕ) → least ≡ lowest low records p → good_record n low records p ≡ good_above n least (records p)
unfolding good_record
good-is n low records p least e = rw e

-- the whole test
module _ (F : Form) (image : List ℕ) where
  empty-10 : length_right image ≡ false → test_by F image ≡ 10
  unfolding test_by
  empty-10 h = rw (both-false-left (length_right image) (checks_right F image) h)

  pub no-length-10 : length image ≡ 0 → test_by F image ≡ 10
  unfolding length_right
  no-length-10 h = empty-10 (both-false-left _ _ (le-ltb 0 (length image) (omega arith)))

  pub part-block-10 : (length image % 512 ≡ 0 → ⊥) → test_by F image ≡ 10
  unfolding length_right
  part-block-10 h = empty-10 (both-false-right _ _ (ne_eqb _ _ h))

  pub wrong-check-10 : checks_right F image ≡ false → test_by F image ≡ 10
  unfolding test_by
  wrong-check-10 h = rw (both-false-right (length_right image) (checks_right F image) h)

  pub whole_length : 0 < length image → length image % 512 ≡ 0 → length_right image ≡ true
  unfolding length_right
  whole_length h g = both_true _ _ (lt-ltb _ _ h) (eq-eqb _ _ g)

  pub test-by : 0 < length image → length image % 512 ≡ 0 → checks_right F image ≡ true → test_by F image ≡ pick (rules_kept F image) 0 11
  unfolding test_by
  test-by h g k = rw (both_true (length_right image) (checks_right F image) (whole_length h g) k)

-- what an accepted image says
parts-of : (a b : Bool) → pick {A = ℕ} a (pick b 0 11) 10 ≡ 0 → (a ≡ true) × (b ≡ true)
parts-of true true e = (refl, refl)
parts-of true false e = absurd (omega arith)
parts-of false b e = absurd (omega arith)

pub record Accepted (F : Form) (image : List ℕ) : Type 0 where
  pub some : 0 < length image
  pub whole : length image % 512 ≡ 0
  pub checks : checks_right F image ≡ true
  pub sound : all (sound_at F image) (whole_blocks image) ≡ true
  pub count : recorded_in image ≡ record_count image
  pub good : all (good_record (leaves_in image) 0 (record_at image)) (record_count image) ≡ true

pub accepted : (F : Form) (image : List ℕ) → test_by F image ≡ 0 → Accepted F image
unfolding test_by length_right rules_kept
accepted F image e =
    let p : (both (length_right image) (checks_right F image) ≡ true) × (rules_kept F image ≡ true) = parts-of (both (length_right image) (checks_right F image)) (rules_kept F image) e in
    let l : length_right image ≡ true = both_left (length_right image) (checks_right F image) p.0 in
    let r : both (eqb (recorded_in image) (record_count image)) (all (good_record (leaves_in image) 0 (record_at image)) (record_count image)) ≡ true = both_right _ _ p.1 in
    record {
      some = ltb-true _ _ (both_left _ _ l);
      whole = eqb-true _ _ (both_right _ _ l);
      checks = both_right (length_right image) (checks_right F image) p.0;
      sound = both_left _ _ p.1;
      count = eqb-true _ _ (both_left _ _ r);
      good = both_right _ _ r;
    }

pub is-accepted : (F : Form) (image : List ℕ) → Accepted F image → test_by F image ≡ 0
unfolding rules_kept
is-accepted F image A =
    let r : rules_kept F image ≡ true = both_true _ _ A.sound (both_true _ _ (eq-eqb _ _ A.count) A.good) in
    test-by F image A.some A.whole A.checks ∙ ap (λ (b : Bool). pick {A = ℕ} b 0 11) r

-- the records of an accepted image stand in its blocks
pub accepted-fits : (F : Form) (image : List ℕ) → Accepted F image → recorded_in image + 7 ≤ 7 * whole_blocks image
accepted-fits F image A = omega (arith, A.count, A.some, A.whole, records-fit F image A.sound)

-- the rules block by block: the head and record blocks 1 to j keep them
unfoldable pub kept_to : Form → List ℕ → ℕ → Bool
kept_to F image zero = head_sound F (image_block image 0)
kept_to F image (suc j) =
    both (kept_to F image j)
    (both (block_sound (eqb (suc j + 1) (whole_blocks image)) (suc j) (image_block image (suc j)))
    (all (good_record (leaves_in image) (lowest 0 (record_at image) (7 * j)) (record_in (image_block image (suc j)))) (count_of (image_block image (suc j)))))

pub kept-head : (F : Form) (image : List ℕ) → kept_to F image 0 ≡ head_sound F (image_block image 0)
unfolding kept_to
kept-head F image = refl

pub kept_block : (F : Form) (image : List ℕ) (j : ℕ) → kept_to F image (suc j) ≡
    both (kept_to F image j)
    (both (block_sound (eqb (suc j + 1) (whole_blocks image)) (suc j) (image_block image (suc j)))
    (all (good_record (leaves_in image) (lowest 0 (record_at image) (7 * j)) (record_in (image_block image (suc j)))) (count_of (image_block image (suc j)))))
unfolding kept_to
kept_block F image j = refl

-- record 7 j + i of an image is record i of its block
pub record-in : (image : List ℕ) (j i : ℕ) → i < 7 → record_at image (7 * j + i) ≡ record_in (image_block image (suc j)) i
record-in image j i l =
    let d : 1 + (7 * j + i) / 7 ≡ suc j = omega arith in
    let r : (7 * j + i) % 7 ≡ i = omega arith in
    rw (d, r) refl

module _ (F : Form) (image : List ℕ) where
  abbrev W : ℕ
  W = whole_blocks image

  abbrev n : ℕ
  n = leaves_in image

  abbrev at : ℕ → List ℕ
  at j = image_block image (suc j)

  lowest-in : (j i : ℕ) → i ≤ 7 → lowest 0 (record_at image) (7 * j + i) ≡ lowest (lowest 0 (record_at image) (7 * j)) (record_in (at j)) i
  lowest-in j zero l =
      let e : 7 * j + zero ≡ 7 * j = omega arith in
      ap (lowest 0 (record_at image)) e ∙ sym (lowest-none (lowest 0 (record_at image) (7 * j)) (record_in (at j)))
  lowest-in j (suc i) l =
      let e : 7 * j + suc i ≡ 7 * j + i + 1 = omega arith in
      ap (lowest 0 (record_at image)) e ∙ lowest-more 0 (record_at image) (7 * j + i) ∙ ap (λ (r : Record). r.leaf + 1) (record-in image j i (omega arith))
      ∙ sym (lowest-more (lowest 0 (record_at image) (7 * j)) (record_in (at j)) i) ∙ ap (lowest (lowest 0 (record_at image) (7 * j)) (record_in (at j))) (add-one i)

  good-in : (j i : ℕ) → i < 7 → good_record n 0 (record_at image) (7 * j + i) ≡ good_record n (lowest 0 (record_at image) (7 * j)) (record_in (at j)) i
  unfolding good_record
  good-in j i l = rw (lowest-in j i (omega arith), record-in image j i l)

  -- the leaf number after the last record of a full block
  pub lowest-next : (j : ℕ) → lowest (lowest 0 (record_at image) (7 * j)) (record_in (at j)) 7 ≡ lowest 0 (record_at image) (7 * suc j)
  lowest-next j =
      let e : 7 * j + 7 ≡ 7 * suc j = omega arith in
      sym (lowest-in j 7 (omega arith)) ∙ ap (lowest 0 (record_at image)) e

  module _ (j : ℕ) (k : kept_to F image (suc j) ≡ true) where
    parts : both (kept_to F image j) (both (block_sound (eqb (suc j + 1) W) (suc j) (at j)) (all (good_record n (lowest 0 (record_at image) (7 * j)) (record_in (at j))) (count_of (at j)))) ≡ true
    parts = sym (kept_block F image j) ∙ k

    pub kept-before : kept_to F image j ≡ true
    kept-before = both_left _ _ parts

    kept-sound : block_sound (eqb (suc j + 1) W) (suc j) (at j) ≡ true
    kept-sound = both_left _ _ (both_right _ _ parts)

    kept-few : count_of (at j) ≤ 7
    kept-few = (count-bounds (eqb (suc j + 1) W) (count_of (at j)) (sound-count (eqb (suc j + 1) W) (suc j) (at j) kept-sound)).1

    -- a block that is not the last has 7 records
    pub kept_full : suc j + 1 < W → count_of (at j) ≡ 7
    kept_full l =
        let f : eqb (suc j + 1) W ≡ false = ne_eqb (suc j + 1) W (λ e. absurd (omega arith)) in
        eqb-true (count_of (at j)) 7 (sym (count-full (eqb (suc j + 1) W) (count_of (at j)) f) ∙ sound-count (eqb (suc j + 1) W) (suc j) (at j) kept-sound)

    kept-good : all (λ i. good_record n 0 (record_at image) (7 * j + i)) (count_of (at j)) ≡ true
    kept-good =
        all_same (λ i. good_record n 0 (record_at image) (7 * j + i)) (good_record n (lowest 0 (record_at image) (7 * j)) (record_in (at j))) (count_of (at j))
        (λ i l. good-in j i (omega (arith, kept-few)))
        ∙ both_right _ _ (both_right _ _ parts)

  -- blocks that keep the rules are sound
  kept-all : (j : ℕ) → kept_to F image j ≡ true → all (sound_at F image) (suc j) ≡ true
  kept-all zero k = all-is (sound_at F image) 1 (λ i l. let e : i ≡ 0 = omega arith in sound-head F image i e ∙ ap (λ (x : ℕ). head_sound F (image_block image x)) e ∙ sym (kept-head F image) ∙ k)
  kept-all (suc j) k =
      let e : suc j + 1 ≡ suc (suc j) = omega arith in
      ap (all (sound_at F image)) (sym e)
      ∙ all_more (sound_at F image) (suc j) (kept-all j (kept-before j k)) (sound-block F image (suc j) (λ z. absurd (omega arith)) ∙ kept-sound j k)

  -- and so are their records: all of full blocks, and those of one block more
  kept-records : (j : ℕ) → suc j < W → kept_to F image j ≡ true → all (good_record n 0 (record_at image)) (7 * j) ≡ true
  kept-records zero l k = all-zero (good_record n 0 (record_at image))
  kept-records (suc j) l k =
      let e : 7 * j + count_of (at j) ≡ 7 * suc j = omega (arith, kept_full j k (omega arith)) in
      ap (all (good_record n 0 (record_at image))) (sym e)
      ∙ all-add (good_record n 0 (record_at image)) (7 * j) (count_of (at j)) (kept-records j (omega arith) (kept-before j k)) (kept-good j k)

  kept-last : (j : ℕ) → suc j ≡ W → kept_to F image j ≡ true → all (good_record n 0 (record_at image)) (record_count image) ≡ true
  kept-last zero e k = ap (all (good_record n 0 (record_at image))) (records-none image (omega arith)) ∙ all-zero (good_record n 0 (record_at image))
  kept-last (suc j) e k =
      let f : W - 1 ≡ suc j = omega arith in
      let g : W - 2 ≡ j = omega arith in
      let c : record_count image ≡ 7 * j + count_of (at j) = records-by image (omega arith) ∙ rw (f, g) refl in
      ap (all (good_record n 0 (record_at image))) c
      ∙ all-add (good_record n 0 (record_at image)) (7 * j) (count_of (at j)) (kept-records j (omega arith) (kept-before j k)) (kept-good j k)

  -- and back
  module _ (s : all (sound_at F image) W ≡ true) (g : all (good_record n 0 (record_at image)) (record_count image) ≡ true) where
    sound-at : (j : ℕ) → suc j < W → block_sound (eqb (suc j + 1) W) (suc j) (at j) ≡ true
    sound-at j l = sym (sound-block F image (suc j) (λ z. absurd (omega arith))) ∙ all-at (sound_at F image) W s (suc j) l

    count_at : (j : ℕ) → suc j < W → (1 ≤ count_of (at j)) × (count_of (at j) ≤ 7)
    count_at j l = count-bounds (eqb (suc j + 1) W) (count_of (at j)) (sound-count (eqb (suc j + 1) W) (suc j) (at j) (sound-at j l))

    -- the records of block j + 1 are among those that are counted
    counted : (j : ℕ) → suc j < W → 7 * j + count_of (at j) ≤ record_count image
    counted j l =
        let k : ℕ = W - 2 in
        let f : W - 1 ≡ suc k = omega arith in
        let c : record_count image ≡ 7 * k + count_of (at k) = records-by image (omega arith) ∙ rw f refl in
        ⊎_elim
        (λ (q : j < k). omega (arith, c, count_at j l))
        (λ (q : k ≤ j). let e : k ≡ j = omega arith in omega (arith, c, ap (λ (x : ℕ). count_of (at x)) e))
        (lt-or-ge j k)

    all-kept : (j : ℕ) → suc j ≤ W → kept_to F image j ≡ true
    all-kept zero l = kept-head F image ∙ sym (sound-head F image 0 refl) ∙ all-at (sound_at F image) W s 0 (omega arith)
    all-kept (suc j) l =
        kept_block F image j
        ∙ both_true _ _ (all-kept j (omega arith))
        (both_true _ _ (sound-at j (omega arith))
        (all-is (good_record n (lowest 0 (record_at image) (7 * j)) (record_in (at j))) (count_of (at j)) (λ i q.
        sym (good-in j i (omega (arith, count_at j (omega arith))))
        ∙ all-at (good_record n 0 (record_at image)) (record_count image) g (7 * j + i) (omega (arith, counted j (omega arith))))))

  -- the rules of an image of j + 1 blocks
  pub rules-are : (j : ℕ) → suc j ≡ W → rules_kept F image ≡ both (kept_to F image j) (eqb (recorded_in image) (record_count image))
  unfolding rules_kept
  rules-are j e =
      same_truth _ _
      (λ r. both_true _ _ (all-kept (both_left _ _ r) (both_right _ _ (both_right _ _ r)) j (omega arith)) (both_left _ _ (both_right _ _ r)))
      (λ r. both_true _ _ (ap (all (sound_at F image)) (sym e) ∙ kept-all j (both_left _ _ r)) (both_true _ _ (both_right _ _ r) (kept-last j e (both_left _ _ r))))

  -- where the test of the blocks has come to, after j of them: whether the rules were kept, and the leaf number after the last record
  pub record Tested (good : Bool) (low j : ℕ) : Type 0 where
    pub some : 1 ≤ j
    pub few : j ≤ W
    pub checks : all (λ i. check_right F.modulus (image_block image i)) j ≡ true
    pub kept : good ≡ kept_to F image (j - 1)
    pub next : good ≡ true → j < W → low ≡ lowest 0 (record_at image) (7 * (j - 1))

  pub tested-head : (good : Bool) → 1 ≤ W → check_right F.modulus (image_block image 0) ≡ true → good ≡ head_sound F (image_block image 0) → Tested good 0 1
  tested-head good w c g =
      record {
        some = omega arith;
        few = w;
        checks = all_more (λ i. check_right F.modulus (image_block image i)) 0 (all-zero (λ i. check_right F.modulus (image_block image i))) c;
        kept = g ∙ sym (kept-head F image);
        next = λ _ _. sym (lowest-none 0 (record_at image));
      }

  -- one block more
  module _ (good : Bool) (low i : ℕ) (T : Tested good low (suc i)) (l : suc i < W) (good' : Bool)
      (g : good' ≡ both good (both (block_sound (eqb (suc i + 1) W) (suc i) (at i)) (all (good_record n low (record_in (at i))) (count_of (at i))))) where
    same_number : suc i - 1 ≡ i
    same_number = omega arith

    next-number : suc i + 1 - 1 ≡ suc i
    next-number = omega arith

    kept-i : good ≡ kept_to F image i
    kept-i = T.kept ∙ ap (kept_to F image) same_number

    low-i : good ≡ true → low ≡ lowest 0 (record_at image) (7 * i)
    low-i t = T.next t l ∙ ap (λ (x : ℕ). lowest 0 (record_at image) (7 * x)) same_number

    kept_next : good' ≡ kept_to F image (suc i)
    kept_next =
        ⊎_elim
        (λ (t : good ≡ true).
        g ∙ (λ x. both (kept-i x) (both (block_sound (eqb (suc i + 1) W) (suc i) (at i)) (all (good_record n (low-i t x) (record_in (at i))) (count_of (at i))))) ∙ sym (kept_block F image i))
        (λ (f : good ≡ false). g ∙ both-false-left _ _ f ∙ sym (kept_block F image i ∙ both-false-left _ _ (sym kept-i ∙ f)))
        (true-or-false good)

    tested-more : (low' : ℕ) → check_right F.modulus (at i) ≡ true → (good' ≡ true → low' ≡ lowest low (record_in (at i)) (count_of (at i))) → Tested good' low' (suc i + 1)
    tested-more low' c w =
        record {
          some = omega arith;
          few = omega arith;
          checks = all_more (λ k. check_right F.modulus (image_block image k)) (suc i) T.checks c;
          kept = kept_next ∙ ap (kept_to F image) (sym next-number);
          next = λ t m.
              let k : kept_to F image (suc i) ≡ true = sym kept_next ∙ t in
              w t ∙ (λ x. lowest (low-i (both_left _ _ (sym g ∙ t)) x) (record_in (at i)) (kept_full i k m x)) ∙ lowest-next i
              ∙ ap (λ (x : ℕ). lowest 0 (record_at image) (7 * x)) (sym next-number);
        }

  pub tested-next : (good : Bool) (low j : ℕ) → Tested good low j → j < W → (good' : Bool) (low' : ℕ) → check_right F.modulus (image_block image j) ≡ true
      → good' ≡ both good (both (block_sound (eqb (j + 1) W) j (image_block image j)) (all (good_record n low (record_in (image_block image j))) (count_of (image_block image j))))
      → (good' ≡ true → low' ≡ lowest low (record_in (image_block image j)) (count_of (image_block image j))) → Tested good' low' (j + 1)
  tested-next good low zero T l good' low' c g w = absurd (omega (arith, T.some))
  tested-next good low (suc i) T l good' low' c g w = tested-more good low i T l good' g low' c w

  pub wrong-check : (j : ℕ) → j < W → check_right F.modulus (image_block image j) ≡ false → test_by F image ≡ 10
  unfolding checks_right
  wrong-check j l h = wrong-check-10 F image (all-fails (λ i. check_right F.modulus (image_block image i)) W j l h)

  -- after the last block
  module _ (some : 0 < length image) (whole : length image % 512 ≡ 0) (good : Bool) (low j : ℕ) (T : Tested good low j) (e : W ≤ j) where
    last : suc (W - 1) ≡ W
    last = omega arith

    kept-end : good ≡ kept_to F image (W - 1)
    kept-end = let q : j ≡ W = omega (arith, T.few) in T.kept ∙ ap (λ (x : ℕ). kept_to F image (x - 1)) q

    by-rules : test_by F image ≡ pick {A = ℕ} (rules_kept F image) 0 11
    unfolding checks_right
    by-rules = let q : W ≡ j = omega (arith, T.few) in test-by F image some whole (ap (all (λ i. check_right F.modulus (image_block image i))) q ∙ T.checks)

    pub broken : good ≡ false → test_by F image ≡ 11
    broken f = by-rules ∙ ap (λ (b : Bool). pick {A = ℕ} b 0 11) (rules-are (W - 1) last ∙ both-false-left _ _ (sym kept-end ∙ f))

    pub miscounted : (recorded_in image ≡ record_count image → ⊥) → test_by F image ≡ 11
    miscounted h = by-rules ∙ ap (λ (b : Bool). pick {A = ℕ} b 0 11) (rules-are (W - 1) last ∙ both-false-right _ _ (ne_eqb _ _ h))

    pub is-kept : good ≡ true → recorded_in image ≡ record_count image → test_by F image ≡ 0
    is-kept t h = by-rules ∙ ap (λ (b : Bool). pick {A = ℕ} b 0 11) (rules-are (W - 1) last ∙ both_true _ _ (sym kept-end ∙ t) (eq-eqb _ _ h))
