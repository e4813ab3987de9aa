-- Laws of the walk: one for each way that a record, a block and the head can go, and what each does to what the walk has.
use mathlib.Core.Path.{◌≡◌, refl, ap, sym, ◌∙◌}
use mathlib.Core.List.{List, [], ◌∷◌, ◌++◌}
use mathlib.Core.Bool.{Bool, true, false}
use Prim.Native.Nat.{ℕ, zero, suc, ◌+◌, ◌*◌, ◌/◌, ◌%◌, ◌-◌, ◌≤◌, ◌<◌}
use native.Mathlib.Numerals.{add-one}
use native.Mathlib.Omega.{arith}
use lib.ListN.{length, take, drop, get_or, set, get_or-append}
use lib.Dec.{eqb}
use borrow.Author.Tests.{eq-eqb, ne_eqb, lt-ltb, le-ltb}
use Rattle.laws.specs.Choice.{both}
use Rattle.laws.specs.Bytes.{put_w, number_at}
use Rattle.laws.specs.Refusal.{refusal}
use Rattle.laws.proofs.Choice.{both_true, both-false-left, both-false-right}
use Rattle.laws.proofs.Refusals.{refusal-0, refusal-first}
use Rattle.laws.proofs.Put.{part-is, put_w-fits}
use Rattle.laws.proofs.Value.{splice-sets}
use Rattle.block.specs.Block.{block_or0}
use Rattle.block.proofs.Blocks.{block_or0-fits}
use Rattle.sums.specs.Check.{check_right, modulus_for}
use Rattle.form.specs.Encode.{Record, none, record_bytes}
use Rattle.form.specs.Test.{whole_blocks, image_block, record_in, head_sound, block_sound, good_above, form_of, version_in, length_right}
use Rattle.form.proofs.Sound.{form-modulus}
use Rattle.damaged.specs.Taken.{Taken, used, above, take_record}
use Rattle.damaged.proofs.Taken.{length_more, get_d-last, above-none, above_more, record-kept, record-left}
use Rattle.salvage.specs.Salvage.{head_tests}
use Rattle.salvage.specs.Goes.{with_entry}
use Rattle.salvage.specs.Walk.{record_place, closed_at, with_record, with_records, last_closed, with_entries, At}

-- a record of the new image, its last block, an entry of the list
module _ (o : List ℕ) (p : ℕ) where
  pub record-mid : (b : List ℕ) → (p % 7 ≡ 6 → ⊥) → with_record o p b ≡ put_w 68 o (record_place p) b
  unfolding with_record
  record-mid b h = rw (ne_eqb (p % 7) 6 h)

  pub record-full : (b : List ℕ) → p % 7 ≡ 6 → with_record o p b ≡ closed_at (put_w 68 o (record_place p) b) (1 + p / 7) 7
  unfolding with_record
  record-full b h = rw (eq-eqb (p % 7) 6 h)

  pub last-full : p % 7 ≡ 0 → last_closed o p ≡ o
  unfolding last_closed
  last-full h = rw (eq-eqb (p % 7) 0 h)

  pub last-part : (p % 7 ≡ 0 → ⊥) → last_closed o p ≡ closed_at o (1 + p / 7) (p % 7)
  unfolding last_closed
  last-part h = rw (ne_eqb (p % 7) 0 h)

pub entry_set : (l : List ℕ) (at x : ℕ) → at < length l → set l at x ≡ put_w 1 l at (x ∷ [])
entry_set l at x h = splice-sets (x ∷ []) l at (omega arith) ∙ sym (put_w-fits 1 l at (x ∷ []) (omega arith))

-- the check of block j by the head's version, of the block that is lent
pub check-is : (image : List ℕ) (j : ℕ) {v : ℕ} {r : Bool} → v ≡ version_in image → r ≡ check_right (modulus_for v) (take (512 * j + 512 - 512 * j) (drop (512 * j) image))
    → check_right (form_of image).modulus (image_block image j) ≡ r
check-is image j e h =
    ap (λ (x : ℕ). check_right x (image_block image j)) (form-modulus (version_in image) ∙ ap modulus_for (sym e)) ∙ ap (check_right (modulus_for _)) (sym (part-is image (512 * j) 512)) ∙ sym h

-- the refusals of the head
module _ (image : List ℕ) where
  abbrev check : Bool
  check = check_right (form_of image).modulus (image_block image 0)

  abbrev sound : Bool
  sound = head_sound (form_of image) (image_block image 0)

  bad-10 : both (length_right image) check ≡ false → refusal (head_tests image) ≡ 10
  bad-10 h = refusal-first [] (both (length_right image) check) 10 ((sound, 11) ∷ []) tt h

  pub no_length : length image ≡ 0 → refusal (head_tests image) ≡ 10
  unfolding length_right
  no_length h = bad-10 (both-false-left _ _ (both-false-left _ _ (le-ltb 0 (length image) (omega arith))))

  pub part-block : (length image % 512 ≡ 0 → ⊥) → refusal (head_tests image) ≡ 10
  unfolding length_right
  part-block h = bad-10 (both-false-left _ _ (both-false-right _ _ (ne_eqb (length image % 512) 0 h)))

  pub wrong-check : check ≡ false → refusal (head_tests image) ≡ 10
  wrong-check h = bad-10 (both-false-right _ _ h)

  module _ (some : 0 < length image) (whole : length image % 512 ≡ 0) (right : check ≡ true) where
    good-10 : both (length_right image) check ≡ true
    unfolding length_right
    good-10 = both_true _ _ (both_true _ _ (lt-ltb 0 (length image) some) (eq-eqb (length image % 512) 0 whole)) right

    pub broken-head : sound ≡ false → refusal (head_tests image) ≡ 11
    broken-head h = refusal-first ((both (length_right image) check, 10) ∷ []) sound 11 [] (good-10, tt) h

    pub sound-head : sound ≡ true → refusal (head_tests image) ≡ 0
    sound-head h = refusal-0 (head_tests image) (good-10, (h, tt))

records-front : (o : List ℕ) (rs xs : List Record) (p : ℕ) → p ≤ length rs → with_records o (rs ++ xs) p ≡ with_records o rs p
unfolding with_records
records-front o rs xs zero h = refl
records-front o rs xs (suc p) h = λ i. with_record (records-front o rs xs p (omega arith) i) p (record_bytes (get_or-append rs xs none p (omega arith) i))

pub with-more : (o : List ℕ) (rs : List Record) (p : ℕ) → with_records o rs (p + 1) ≡ with_record (with_records o rs p) p (record_bytes (get_or rs p none))
unfolding with_records
with-more o rs p = rw (add-one p)

records-last : (o : List ℕ) (rs : List Record) (r : Record)
    → with_record (with_records o rs (length rs)) (length rs) (record_bytes r) ≡ with_records o (rs ++ (r ∷ [])) (length (rs ++ (r ∷ [])))
records-last o rs r =
    sym (ap (with_records o (rs ++ (r ∷ []))) (length_more rs r) ∙ with-more o (rs ++ (r ∷ [])) (length rs)
    ∙ (λ i. with_record (records-front o rs (r ∷ []) (length rs) (omega arith) i) (length rs) (record_bytes (get_d-last rs r none i))))

entries-front : (l es xs : List ℕ) (k : ℕ) → k ≤ length es → with_entries l (es ++ xs) k ≡ with_entries l es k
unfolding with_entries
entries-front l es xs zero h = refl
entries-front l es xs (suc k) h = λ i. put_w 1 (entries-front l es xs k (omega arith) i) k (get_or-append es xs 0 k (omega arith) i ∷ [])

pub entries-more : (l es : List ℕ) (k : ℕ) → with_entries l es (k + 1) ≡ put_w 1 (with_entries l es k) k (get_or es k 0 ∷ [])
unfolding with_entries
entries-more l es k = rw (add-one k)

entries-last : (l es : List ℕ) (x : ℕ)
    → put_w 1 (with_entries l es (length es)) (length es) (x ∷ []) ≡ with_entries l (es ++ (x ∷ [])) (length (es ++ (x ∷ [])))
entries-last l es x =
    sym (ap (with_entries l (es ++ (x ∷ []))) (length_more es x) ∙ entries-more l (es ++ (x ∷ [])) (length es)
    ∙ (λ i. put_w 1 (entries-front l es (x ∷ []) (length es) (omega arith) i) (length es) (get_d-last es x 0 i ∷ [])))

-- what the walk has: nothing, one record more, one entry more
pub at-start : (o l : List ℕ) → At o l (record { kept = []; listed = [] }) 0 0 0 o l
unfolding with_records with_entries
at-start o l = record { kept-is = refl; low-is = sym above-none; listed-is = refl; output-is = refl; list-is = refl }

module _ (o l : List ℕ) (t : Taken) (kept low listed : ℕ) (output list : List ℕ) (a : At o l t kept low listed output list) where
  pub at-record : (r : Record) → At o l (record { kept = t.kept ++ (r ∷ []); listed = t.listed }) (kept + 1) (r.leaf + 1) listed (with_record output kept (record_bytes r)) list
  at-record r =
      record {
        kept-is = omega (arith, a.kept-is, length_more t.kept r);
        low-is = sym (above_more t.kept r);
        listed-is = a.listed-is;
        output-is = (λ i. with_record (a.output-is i) (a.kept-is i) (record_bytes r)) ∙ records-last o t.kept r;
        list-is = a.list-is;
      }

  pub at_entry : (x : ℕ) → At o l (record { kept = t.kept; listed = t.listed ++ (x ∷ []) }) kept low (listed + 1) output (put_w 1 list listed (x ∷ []))
  at_entry x =
      record {
        kept-is = a.kept-is;
        low-is = a.low-is;
        listed-is = omega (arith, a.listed-is, length_more t.listed x);
        output-is = a.output-is;
        list-is = (λ i. put_w 1 (a.list-is i) (a.listed-is i) (x ∷ [])) ∙ entries-last l t.listed x;
      }

-- record i of a block, good above the leaves below `low` or not, as its leaf number and its bytes are read
module _ (n low : ℕ) (b : List ℕ) (i : ℕ) (long : length b ≡ 512) (few : i < 7) (k : ℕ) (content : List ℕ) (e : k ≡ number_at 4 b (8 + 68 * i)) (f : content ≡ block_or0 b (12 + 68 * i)) where
  abbrev read : Record
  read = record { leaf = k; content = content }

  read_is : read ≡ record_in b i
  read_is = λ x. record { leaf = e x; content = (f ∙ block_or0-fits b (12 + 68 * i) (omega arith)) x }

  good-taken : (t : Taken) → low ≡ above t.kept → good_above n (above t.kept) (record_in b i) ≡ good_above n low read
  good-taken t h = λ x. good_above n (sym h x) (sym read_is x)

  pub passed : (j : ℕ) → good_above n low read ≡ false → (t : Taken) → low ≡ above t.kept → take_record n j b t i ≡ with_entry (8 * j + i) t
  passed j h t e = record-left n j b t i (good-taken t e ∙ h)

  module _ (j kept listed : ℕ) (output list : List ℕ) where
    pub took : good_above n low read ≡ true → (after : List ℕ) → after ≡ with_record output kept (record_bytes read)
        → (o l : List ℕ) (t : Taken) → At o l t kept low listed output list → At o l (take_record n j b t i) (kept + 1) (k + 1) listed after list
    took h after g o l t a =
        rw (record-kept n j b t i (good-taken t a.low-is ∙ h), ← read_is, g) (at-record o l t kept low listed output list a read)

-- block j is used, as the code finds it of the block that is lent
pub used-is : (image : List ℕ) (j : ℕ) {v : ℕ} {r : Bool} → v ≡ version_in image
    → r ≡ both (check_right (modulus_for v) (take (512 * j + 512 - 512 * j) (drop (512 * j) image))) (block_sound (eqb (j + 1) (whole_blocks image)) j (take (512 * j + 512 - 512 * j) (drop (512 * j) image)))
    → r ≡ used image j
unfolding used
used-is image j e h = h ∙ (λ i. both (sym (check-is image j e refl) i) (block_sound (eqb (j + 1) (whole_blocks image)) j (part-is image (512 * j) 512 i)))
