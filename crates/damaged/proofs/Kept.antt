-- What is taken, by one induction over the records and blocks in input order; and with it: each record kept is one of a sound block, and has 64 bytes.
use mathlib.Core.Path.{◌≡◌, refl, ap, sym, ◌∙◌, subst}
use mathlib.Core.List.{List, [], ◌∷◌, ◌++◌}
use mathlib.Core.Bool.{true, false}
use mathlib.Core.Logic.{⊎_elim}
use Prim.Native.Nat.{ℕ, zero, suc, ◌+◌, ◌*◌, ◌%◌, ◌-◌, ◌≤◌, ◌<◌}
use native.Mathlib.Numerals.{add-one}
use native.Mathlib.Omega.{arith}
use lib.ListN.{length, get_or, get_or-append}
use Rattle.laws.proofs.Choice.{true-or-false}
use Rattle.laws.proofs.Splice.{lt-or-ge, length-part'}
use Rattle.form.specs.Encode.{Record, none, Sized}
use Rattle.form.specs.Test.{whole_blocks, image_block, count_of, record_in, good_above, leaves_in}
use Rattle.damaged.specs.Taken.{Taken, used, above, take_record, take_records, take_blocks, taken}
use Rattle.damaged.specs.Theorems.{From}
use Rattle.damaged.proofs.Taken.{record-kept, record-left, records-none, records-more, block-used, block-left, blocks-none, used-few, length_more, get_d-last}

abbrev pub with_kept : Taken → Record → Taken
with_kept t r = record { kept = t.kept ++ (r ∷ []); listed = t.listed }

abbrev pub with_listed : Taken → ℕ → Taken
with_listed t x = record { kept = t.kept; listed = t.listed ++ (x ∷ []) }

-- a property of what is taken before a place of the list: it is so at the first block, each record that is kept or left out takes it one place on, and so do the end of a block and a block that is not used
module _ (image : List ℕ) (Q : ℕ → Taken → Type 0) (start : Q 8 (record { kept = []; listed = [] }))
    (keeps : (j i : ℕ) (t : Taken) → 1 ≤ j → j < whole_blocks image → used image j ≡ true → i < count_of (image_block image j)
    → good_above (leaves_in image) (above t.kept) (record_in (image_block image j) i) ≡ true → Q (8 * j + i) t → Q (8 * j + i + 1) (with_kept t (record_in (image_block image j) i)))
    (leaves : (j i : ℕ) (t : Taken) → 1 ≤ j → j < whole_blocks image → used image j ≡ true → i < count_of (image_block image j)
    → good_above (leaves_in image) (above t.kept) (record_in (image_block image j) i) ≡ false → Q (8 * j + i) t → Q (8 * j + i + 1) (with_listed t (8 * j + i)))
    (ends : (j : ℕ) (t : Taken) → 1 ≤ j → j < whole_blocks image → used image j ≡ true → Q (8 * j + count_of (image_block image j)) t → Q (8 * j + 8) t)
    (passes : (j : ℕ) (t : Taken) → 1 ≤ j → j < whole_blocks image → used image j ≡ false → Q (8 * j) t → Q (8 * j + 8) (with_listed t (8 * j + 7))) where
  module _ (j : ℕ) (one : 1 ≤ j) (inside : j < whole_blocks image) (u : used image j ≡ true) (t : Taken) where
    abbrev b : List ℕ
    b = image_block image j

    abbrev n : ℕ
    n = leaves_in image

    one_more : (i : ℕ) (s : Taken) → i < count_of b → Q (8 * j + i) s → Q (8 * j + i + 1) (take_record n j b s i)
    one_more i s l q =
        ⊎_elim
        (λ (g : good_above n (above s.kept) (record_in b i) ≡ true). subst (Q (8 * j + i + 1)) (sym (record-kept n j b s i g)) (keeps j i s one inside u l g q))
        (λ (g : good_above n (above s.kept) (record_in b i) ≡ false). subst (Q (8 * j + i + 1)) (sym (record-left n j b s i g)) (leaves j i s one inside u l g q))
        (true-or-false (good_above n (above s.kept) (record_in b i)))

    all-records : Q (8 * j) t → (c : ℕ) → c ≤ count_of b → Q (8 * j + c) (take_records n j b t c)
    all-records q zero l =
        let e : 8 * j ≡ 8 * j + zero = omega arith in
        subst (λ (p : ℕ). Q p (take_records n j b t zero)) e (subst (Q (8 * j)) (sym (records-none n j b t)) q)
    all-records q (suc c) l =
        let e : 8 * j + c + 1 ≡ 8 * j + suc c = omega arith in
        let f : take_record n j b (take_records n j b t c) c ≡ take_records n j b t (suc c) = sym (records-more n j b t c) ∙ ap (take_records n j b t) (add-one c) in
        subst (λ (p : ℕ). Q p (take_records n j b t (suc c))) e (subst (Q (8 * j + c + 1)) f (one_more c (take_records n j b t c) (omega arith) (all-records q c (omega arith))))

  pub taken-by : (j : ℕ) → j < whole_blocks image → Q (8 * suc j) (take_blocks image j)
  unfolding take_blocks
  taken-by zero l = subst (Q 8) (sym (blocks-none image)) start
  taken-by (suc j) l =
      let t : Taken = take_blocks image j in
      let b : List ℕ = image_block image (suc j) in
      let n : ℕ = leaves_in image in
      let e : 8 * suc j + 8 ≡ 8 * suc (suc j) = omega arith in
      let q : Q (8 * suc j) t = taken-by j (omega arith) in
      subst (λ (p : ℕ). Q p (take_blocks image (suc j))) e
      (⊎_elim
      (λ (u : used image (suc j) ≡ true).
      subst (Q (8 * suc j + 8)) (sym (block-used n (suc j) b t (used image (suc j)) u))
      (ends (suc j) (take_records n (suc j) b t (count_of b)) (omega arith) l u (all-records (suc j) (omega arith) l u t q (count_of b) (omega arith))))
      (λ (u : used image (suc j) ≡ false).
      subst (Q (8 * suc j + 8)) (sym (block-left n (suc j) b t (used image (suc j)) u)) (passes (suc j) t (omega arith) l u q))
      (true-or-false (used image (suc j))))

-- each record kept is one of a sound block
abbrev AllFrom : List ℕ → List Record → Type 0
AllFrom image rs = (p : ℕ) → p < length rs → From image (get_or rs p none)

-- one record more
module _ (P : Record → Type 0) (rs : List Record) (r : Record) (old : (p : ℕ) → p < length rs → P (get_or rs p none)) (new : P r) where
  pub each_more : (p : ℕ) → p < length (rs ++ (r ∷ [])) → P (get_or (rs ++ (r ∷ [])) p none)
  each_more p l =
      ⊎_elim
      (λ (h : p < length rs). subst P (sym (get_or-append rs (r ∷ []) none p h)) (old p h))
      (λ (h : length rs ≤ p). let e : length rs ≡ p = omega (arith, length_more rs r) in subst P (sym (get_d-last rs r none) ∙ ap (λ (x : ℕ). get_or (rs ++ (r ∷ [])) x none) e) new)
      (lt-or-ge p (length rs))

pub all_from : (image : List ℕ) (j : ℕ) → j < whole_blocks image → AllFrom image (take_blocks image j).kept
all_from image j l =
    taken-by image (λ p t. AllFrom image t.kept)
    (λ p h. absurd (omega arith))
    (λ k i t one inside u few g q. each_more (From image) t.kept (record_in (image_block image k) i) q
    (record { place = k; some = one; inside = inside; sound = u; slot = i; few = few; same = refl }))
    (λ k i t one inside u few g q. q)
    (λ k t one inside u q. q)
    (λ k t one inside u q. q)
    j l

-- each has 64 bytes
pub from-long : (image : List ℕ) (r : Record) → length image % 512 ≡ 0 → From image r → length r.content ≡ 64
from-long image r whole f =
    let b : List ℕ = image_block image f.place in
    let l : length b ≡ 512 = length-part' image (512 * f.place) 512 (omega (arith, f.inside)) in
    ap (λ (x : Record). length x.content) f.same ∙ length-part' b (12 + 68 * f.slot) 64 (omega (arith, f.few, used-few image f.place f.sound))

pub kept-sized : (image : List ℕ) → 0 < length image → length image % 512 ≡ 0 → Sized (taken image).kept
unfolding Sized
kept-sized image some whole p l = from-long image (get_or (taken image).kept p none) whole (all_from image (whole_blocks image - 1) (omega arith) p l)
