-- Nothing is lost unseen: every record of a sound block is kept or listed, every other block is listed, and the list rises.
use mathlib.Core.Path.{◌≡◌, refl, ap, ◌∙◌, subst}
use mathlib.Core.List.{List, [], ◌∷◌, ◌++◌}
use mathlib.Core.Bool.{true, false}
use mathlib.Core.Logic.{◌⊎◌, inl, inr, ⊎_elim}
use Prim.Native.Nat.{ℕ, suc, ◌+◌, ◌*◌, ◌/◌, ◌%◌, ◌-◌, ◌≤◌, ◌<◌}
use native.Mathlib.Omega.{arith}
use lib.ListN.{length, get_or, get_or-append}
use Rattle.laws.proofs.Choice.{not-both-ways}
use Rattle.laws.proofs.Splice.{lt-or-ge}
use Rattle.form.specs.Encode.{Record, none}
use Rattle.form.specs.Test.{whole_blocks, image_block, count_of, record_in}
use Rattle.damaged.specs.Taken.{Taken, used, take_blocks, taken}
use Rattle.damaged.specs.Theorems.{Kept, Listed, Told, Rises}
use Rattle.damaged.proofs.Taken.{used-few, length_more, get_d-last}
use Rattle.damaged.proofs.Kept.{with_kept, with_listed, taken-by}

-- what is kept or listed stays so, and what is added is there
module _ (t : Taken) where
  kept-stays : (r q : Record) → Kept t r → Kept (with_kept t q) r
  kept-stays r q k =
      let p : ℕ = k.0 in
      (p, omega (arith, k.1, length_more t.kept q), get_or-append t.kept (q ∷ []) none p k.1 ∙ k.2)

  kept_new : (q : Record) → Kept (with_kept t q) q
  kept_new q = (length t.kept, omega (arith, length_more t.kept q), get_d-last t.kept q none)

  listed-stays : (x y : ℕ) → Listed t x → Listed (with_listed t y) x
  listed-stays x y k =
      let p : ℕ = k.0 in
      (p, omega (arith, k.1, length_more t.listed y), get_or-append t.listed (y ∷ []) 0 p k.1 ∙ k.2)

  listed-new : (y : ℕ) → Listed (with_listed t y) y
  listed-new y = (length t.listed, omega (arith, length_more t.listed y), get_d-last t.listed y 0)

module _ (image : List ℕ) where
  abbrev rec : ℕ → ℕ → Record
  rec j i = record_in (image_block image j) i

  abbrev count : ℕ → ℕ
  count j = count_of (image_block image j)

  start : Told image 8 (record { kept = []; listed = [] })
  start = record { records = λ j i one inside l u f. absurd (omega arith); blocks = λ j one inside l u. absurd (omega arith) }

  -- a record in its place; what is known of the places before is known of the record's own place too
  module _ (j i : ℕ) (t : Taken) (u : used image j ≡ true) (f : i < count j) (T : Told image (8 * j + i) t) where
    few : i < 7
    few = omega (arith, f, used-few image j u)

    place-next : (s : Taken) → ((r : Record) → Kept t r → Kept s r) → ((x : ℕ) → Listed t x → Listed s x) → (Kept s (rec j i) ⊎ Listed s (8 * j + i)) → Told image (8 * j + i + 1) s
    place-next s keep list new =
        record {
          records = λ k h one inside l v g.
              ⊎_elim
              (λ (q : 8 * k + h < 8 * j + i). ⊎_elim (λ a. inl (keep (rec k h) a)) (λ a. inr (list (8 * k + h) a)) (T.records k h one inside q v g))
              (λ (q : 8 * j + i ≤ 8 * k + h).
              let b : h < 7 = omega (arith, g, used-few image k v) in
              let e : j ≡ k = omega (arith, few) in
              let d : i ≡ h = omega (arith, few) in
              subst (λ (x : ℕ). Kept s (rec x h) ⊎ Listed s (8 * x + h)) e (subst (λ (x : ℕ). Kept s (rec j x) ⊎ Listed s (8 * j + x)) d new))
              (lt-or-ge (8 * k + h) (8 * j + i));
          blocks = λ k one inside l v. list (8 * k + 7) (T.blocks k one inside (omega (arith, few)) v);
        }

  -- the end of a block that is used, and a block that is not
  module _ (j : ℕ) (t : Taken) where
    block-ends : used image j ≡ true → Told image (8 * j + count j) t → Told image (8 * j + 8) t
    block-ends u T =
        record {
          records = λ k h one inside l v g.
              ⊎_elim
              (λ (q : 8 * k + h < 8 * j + count j). T.records k h one inside q v g)
              (λ (q : 8 * j + count j ≤ 8 * k + h).
              let b : h < 7 = omega (arith, g, used-few image k v) in
              let e : k ≡ j = omega arith in
              absurd (omega (arith, g, ap count e)))
              (lt-or-ge (8 * k + h) (8 * j + count j));
          blocks = λ k one inside l v.
              ⊎_elim
              (λ (q : 8 * k + 7 < 8 * j + count j). T.blocks k one inside q v)
              (λ (q : 8 * j + count j ≤ 8 * k + 7).
              let b : count j ≤ 7 = used-few image j u in
              let e : j ≡ k = omega arith in
              absurd (not-both-ways u (ap (used image) e ∙ v)))
              (lt-or-ge (8 * k + 7) (8 * j + count j));
        }

    block-passed : used image j ≡ false → Told image (8 * j) t → Told image (8 * j + 8) (with_listed t (8 * j + 7))
    block-passed u T =
        record {
          records = λ k h one inside l v g.
              ⊎_elim
              (λ (q : 8 * k + h < 8 * j).
              ⊎_elim (λ a. inl a) (λ a. inr (listed-stays t (8 * k + h) (8 * j + 7) a)) (T.records k h one inside q v g))
              (λ (q : 8 * j ≤ 8 * k + h).
              let b : h < 7 = omega (arith, g, used-few image k v) in
              let e : k ≡ j = omega arith in
              absurd (not-both-ways v (ap (used image) e ∙ u)))
              (lt-or-ge (8 * k + h) (8 * j));
          blocks = λ k one inside l v.
              ⊎_elim
              (λ (q : 8 * k + 7 < 8 * j). listed-stays t (8 * k + 7) (8 * j + 7) (T.blocks k one inside q v))
              (λ (q : 8 * j ≤ 8 * k + 7).
              let e : j ≡ k = omega arith in
              subst (λ (x : ℕ). Listed (with_listed t (8 * j + 7)) (8 * x + 7)) e (listed-new t (8 * j + 7)))
              (lt-or-ge (8 * k + 7) (8 * j));
        }

  all_told : (j : ℕ) → j < whole_blocks image → Told image (8 * suc j) (take_blocks image j)
  all_told =
      taken-by image (Told image) start
      (λ j i t one inside u f g T. place-next j i t u f T (with_kept t (rec j i)) (λ r a. kept-stays t r (rec j i) a) (λ x a. a) (inl (kept_new t (rec j i))))
      (λ j i t one inside u f g T. place-next j i t u f T (with_listed t (8 * j + i)) (λ r a. a) (λ x a. listed-stays t x (8 * j + i) a) (inr (listed-new t (8 * j + i))))
      (λ j t one inside u T. block-ends j t u T)
      (λ j t one inside u T. block-passed j t u T)

  -- of a whole image
  module _ (j : ℕ) (one : 1 ≤ j) (inside : j < whole_blocks image) where
    -- every record of a sound block is kept or listed
    pub record-told : (i : ℕ) → used image j ≡ true → i < count j → Kept (taken image) (rec j i) ⊎ Listed (taken image) (8 * j + i)
    record-told i u f = (all_told (whole_blocks image - 1) (omega arith)).records j i one inside (omega (arith, used-few image j u)) u f

    -- every other block is listed
    pub block-told : used image j ≡ false → Listed (taken image) (8 * j + 7)
    block-told u = (all_told (whole_blocks image - 1) (omega arith)).blocks j one inside (omega arith) u

-- one entry more, and a later place
rises-more : (p x q : ℕ) (t : Taken) → p ≤ x → x < q → Rises p t → Rises q (with_listed t x)
rises-more p x q t h g R =
    let n : ℕ = length t.listed in
    let old : (i : ℕ) → i < n → get_or (t.listed ++ (x ∷ [])) i 0 ≡ get_or t.listed i 0 = (λ i l. get_or-append t.listed (x ∷ []) 0 i l) in
    let new : get_or (t.listed ++ (x ∷ [])) n 0 ≡ x = get_d-last t.listed x 0 in
    record {
      below = λ i l.
          ⊎_elim
          (λ (k : i < n). omega (arith, old i k, R.below i k))
          (λ (k : n ≤ i). let e : i ≡ n = omega (arith, length_more t.listed x) in rw e (omega (arith, new)))
          (lt-or-ge i n);
      rising = λ i k l m.
          ⊎_elim
          (λ (c : k < n). omega (arith, old i (omega arith), old k c, R.rising i k l c))
          (λ (c : n ≤ k). let e : k ≡ n = omega (arith, length_more t.listed x) in rw e (omega (arith, new, old i (omega arith), R.below i (omega arith))))
          (lt-or-ge k n);
    }

rises-later : (p q : ℕ) (t s : Taken) → p ≤ q → t.listed ≡ s.listed → Rises p t → Rises q s
rises-later p q t s h e R =
    record {
      below = λ i l. omega (arith, R.below i (omega (arith, ap length e)), ap (λ (x : List ℕ). get_or x i 0) e);
      rising = λ i k l m. omega (arith, R.rising i k l (omega (arith, ap length e)), ap (λ (x : List ℕ). get_or x i 0) e, ap (λ (x : List ℕ). get_or x k 0) e);
    }

all-rise : (image : List ℕ) (j : ℕ) → j < whole_blocks image → Rises (8 * suc j) (take_blocks image j)
all-rise image =
    taken-by image Rises
    (record { below = λ i l. absurd (omega arith); rising = λ i k l m. absurd (omega arith) })
    (λ j i t one inside u f g R. rises-later (8 * j + i) (8 * j + i + 1) t (with_kept t (record_in (image_block image j) i)) (omega arith) refl R)
    (λ j i t one inside u f g R. rises-more (8 * j + i) (8 * j + i) (8 * j + i + 1) t (omega arith) (omega arith) R)
    (λ j t one inside u R. rises-later (8 * j + count_of (image_block image j)) (8 * j + 8) t t (omega (arith, used-few image j u)) refl R)
    (λ j t one inside u R. rises-more (8 * j) (8 * j + 7) (8 * j + 8) t (omega arith) (omega arith) R)

-- the list rises
pub list-rises : (image : List ℕ) → 1 ≤ whole_blocks image → (p q : ℕ) → p < q → q < length (taken image).listed → get_or (taken image).listed p 0 < get_or (taken image).listed q 0
list-rises image some p q h l = (all-rise image (whole_blocks image - 1) (omega arith)).rising p q h l

-- no more is kept and listed than the blocks have records
abbrev Room : ℕ → Taken → Type 0
Room p t = length t.kept + length t.listed + 7 ≤ 7 * (p / 8) + p % 8

all_room : (image : List ℕ) (j : ℕ) → j < whole_blocks image → Room (8 * suc j) (take_blocks image j)
all_room image =
    taken-by image Room
    (omega arith)
    (λ j i t one inside u f g R. omega (arith, R, f, used-few image j u, length_more t.kept (record_in (image_block image j) i)))
    (λ j i t one inside u f g R. omega (arith, R, f, used-few image j u, length_more t.listed (8 * j + i)))
    (λ j t one inside u R. omega (arith, R, used-few image j u))
    (λ j t one inside u R. omega (arith, R, length_more t.listed (8 * j + 7)))

pub few-taken : (image : List ℕ) → 1 ≤ whole_blocks image → length (taken image).kept + length (taken image).listed ≤ 7 * (whole_blocks image - 1)
few-taken image some = omega (arith, all_room image (whole_blocks image - 1) (omega arith))
