-- Laws of a line's fields and numerals: where the first field ends, and a numeral digit by digit.
use mathlib.Core.Path.{◌≡◌, refl, sym, ◌∙◌}
use mathlib.Core.List.{List, [], ◌∷◌}
use mathlib.Core.Bool.{Bool, true, false, cond}
use Prim.Native.Nat.{ℕ, zero, suc, ◌+◌, ◌-◌, ◌*◌, ◌^◌, ◌≤◌, ◌<◌}
use native.Mathlib.Nat.{pow-succ', pow-le-pow_right, pow-zero, mul-le-mul_left}
use native.Mathlib.Numerals.{add-one}
use native.Mathlib.Omega.{arith}
use lib.Dec.{eqb, ltb}
use lib.ListN.{length, get_or, take, drop, length-drop}
use lib.Seq.{take_all}
use borrow.Author.Tests.{ne_eqb, ltb-true, ltb-false, lt-ltb, le-ltb, le-leb, lt-leb}
use Rattle.std.specs.List.{position, position_or_len}
use Rattle.std.specs.Prelude.{Some, None, nat_eq}
use Rattle.std.proofs.lemmas.Bool.{eqb-true, eq-eqb}
use Rattle.std.proofs.lemmas.Option.{none-some, same_Some}
use Rattle.std.proofs.lemmas.List.Quantifiers.{position-Some}
use Rattle.std.proofs.lemmas.List.Sums.{fails_before_first, position_or_len_is}
use Rattle.laws.specs.Choice.{pick, both, either}
use Rattle.laws.specs.Scan.{all}
use Rattle.laws.proofs.Choice.{both_left, both_right, both-false-left, both-false-right, both_true, never_true, true-or-false}
use Rattle.laws.proofs.Scan.{all_more, all-fails}
use Rattle.std.specs.Cmp.Lexicographic.{same_text, other_text}
use lib.Pointwise.{pointwise}
use mathlib.Core.Logic.{⊎_elim}
use Rattle.script.specs.Script.{fields, digit_of, spells, is_numeral, numeral, is_decimal, decimal, decimal_of, is_hex, hex, hex_of, is_letter, is_order, order}

-- the byte at i is a space
abbrev pub space_at : List ℕ → ℕ → Bool
space_at xs i = eqb (get_or xs i 0) 32

-- a space at k and none before: the first field is the k bytes before it
fields-space : (xs : List ℕ) (k : ℕ) → k < length xs → space_at xs k ≡ true → ((i : ℕ) → i < k → space_at xs i ≡ false) → fields xs ≡ take k xs ∷ fields (drop (suc k) xs)
unfolding fields
fields-space [] k l t f = absurd (omega arith)
fields-space (x ∷ xs) zero l t f = rw t
fields-space (x ∷ xs) (suc k) l t f =
    rw (f 0 (omega arith), fields-space xs k (omega arith) t (λ i h. f (suc i) (omega arith)))

-- no space: the line is one field
fields-none : (xs : List ℕ) → ((i : ℕ) → i < length xs → space_at xs i ≡ false) → fields xs ≡ xs ∷ []
unfolding fields
fields-none [] f = refl
fields-none (x ∷ xs) f = rw (f 0 (omega arith), fields-none xs (λ i h. f (suc i) (omega arith)))

-- a byte is a space
abbrev pub is_space : ℕ → Bool
is_space b = nat_eq b 32

-- where a space is found, the line is what stands before it and the fields of the rest, as code cuts it, `&line[k + 1..]`
pub fields-cut : (xs : List ℕ) (k : ℕ) → Some k ≡ position is_space xs → fields xs ≡ take k xs ∷ fields (take (length xs - (k + 1)) (drop (k + 1) xs))
fields-cut xs k e =
    let h = position-Some is_space xs k 0 (sym e) in
    let l : k < length xs = h.0 in
    rw (take_all (length xs - (k + 1)) (drop (k + 1) xs) (simp length-drop (omega arith)), add-one)
    (fields-space xs k l h.1 h.2)

-- where nothing is found, no byte passes
none-cond : (b : Bool) (w : ℕ) → None ≡ cond b (Some w) None → b ≡ false
none-cond true w e = absurd (none-some w e)
none-cond false w e = refl

pub position-none : (p : ℕ → Bool) (xs : List ℕ) → None ≡ position p xs → (i : ℕ) → i < length xs → p (get_or xs i 0) ≡ false
position-none p xs e i h =
    let l : length xs ≤ position_or_len p xs = ltb-false _ _ (none-cond _ _ e) in
    fails_before_first p xs i 0 (omega arith)

-- a loop finds the first byte b, or none
module _ (xs : List ℕ) (b : ℕ) where
  pub found : (i : ℕ) → i < length xs → ((k : ℕ) → k < i → get_or xs k 0 ≡ b → ⊥) → get_or xs i 0 ≡ b → Some i ≡ position (λ x. nat_eq x b) xs
  found i l f e = rw (position_or_len_is (λ x. nat_eq x b) xs i 0 (omega arith) (λ k h. ne_eqb _ _ (f k h)) (λ _. eq-eqb _ _ e), lt-ltb i (length xs) l) refl

  pub found-none : ((k : ℕ) → k < length xs → get_or xs k 0 ≡ b → ⊥) → None ≡ position (λ x. nat_eq x b) xs
  found-none f = rw (position_or_len_is (λ x. nat_eq x b) xs (length xs) 0 (omega arith) (λ k h. ne_eqb _ _ (f k h)) (λ q. absurd (omega arith)), le-ltb (length xs) (length xs) (omega arith)) refl

-- where no space is found, the line is one field
pub fields-one : (xs : List ℕ) → None ≡ position is_space xs → fields xs ≡ xs ∷ []
fields-one xs e = fields-none xs (position-none is_space xs e)

all-suc : (p : ℕ → Bool) (i : ℕ) → all p (suc i) ≡ both (all p i) (p i)
unfolding all
all-suc p i = refl

-- digit by digit
spells-suc : (base : ℕ) (f : List ℕ) (i : ℕ) → spells base f (suc i) ≡ spells base f i * base + digit_of (get_or f i 0)
unfolding spells
spells-suc base f i = refl

pub spells-more : (base : ℕ) (f : List ℕ) (i : ℕ) → spells base f (i + 1) ≡ spells base f i * base + digit_of (get_or f i 0)
spells-more base f i = rw add-one (spells-suc base f i)

pub spells-none : (base : ℕ) (f : List ℕ) → spells base f 0 ≡ 0
unfolding spells
spells-none base f = refl

-- the byte at i is a digit in the base
abbrev pub digit_at : ℕ → List ℕ → ℕ → Bool
digit_at base f i = ltb (digit_of (get_or f i 0)) base

grows : (base i v d : ℕ) → v < base ^ i → d < base → v * base + d < base ^ suc i
grows base i v d h g =
    let m : base * suc v ≤ base * base ^ i = mul-le-mul_left base h in
    rw (pow-succ' base i) (omega (arith, m))

-- i digits are below the base to the i
pub spells-lt : (base : ℕ) (f : List ℕ) (i : ℕ) → all (digit_at base f) i ≡ true → spells base f i < base ^ i
spells-lt base f zero a = rw (spells-none, pow-zero base) (omega arith)
spells-lt base f (suc i) a =
    let b : both (all (digit_at base f) i) (digit_at base f i) ≡ true = sym (all-suc (digit_at base f) i) ∙ a in
    let h : spells base f i < base ^ i = spells-lt base f i (both_left _ _ b) in
    let d : digit_of (get_or f i 0) < base = ltb-true _ _ (both_right (all (digit_at base f) i) _ b) in
    rw spells-suc (grows base i _ _ h d)

-- a turn: i digits spell v, and the byte at i has the value d
module _ (base : ℕ) (f : List ℕ) (i v d : ℕ) (e : v ≡ spells base f i) (g : d ≡ digit_of (get_or f i 0)) where
  pub one_more : v * base + d ≡ spells base f (i + 1)
  one_more = rw (spells-more, e, g)

  pub all_digits : all (digit_at base f) i ≡ true → d < base → all (digit_at base f) (i + 1) ≡ true
  all_digits a l = all_more (digit_at base f) i a (lt-ltb _ _ (rw g at l))

  -- it fits where `most` digits do
  pub has_room : (most top : ℕ) → 0 < base → base ^ most ≤ top → i < most → all (digit_at base f) i ≡ true → d < base → v * base + d < top
  has_room most top z h l a q =
      let b : i + 1 ≤ most = omega arith in
      let p : base ^ (i + 1) ≤ base ^ most = pow-le-pow_right {n = base} z {i = i + 1} {j = most} b in
      let r : spells base f (i + 1) < base ^ (i + 1) = spells-lt base f (i + 1) (all_digits a q) in
      omega (arith, one_more)

module _ (base least most : ℕ) (f : List ℕ) where
  pub short : length f < least → is_numeral base least most f ≡ false
  unfolding is_numeral
  short h = both-false-left _ _ (both-false-left _ _ (lt-leb _ _ h))

  pub long : most < length f → is_numeral base least most f ≡ false
  unfolding is_numeral
  long h = both-false-left _ _ (both-false-right _ _ (lt-leb _ _ h))

  pub strange : (i : ℕ) → i < length f → base ≤ digit_of (get_or f i 0) → is_numeral base least most f ≡ false
  unfolding is_numeral
  strange i l h = both-false-right _ _ (all-fails (digit_at base f) (length f) i l (le-ltb _ _ h))

  pub good : least ≤ length f → length f ≤ most → all (digit_at base f) (length f) ≡ true → is_numeral base least most f ≡ true
  unfolding is_numeral
  good l h a = both_true _ _ (both_true _ _ (le-leb _ _ l) (le-leb _ _ h)) a

  pub no_number : is_numeral base least most f ≡ false → None ≡ numeral base least most f
  unfolding numeral
  no_number e = rw e

  pub a-number : (v : ℕ) → is_numeral base least most f ≡ true → v ≡ spells base f (length f) → Some v ≡ numeral base least most f
  unfolding numeral
  a-number v e g = rw (e, g)

-- what an option says that is picked by a test
picked-none : {A : Type 0} (b : Bool) (w : A) → None ≡ pick b (Some w) None → b ≡ false
picked-none true w e = absurd (none-some w e)
picked-none false w e = refl

picked-some : {A : Type 0} (b : Bool) (v w : A) → Some v ≡ pick b (Some w) None → (b ≡ true) × (v ≡ w)
picked-some true v w e = (refl, same_Some v w e)
picked-some false v w e = absurd (none-some v (sym e))

-- a field that is no number, or no order, and one that is
module _ (base least most : ℕ) (f : List ℕ) where
  no_numeral : None ≡ numeral base least most f → is_numeral base least most f ≡ false
  unfolding numeral
  no_numeral e = picked-none _ _ e

  a_numeral : (v : ℕ) → Some v ≡ numeral base least most f → (is_numeral base least most f ≡ true) × (v ≡ spells base f (length f))
  unfolding numeral
  a_numeral v e = picked-some _ _ _ e

module _ (f : List ℕ) where
  pub no_decimal : None ≡ decimal f → is_decimal f ≡ false
  no_decimal = no_numeral 10 1 9 f

  pub a_decimal : (v : ℕ) → Some v ≡ decimal f → (is_decimal f ≡ true) × (v ≡ decimal_of f)
  a_decimal = a_numeral 10 1 9 f

  pub no-hex : None ≡ hex f → is_hex f ≡ false
  no-hex = no_numeral 16 8 8 f

  pub a-hex : (v : ℕ) → Some v ≡ hex f → (is_hex f ≡ true) × (v ≡ hex_of f)
  a-hex = a_numeral 16 8 8 f

  pub no_order : None ≡ order f → is_order f ≡ false
  unfolding order
  no_order e = picked-none _ _ e

  pub an_order : (b : Bool) → Some b ≡ order f → (is_order f ≡ true) × (b ≡ is_letter f 98)
  unfolding order
  an_order b e = picked-some _ _ _ e

-- a letter
pub letter : (f : List ℕ) (c : ℕ) → length f ≡ 1 → get_or f 0 0 ≡ c → is_letter f c ≡ true
unfolding is_letter
letter f c l e = both_true _ _ (eq-eqb _ _ l) (eq-eqb _ _ e)

pub no_letter : (f : List ℕ) (c : ℕ) → (length f ≡ 1 → get_or f 0 0 ≡ c → ⊥) → is_letter f c ≡ false
unfolding is_letter
no_letter f c n = never_true (λ t. n (eqb-true _ _ (both_left _ _ t)) (eqb-true _ _ (both_right (eqb (length f) 1) _ t)))

-- a letter as a text
list-letter : (f : List ℕ) (c : ℕ) → f ≡ c ∷ [] → is_letter f c ≡ true
list-letter f c e = letter f c (rw e) (rw e)

letter-list : (f : List ℕ) (c : ℕ) → length f ≡ 1 → get_or f 0 0 ≡ c → f ≡ c ∷ []
letter-list [] c l e = absurd (omega arith)
letter-list (x ∷ []) c l e = rw e
letter-list (x ∷ y ∷ f) c l e = absurd (omega arith)

pub letter-text : (f : List ℕ) (c : ℕ) → pointwise nat_eq f (c ∷ []) ≡ is_letter f c
letter-text f c = ⊎_elim
    (λ (t : pointwise nat_eq f (c ∷ []) ≡ true). t ∙ sym (list-letter f c (same_text f (c ∷ []) (sym t))))
    (λ (t : pointwise nat_eq f (c ∷ []) ≡ false). t ∙ sym (no_letter f c (λ l e. other_text f (c ∷ []) (sym t) (letter-list f c l e))))
    (true-or-false (pointwise nat_eq f (c ∷ [])))

-- an order by its letter
module _ (f : List ℕ) where
  pub order-top : length f ≡ 1 → get_or f 0 0 ≡ 116 → Some false ≡ order f
  unfolding order is_order either
  order-top l e = rw (letter f 116 l e, no_letter f 98 (λ _ g. omega arith))

  pub order-bottom : length f ≡ 1 → get_or f 0 0 ≡ 98 → Some true ≡ order f
  unfolding order is_order either
  order-bottom l e = rw (no_letter f 116 (λ _ g. omega arith), letter f 98 l e)

  pub order-none : (length f ≡ 1 → get_or f 0 0 ≡ 116 → ⊥) → (length f ≡ 1 → get_or f 0 0 ≡ 98 → ⊥) → None ≡ order f
  unfolding order is_order either
  order-none n m = rw (no_letter f 116 n, no_letter f 98 m)
