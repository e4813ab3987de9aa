-- Laws of a line: bytes that are alike, a value, the digits of a number, and what a word that stands at a place says of the line's length.
use Rattle.std.proofs.Common.{◌↔◌, ℕ, zero, suc, ◌+◌, ◌*◌, min, ◌<◌, ◌≤◌, ◌≡◌, refl, sym, ap, ◌∙◌, Bool, true, false, Some, None, is_some, inl, inr, ◌⊎◌, List, length, get_or, take, drop, add-one, arith}
use Rattle.std.specs.Bool.{Decides, then_some}
use Rattle.std.specs.Str.{bytes_eq}
use Rattle.std.proofs.lemmas.List.{get_or-take, get_or-drop, length-take, length-drop, take_all, ext_get_or, get_or_default}
use Rattle.std.specs.List.{AllPass}
use Rattle.std.proofs.lemmas.Bool.Decides.{Decides-eqb, nat_tests}
use Rattle.std.proofs.lemmas.Slice.Eq.{slice_eq-Decides}
use borrow.Author.Tests.{le-leb, lt-leb, leb-true, eq-eqb, ne_eqb, eqb-true}
use lib.Dec.{eqb, leb}
use Rattle.laws.specs.Choice.{both}
use Rattle.laws.specs.Scan.{all}
use Rattle.laws.proofs.Choice.{both-false-right, both_left, both_right, same_truth, true-or-false}
use Rattle.laws.proofs.Scan.{all-fails, all-at, all-is}
use Rattle.output.specs.Line.{alike_at, has_at, after_at, hex_of, value_at, digit_at, counted, digits_from, closes_at, closing_at}

module _ (a : List ℕ) (i : ℕ) (b : List ℕ) (j n : ℕ) where
  pub alike_short : length a < i + n → alike_at a i b j n ≡ false
  unfolding alike_at both
  alike_short h = rw (lt-leb (i + n) (length a) h)

  pub alike_short_other : length b < j + n → alike_at a i b j n ≡ false
  unfolding alike_at both
  alike_short_other h = rw (lt-leb (j + n) (length b) h, both-false-right (leb (i + n) (length a)) false refl)

  pub alike-miss : (k : ℕ) → k < n → (get_or a (i + k) 0 ≡ get_or b (j + k) 0 → ⊥) → false ≡ alike_at a i b j n
  unfolding alike_at both
  alike-miss k h e =
      let m : all (λ k. eqb (get_or a (i + k) 0) (get_or b (j + k) 0)) n ≡ false = all-fails (λ k. eqb (get_or a (i + k) 0) (get_or b (j + k) 0)) n k h (ne_eqb _ _ e) in
      rw (m, both-false-right (both (leb (i + n) (length a)) (leb (j + n) (length b))) false refl)

  pub alike_all :
      i + n ≤ length a → j + n ≤ length b → all (λ k. eqb (get_or a (i + k) 0) (get_or b (j + k) 0)) n ≡ true → true ≡ alike_at a i b j n
  unfolding alike_at both
  alike_all f g h = rw (le-leb (i + n) (length a) f, le-leb (j + n) (length b) g, h)

  pub alike-fits : alike_at a i b j n ≡ true → i + n ≤ length a
  unfolding alike_at
  alike-fits h = leb-true (i + n) (length a) (both_left (leb (i + n) (length a)) (leb (j + n) (length b)) (both_left (both (leb (i + n) (length a)) (leb (j + n) (length b))) (all (λ k. eqb (get_or a (i + k) 0) (get_or b (j + k) 0)) n) h))

  pub alike-same : alike_at a i b j n ≡ true → (k : ℕ) → k < n → get_or a (i + k) 0 ≡ get_or b (j + k) 0
  unfolding alike_at
  alike-same h k l =
      eqb-true _ _ (all-at (λ k. eqb (get_or a (i + k) 0) (get_or b (j + k) 0)) n (both_right (both (leb (i + n) (length a)) (leb (j + n) (length b))) _ h) k l)

-- n bytes from a place on
part-get : (a : List ℕ) (i n k : ℕ) → k < n → get_or (take n (drop i a)) k 0 ≡ get_or a (i + k) 0
part-get a i n k h = get_or-take n (drop i a) k 0 h ∙ get_or-drop i a k 0

part-length : (a : List ℕ) (i n : ℕ) → i + n ≤ length a → length (take n (drop i a)) ≡ n
part-length a i n h = omega (arith, length-take n (drop i a), length-drop i a)

-- r is whether n bytes from i in a and from j in b are the same
alike-parts :
    (a : List ℕ) (i : ℕ) (b : List ℕ) (j n : ℕ) (r : Bool) →
    i + n ≤ length a →
    j + n ≤ length b →
    r ≡ bytes_eq (take n (drop i a)) (take n (drop j b)) →
    r ≡ alike_at a i b j n
alike-parts a i b j n r f g e =
    let d : Decides r (take n (drop i a) ≡ take n (drop j b)) = slice_eq-Decides Decides-eqb _ _ r e in
    same_truth r (alike_at a i b j n)
    (λ (h : r ≡ true).
    sym (alike_all a i b j n f g
    (all-is (λ k. eqb (get_or a (i + k) 0) (get_or b (j + k) 0)) n
    (λ k l. eq-eqb _ _ (sym (part-get a i n k l) ∙ ap (λ (x : List ℕ). get_or x k 0) (d.0 h) ∙ part-get b j n k l)))))
    (λ (h : alike_at a i b j n ≡ true).
    d.1 (ext_get_or 0 _ _ (part-length a i n f ∙ sym (part-length b j n g))
    (λ k l.
    let m : k < n = omega (arith, part-length a i n f) in
    part-get a i n k m ∙ alike-same a i b j n h k m ∙ sym (part-get b j n k m))))

pub alike_cut : (a : List ℕ) (i : ℕ) (b : List ℕ) (j n : ℕ) → i + n ≤ length a → j + n ≤ length b → alike_at a i b j n ≡ bytes_eq (take n (drop i a)) (take n (drop j b))
alike_cut a i b j n f g = sym (alike-parts a i b j n _ f g refl)

-- two parts compared
pub ruleset cuts = (alike_cut, alike_short, alike_short_other)

-- r is whether the bytes at a place are those of the word w
word-part :
    (s : List ℕ) (at : ℕ) (w : List ℕ) (r : Bool) →
    at + length w ≤ length s →
    r ≡ bytes_eq (take (length w) (drop at s)) w →
    r ≡ has_at s at w
unfolding has_at
word-part s at w r f e =
    let z : take (length w) (drop 0 w) ≡ w = take_all (length w) w (omega arith) in
    alike-parts s at w 0 (length w) r f (omega arith) (rw z e)

has-short : (s : List ℕ) (at : ℕ) (w : List ℕ) → length s < at + length w → has_at s at w ≡ false
unfolding has_at
has-short s at w h = alike_short s at w 0 (length w) h

pub after_short : (s : List ℕ) (at : ℕ) (w : List ℕ) → length s < at + length w → after_at s at w ≡ None
unfolding after_at
after_short s at w h = rw (has-short s at w h)

after-is : (s : List ℕ) (at : ℕ) (w : List ℕ) (r : Bool) → r ≡ has_at s at w → then_some r (at + length w) ≡ after_at s at w
unfolding after_at
after-is s at w true e = rw (← e)
after-is s at w false e = rw (← e)

pub after_word : (s : List ℕ) (at : ℕ) (w : List ℕ) → at + length w ≤ length s → after_at s at w ≡ then_some (bytes_eq (take (length w) (drop at s)) w) (at + length w)
after_word s at w f = sym (after-is s at w _ (word-part s at w _ f refl))

-- a word compared
pub ruleset words = (after_word, after_short)

pub has-fits : (s : List ℕ) (at : ℕ) (w : List ℕ) → has_at s at w ≡ true → at + length w ≤ length s
unfolding has_at
has-fits s at w h = alike-fits s at w 0 (length w) h

module _ (s : List ℕ) (at : ℕ) where
  pub value-short : length s < at + 8 → false ≡ value_at s at
  unfolding value_at both
  value-short h = rw (lt-leb (at + 8) (length s) h)

  value-digit : value_at s at ≡ true → (k : ℕ) → k < 8 → hex_of (get_or s (at + k) 0) ≡ true
  unfolding value_at
  value-digit h = all-at (λ k. hex_of (get_or s (at + k) 0)) 8 (both_right (leb (at + 8) (length s)) _ h)

  pub value-all : at + 8 ≤ length s → all (λ k. hex_of (get_or s (at + k) 0)) 8 ≡ true → true ≡ value_at s at
  unfolding value_at both
  value-all f h = rw (le-leb (at + 8) (length s) f, h)

  -- r is whether each of 8 bytes from the place on is a hex digit
  pub value-parts : (r : Bool) → at + 8 ≤ length s → (r ≡ true ↔ AllPass hex_of (take 8 (drop at s))) → r ≡ value_at s at
  value-parts r f e =
      same_truth r (value_at s at)
      (λ (h : r ≡ true).
      sym (value-all f
      (all-is (λ k. hex_of (get_or s (at + k) 0)) 8
      (λ k l. ap hex_of (sym (part-get s at 8 k l)) ∙ e.0 h k 0 (omega (arith, part-length s at 8 f))))))
      (λ (h : value_at s at ≡ true).
      e.1
      (λ k d l.
      let m : k < 8 = omega (arith, part-length s at 8 f) in
      ap hex_of (get_or_default (take 8 (drop at s)) k d 0 l ∙ part-get s at 8 k m) ∙ value-digit h k m))

-- r is what the digit at the place was found to be
module _ (s : List ℕ) (at r : ℕ) (e : r ≡ digit_at s at) where
  pub digits-stop : (f v : ℕ) → r ≡ 10 → counted v at ≡ digits_from f s at v
  unfolding digits_from
  digits-stop zero v h = refl
  digits-stop (suc f) v h = rw (← e, h)

  pub digits-go :
      (f g v : ℕ) → f ≡ g + 1 → (r ≡ 10 → ⊥) → digits_from g s (at + 1) (min (v * 10 + r) 65536) ≡ digits_from f s at v
  unfolding digits_from
  digits-go f g v q h = rw (q, add-one g, ← e, ne_eqb r 10 h)

pub digits-end : (s : List ℕ) (at f v : ℕ) → f ≡ 0 → counted v at ≡ digits_from f s at v
unfolding digits_from
digits-end s at f v h = rw h

-- what stands at a place, where a word does, and where it doesn't
pub after_tells :
    (s : List ℕ) (at : ℕ) (w : List ℕ) →
    ((after_at s at w ≡ Some (at + length w)) × (has_at s at w ≡ true) × (at + length w ≤ length s)) ⊎ ((after_at s at w ≡ None) × (has_at s at w ≡ false))
unfolding after_at
after_tells s at w =
    elim (true-or-false (has_at s at w)) [ inl h ↦ inl (rw h, h, has-fits s at w h) | inr h ↦ inr (rw h, h) ]

-- the number with which a line closes, where it does, and where it doesn't
pub closing_tells :
    (s : List ℕ) (at : ℕ) (w : List ℕ) → ((is_some (closing_at s at w) ≡ true) × (closes_at s at w ≡ true)) ⊎ ((is_some (closing_at s at w) ≡ false) × (closes_at s at w ≡ false))
unfolding closing_at
closing_tells s at w =
    elim (true-or-false (closes_at s at w)) [ inl h ↦ inl (rw h, h) | inr h ↦ inr (rw h, h) ]

-- what a test says, and a word that was looked for
pub ruleset tests = (nat_tests, after_tells)
