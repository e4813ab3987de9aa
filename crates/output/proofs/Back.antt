-- Every line that replay can print is read back as what it is: its first byte tells the answer apart, its words stand where they were put,
-- and a number in decimal is read digit by digit, the capped value of those passed at each turn.
use mathlib.Core.Path.{◌≡◌, refl, ap, sym, ◌∙◌}
use mathlib.Core.Bool.{true, false}
use mathlib.Core.List.{List, [], ◌∷◌, ◌++◌, append_assoc, append-nil}
use mathlib.Core.Logic.{⊎_elim}
use Prim.Native.Nat.{ℕ, zero, suc, ◌+◌, ◌-◌, ◌*◌, ◌/◌, ◌%◌, ◌^◌, ◌<◌, ◌≤◌, min}
use native.Mathlib.Nat.{pow-succ', div-eq_of_lt, le-div_iff_mul-le, div-lt_iff_lt-mul}
use native.Mathlib.Omega.{arith}
use borrow.Author.Tests.{lt-ltb, le-ltb, le-leb, lt-leb, eq-eqb, ne_eqb}
use lib.Dec.{eqb, ltb}
use lib.ListN.{length, get_or, length-append, get_or-append}
use lib.Seq.{get_or-append-add}
use Rattle.laws.specs.Choice.{both, either}
use Rattle.laws.proofs.Choice.{both_true, both-false-left, both-false-right}
use Rattle.laws.proofs.Splice.{lt-or-ge}
use Rattle.laws.proofs.Scan.{all-is}
use Rattle.tracker.specs.Answer.{Said, ok, wait, moved, read, done, same, no}
use Rattle.tracker.specs.declared.Transfers.{Transfers as Sums}
use Rattle.wording.specs.Words.{space, ok_word, wait_word, moved_word, no_word, turns_word, done_word, same_word, read_word, in_word, out_word}
use Rattle.wording.specs.Text.{digit_text, digits, places, decimal, hex, turns, said_text, Narrow, transfers_text, gains, Few, answer_line}
use Rattle.wording.proofs.Numbers.{pow_pos, rest_more, length_digits, length-decimal, places-high, places-low, places-some}
use Rattle.output.specs.Line.{has_at, ends_at, digit_of, digit_at, counted, digits_from, number_at, last_of, hex_of, value_at, closes_at, plain_at, reads_at, count_at, number_is, out_of, transfers_at, rest_at, ending_with, ending_of, answer_at, after_number, line_of, ending_at, line_for}
use Rattle.output.specs.declared.Line.TheVariants.{Plain}
use Rattle.output.proofs.Lines.{alike_all, alike-miss, digits-stop, digits-go}
use Rattle.std.specs.Prelude.{Some}

-- ## Words

-- what stands at a place of a line put together
piece-at : (s p q : List ℕ) (at k : ℕ) → s ≡ p ++ q → length p ≡ at → get_or s (at + k) 0 ≡ get_or q k 0
piece-at s p q at k e l = rw (e, ← l) (get_or-append-add p q k 0)

length-is : (s p q : List ℕ) (at : ℕ) → s ≡ p ++ q → length p ≡ at → length s ≡ at + length q
length-is s p q at e l = omega (arith, ap length e, length-append p q)

word_at : (s p w t : List ℕ) (at : ℕ) → s ≡ p ++ (w ++ t) → length p ≡ at → has_at s at w ≡ true
unfolding has_at
word_at s p w t at e l =
    let n : length s ≡ at + (length w + length t) = omega (arith, length-is s p (w ++ t) at e l, length-append w t) in
    sym (alike_all s at w 0 (length w) (omega arith) (omega arith)
    (all-is (λ k. eqb (get_or s (at + k) 0) (get_or w (0 + k) 0)) (length w)
    (λ k h. let z : k ≡ 0 + k = omega arith in
    eq-eqb _ _ (piece-at s p (w ++ t) at k e l ∙ get_or-append w t 0 k h ∙ ap (λ (j : ℕ). get_or w j 0) z))))

-- another word, which begins with another byte
other_at : (s : List ℕ) (at : ℕ) (w : List ℕ) (b : ℕ) → get_or s at 0 ≡ b → 0 < length w → (b ≡ get_or w 0 0 → ⊥) → has_at s at w ≡ false
unfolding has_at
other_at s at w b e h n =
    let z : at + 0 ≡ at = omega arith in
    sym (alike-miss s at w 0 (length w) 0 h (λ q. n (sym e ∙ ap (λ (j : ℕ). get_or s j 0) (sym z) ∙ q)))

not-ends : (s : List ℕ) (at : ℕ) (w : List ℕ) → has_at s at w ≡ false → ends_at s at w ≡ false
unfolding ends_at
not-ends s at w h = both-false-left _ _ h

not-closes : (s : List ℕ) (at : ℕ) (w : List ℕ) → has_at s at w ≡ false → closes_at s at w ≡ false
unfolding closes_at
not-closes s at w h = both-false-left _ _ h

-- ## Numbers

digit-back : (d : ℕ) → d < 10 → digit_of (digit_text d) ≡ d
unfolding digit_of digit_text
digit-back d h =
    let z : d + 48 - 48 ≡ d = omega arith in
    rw (lt-ltb d 10 h, le-ltb (d + 48) 48 (omega arith), le-ltb 57 (d + 48) (omega arith), z)

digit-there : (s : List ℕ) (at d : ℕ) → at < length s → get_or s at 0 ≡ digit_text d → d < 10 → digit_at s at ≡ d
unfolding digit_at
digit-there s at d l e h = rw (lt-ltb at (length s) l, e) (digit-back d h)

digit-end : (s : List ℕ) (at : ℕ) → length s ≤ at → digit_at s at ≡ 10
unfolding digit_at
digit-end s at h = rw (le-ltb at (length s) h)

digit-space : (s : List ℕ) (at : ℕ) → at < length s → get_or s at 0 ≡ 32 → digit_at s at ≡ 10
unfolding digit_at digit_of
digit-space s at l e = rw (lt-ltb at (length s) l, e)

digits-cons : (i v : ℕ) → digits 10 (suc i) v ≡ digit_text (v / 10 ^ i % 10) ∷ digits 10 i v
unfolding digits
digits-cons i v = refl

-- one more digit, of values that stay at 65,536
capped-more : (y z d : ℕ) → y / 10 ≡ z → d ≡ y % 10 → min (min z 65536 * 10 + d) 65536 ≡ min y 65536
capped-more y z d e f = omega arith

below-10 : (y : ℕ) → y % 10 < 10
below-10 y = omega arith

-- j digits are left, and what is passed of v is capped
module _ (v : ℕ) (s t : List ℕ) where
  first-digit : (i at : ℕ) (p : List ℕ) → s ≡ p ++ (digits 10 (suc i) v ++ t) → length p ≡ at → digit_at s at ≡ v / 10 ^ i % 10
  first-digit i at p e l =
      let q : s ≡ p ++ (digit_text (v / 10 ^ i % 10) ∷ (digits 10 i v ++ t)) = e ∙ ap (λ (x : List ℕ). p ++ (x ++ t)) (digits-cons i v) in
      let z : at + 0 ≡ at = omega arith in
      let g : get_or s at 0 ≡ digit_text (v / 10 ^ i % 10) = rw z at (piece-at s p (digit_text (v / 10 ^ i % 10) ∷ (digits 10 i v ++ t)) at 0 q l) in
      digit-there s at (v / 10 ^ i % 10) (omega (arith, length-is s p _ at q l)) g (below-10 (v / 10 ^ i))

  digits-run : (j f at : ℕ) (p : List ℕ) → s ≡ p ++ (digits 10 j v ++ t) → length p ≡ at → j ≤ f → digit_at s (at + j) ≡ 10
      → digits_from f s at (min (v / 10 ^ j) 65536) ≡ counted (min v 65536) (at + j)
  digits-run zero f at p e l h n =
      let z : at + 0 ≡ at = omega arith in
      let o : v / 10 ^ 0 ≡ v = omega arith in
      rw (z, o) (sym (digits-stop s at (digit_at s at) refl f (min v 65536) (rw z at n)))
  digits-run (suc i) zero at p e l h n = absurd (omega arith)
  digits-run (suc i) (suc g) at p e l h n =
      let d : ℕ = v / 10 ^ i % 10 in
      let x : ℕ = min (v / 10 ^ suc i) 65536 in
      let q : s ≡ (p ++ (digit_text (v / 10 ^ i % 10) ∷ [])) ++ (digits 10 i v ++ t) =
      e ∙ ap (λ (y : List ℕ). p ++ (y ++ t)) (digits-cons i v) ∙ sym (append_assoc p (digit_text (v / 10 ^ i % 10) ∷ []) (digits 10 i v ++ t)) in
      let m : length (p ++ (digit_text (v / 10 ^ i % 10) ∷ [])) ≡ at + 1 = omega (arith, length-append p (digit_text (v / 10 ^ i % 10) ∷ [])) in
      let a : at + suc i ≡ at + 1 + i = omega arith in
      let c : min (min (v / 10 ^ suc i) 65536 * 10 + v / 10 ^ i % 10) 65536 ≡ min (v / 10 ^ i) 65536 =
      capped-more (v / 10 ^ i) (v / 10 ^ suc i) (v / 10 ^ i % 10) (rest_more 10 v i (v / 10 ^ i) refl) refl in
      sym (digits-go s at (v / 10 ^ i % 10) (sym (first-digit i at p e l)) (suc g) g (min (v / 10 ^ suc i) 65536) (omega arith) (λ r. below-not (v / 10 ^ i) r))
      ∙ rw (c, a) (digits-run i g (at + 1) (p ++ (digit_text (v / 10 ^ i % 10) ∷ [])) q m (omega arith) (rw a at n))
    where
      below-not : (y : ℕ) → y % 10 ≡ 10 → ⊥
      below-not y r = omega arith

-- the first of two or more digits is no zero
top_digit : (v i : ℕ) → 10 ^ suc i ≤ v → v < 10 ^ suc (suc i) → v / 10 ^ suc i % 10 ≡ 0 → ⊥
top_digit v i low high e =
    let z : 0 < 10 ^ suc i = pow_pos (suc i) in
    let a : 1 ≤ v / 10 ^ suc i = (le-div_iff_mul-le z).1 (omega arith) in
    let b : v / 10 ^ suc i < 10 = (div-lt_iff_lt-mul z).1 (omega (arith, pow-succ' 10 (suc i))) in
    no_zero (v / 10 ^ suc i) a b e
  where
    no_zero : (q : ℕ) → 1 ≤ q → q < 10 → q % 10 ≡ 0 → ⊥
    no_zero q a b e = omega arith

module _ (v : ℕ) (s p t : List ℕ) (at : ℕ) (l : length p ≡ at) where
  -- w digits, the first of them no zero before another
  digits-back : (w : ℕ) → s ≡ p ++ (digits 10 w v ++ t) → 0 < w → v < 10 ^ w → ((i : ℕ) → w ≡ suc (suc i) → 10 ^ suc i ≤ v) → digit_at s (at + w) ≡ 10
      → number_at s at ≡ Some (counted (min v 65536) (at + w))
  unfolding number_at
  digits-back zero e h high low n = absurd (omega arith)
  digits-back (suc i) e h high low n =
      let d : digit_at s at ≡ v / 10 ^ i % 10 = first-digit v s t i at p e l in
      let o : (v / 10 ^ suc i) ≡ 0 = div-eq_of_lt high in
      let m : length s ≡ at + (suc i + length t) = omega (arith, length-is s p (digits 10 (suc i) v ++ t) at e l, length-append (digits 10 (suc i) v) t, length_digits 10 (suc i) v) in
      let r : digits_from (length s - at) s at 0 ≡ counted (min v 65536) (at + suc i) =
      rw o at (digits-run v s t (suc i) (length s - at) at p e l (omega arith) n) in
      rw (d, ne_eqb (v / 10 ^ i % 10) 10 (ten (v / 10 ^ i)), front i e high low n, r) refl
    where
      ten : (y : ℕ) → y % 10 ≡ 10 → ⊥
      ten y q = omega arith

      front : (i : ℕ) → s ≡ p ++ (digits 10 (suc i) v ++ t) → v < 10 ^ suc i → ((j : ℕ) → suc i ≡ suc (suc j) → 10 ^ suc j ≤ v) → digit_at s (at + suc i) ≡ 10
          → both (eqb (v / 10 ^ i % 10) 0) (ltb (digit_at s (at + 1)) 10) ≡ false
      front zero e high low n = both-false-right _ _ (rw n refl)
      front (suc j) e high low n = both-false-left _ _ (ne_eqb _ 0 (top_digit v j (low j refl) high))

  pub number-back : s ≡ p ++ (decimal v ++ t) → digit_at s (at + places v) ≡ 10 → number_at s at ≡ Some (counted (min v 65536) (at + places v))
  unfolding decimal
  number-back e n = digits-back (places v) e (places-some v) (places-high v) (places-low v) n

-- a number with which the line ends
last-back : (v : ℕ) (s p : List ℕ) (at : ℕ) → length p ≡ at → s ≡ p ++ decimal v → number_at s at ≡ Some (counted (min v 65536) (at + places v))
last-back v s p at l e =
    let q : s ≡ p ++ (decimal v ++ []) = e ∙ ap (λ (x : List ℕ). p ++ x) (sym (append-nil (decimal v))) in
    number-back v s p [] at l q (digit-end s (at + places v) (omega (arith, length-is s p (decimal v) at e l, length-decimal v)))

-- a number with a space after it
space-back : (v : ℕ) (s p t : List ℕ) (at : ℕ) → length p ≡ at → s ≡ p ++ (decimal v ++ (32 ∷ t)) → number_at s at ≡ Some (counted (min v 65536) (at + places v))
space-back v s p t at l e =
    let q : s ≡ (p ++ decimal v) ++ (32 ∷ t) = e ∙ sym (append_assoc p (decimal v) (32 ∷ t)) in
    let m : length (p ++ decimal v) ≡ at + places v = omega (arith, length-append p (decimal v), length-decimal v) in
    let z : at + places v + 0 ≡ at + places v = omega arith in
    let g : get_or s (at + places v) 0 ≡ 32 = rw z at (piece-at s (p ++ decimal v) (32 ∷ t) (at + places v) 0 q m) in
    number-back v s p (32 ∷ t) at l e (digit-space s (at + places v) (omega (arith, length-is s (p ++ decimal v) (32 ∷ t) (at + places v) q m)) g)

-- ## The transfers

-- I and O behind their words, from `at` on
module _ (s p : List ℕ) (at i o : ℕ) (l : length p ≡ at) (e : s ≡ p ++ (in_word ++ (decimal i ++ (out_word ++ decimal o)))) (bi : i < 256) (bo : o < 256) where
  to_out : s ≡ ((p ++ in_word) ++ decimal i) ++ (out_word ++ decimal o)
  to_out = e ∙ sym (append_assoc p in_word (decimal i ++ (out_word ++ decimal o))) ∙ sym (append_assoc (p ++ in_word) (decimal i) (out_word ++ decimal o))

  past-in : length (p ++ in_word) ≡ at + 4
  past-in = omega (arith, length-append p in_word)

  past-fetched : length ((p ++ in_word) ++ decimal i) ≡ at + 4 + places i
  past-fetched = omega (arith, past-in, length-append (p ++ in_word) (decimal i), length-decimal i)

  past-out : length (((p ++ in_word) ++ decimal i) ++ out_word) ≡ at + 4 + places i + 5
  past-out = omega (arith, past-fetched, length-append ((p ++ in_word) ++ decimal i) out_word)

  fetched-back : number_at s (at + 4) ≡ Some (counted i (at + 4 + places i))
  fetched-back =
      let q : min i 65536 ≡ i = omega arith in
      rw q at (space-back i s (p ++ in_word) _ (at + 4) past-in (e ∙ sym (append_assoc p in_word (decimal i ++ (out_word ++ decimal o)))))

  back-back : number_at s (at + 4 + places i + 5) ≡ Some (counted o (at + 4 + places i + 5 + places o))
  back-back =
      let q : min o 65536 ≡ o = omega arith in
      rw q at (last-back o s (((p ++ in_word) ++ decimal i) ++ out_word) (at + 4 + places i + 5) past-out (to_out ∙ sym (append_assoc ((p ++ in_word) ++ decimal i) out_word (decimal o))))

  closes-back : closes_at s (at + 4 + places i) out_word ≡ true
  unfolding closes_at last_of
  closes-back =
      let n : at + 4 + places i + 5 + places o ≡ length s = omega (arith, length-is s ((p ++ in_word) ++ decimal i) (out_word ++ decimal o) (at + 4 + places i) to_out past-fetched, length-decimal o) in
      both_true _ _ (word_at s ((p ++ in_word) ++ decimal i) out_word (decimal o) (at + 4 + places i) to_out past-fetched)
      (rw back-back (both_true _ _ (lt-ltb o 65536 (omega arith)) (eq-eqb (at + 4 + places i + 5 + places o) (length s) n)))

  out-back : out_of s (Some (counted i (at + 4 + places i))) ≡ Some (record { fetched = i; back = o })
  unfolding out_of number_is both
  out-back = rw (lt-ltb i 65536 (omega arith), closes-back, back-back) refl

  rest_back : rest_at s at ≡ Some (Some (record { fetched = i; back = o }))
  unfolding rest_at transfers_at
  rest_back =
      let n : (at ≡ length s) → ⊥ = λ q. omega (arith, length-is s p (in_word ++ (decimal i ++ (out_word ++ decimal o))) at e l) in
      rw (ne_eqb at (length s) n, word_at s p in_word (decimal i ++ (out_word ++ decimal o)) at e l, fetched-back, out-back) refl

-- ## A value

hex-back : (d : ℕ) → d < 16 → hex_of (digit_text d) ≡ true
unfolding hex_of digit_text both either
hex-back d h =
    ⊎_elim (λ (l : d < 10). rw (lt-ltb d 10 l, le-leb 48 (d + 48) (omega arith), le-leb (d + 48) 57 (omega arith)) refl)
    (λ (l : 10 ≤ d). rw (le-ltb d 10 l, le-leb 48 (d + 87) (omega arith), lt-leb (d + 87) 57 (omega arith), le-leb 97 (d + 87) (omega arith), le-leb (d + 87) 102 (omega arith)) refl)
    (lt-or-ge d 10)

hex-digit : (w v k : ℕ) → k < w → hex_of (get_or (digits 16 w v) k 0) ≡ true
unfolding digits
hex-digit zero v k h = absurd (omega arith)
hex-digit (suc w) v zero h = hex-back (v / 16 ^ w % 16) (below (v / 16 ^ w))
  where
    below : (y : ℕ) → y % 16 < 16
    below y = omega arith
hex-digit (suc w) v (suc k) h = hex-digit w v k (omega arith)

length-hex : (v : ℕ) → length (hex v) ≡ 8
unfolding hex
length-hex v = length_digits 16 8 v

value-back : (v : ℕ) (s p t : List ℕ) (at : ℕ) → length p ≡ at → s ≡ p ++ (hex v ++ t) → value_at s at ≡ true
unfolding value_at hex
value-back v s p t at l e =
    let n : length (digits 16 8 v) ≡ 8 = length_digits 16 8 v in
    let m : length s ≡ at + (8 + length t) = omega (arith, length-is s p (digits 16 8 v ++ t) at e l, length-append (digits 16 8 v) t) in
    both_true _ _ (le-leb (at + 8) (length s) (omega arith))
    (all-is (λ k. hex_of (get_or s (at + k) 0)) 8
    (λ k h. ap hex_of (piece-at s p (digits 16 8 v ++ t) at k e l ∙ get_or-append (digits 16 8 v) t 0 k (omega arith)) ∙ hex-digit 8 v k h))

-- ## A line

-- whatever is said, it is read from behind the line number and its space
module _ (n : ℕ) (said : Said) (t : Sums) where
  line-parts : answer_line n said t ≡ decimal n ++ (space ++ (said_text said ++ gains said t))
  unfolding answer_line
  line-parts = refl

  line-number : number_at (answer_line n said t) 0 ≡ Some (counted (min n 65536) (places n))
  line-number =
      let c : 0 + places n ≡ places n = omega arith in
      rw c at (space-back n (answer_line n said t) [] (said_text said ++ gains said t) 0 refl line-parts)

  line-answer : line_of (answer_line n said t) ≡ answer_at (answer_line n said t) (places n + 1)
  unfolding line_of after_number
  line-answer =
      let h : has_at (answer_line n said t) (places n) space ≡ true = word_at (answer_line n said t) (decimal n) space (said_text said ++ gains said t) (places n) line-parts (length-decimal n) in
      rw (line-number, h) refl

-- what is said stands from `at` on, behind the bytes f
module _ (s f : List ℕ) (at : ℕ) (l : length f ≡ at) where
  byte_at : (q : List ℕ) → s ≡ f ++ q → get_or s at 0 ≡ get_or q 0 0
  byte_at q e = let z : at + 0 ≡ at = omega arith in rw z at (piece-at s f q at 0 e l)

  ends-back : (w : List ℕ) → s ≡ f ++ w → ends_at s at w ≡ true
  unfolding ends_at
  ends-back w e =
      let q : s ≡ f ++ (w ++ []) = e ∙ ap (λ (x : List ℕ). f ++ x) (sym (append-nil w)) in
      both_true _ _ (word_at s f w [] at q l) (eq-eqb (at + length w) (length s) (sym (length-is s f w at e l)))

  -- `ok`, `wait`, `moved`, `no C`
  answer-plain : plain_at s at ≡ true → answer_at s at ≡ Some Plain
  unfolding answer_at
  answer-plain h = rw h refl

  ok-back : s ≡ f ++ ok_word → plain_at s at ≡ true
  unfolding plain_at either
  ok-back e = rw (ends-back ok_word e) refl

  wait-back : s ≡ f ++ wait_word → plain_at s at ≡ true
  unfolding plain_at either
  wait-back e =
      let b : get_or s at 0 ≡ 119 = byte_at wait_word e in
      rw (not-ends s at ok_word (other_at s at ok_word 119 b (omega arith) (λ (q : 119 ≡ 111). omega arith)), ends-back wait_word e) refl

  moved_back : s ≡ f ++ moved_word → plain_at s at ≡ true
  unfolding plain_at either
  moved_back e =
      let b : get_or s at 0 ≡ 109 = byte_at moved_word e in
      rw (not-ends s at ok_word (other_at s at ok_word 109 b (omega arith) (λ (q : 109 ≡ 111). omega arith)), not-ends s at wait_word (other_at s at wait_word 109 b (omega arith) (λ (q : 109 ≡ 119). omega arith)), ends-back moved_word e) refl

  no-back : (c : ℕ) → s ≡ f ++ (no_word ++ decimal c) → c < 65536 → plain_at s at ≡ true
  unfolding plain_at either closes_at last_of
  no-back c e h =
      let b : get_or s at 0 ≡ 110 = byte_at (no_word ++ decimal c) e in
      let q : s ≡ (f ++ no_word) ++ decimal c = e ∙ sym (append_assoc f no_word (decimal c)) in
      let m : length (f ++ no_word) ≡ at + 3 = omega (arith, length-append f no_word) in
      let i : min c 65536 ≡ c = omega arith in
      let r : number_at s (at + 3) ≡ Some (counted c (at + 3 + places c)) = rw i at (last-back c s (f ++ no_word) (at + 3) m q) in
      let n : at + 3 + places c ≡ length s = omega (arith, length-is s (f ++ no_word) (decimal c) (at + 3) q m, length-decimal c) in
      rw (not-ends s at ok_word (other_at s at ok_word 110 b (omega arith) (λ (q : 110 ≡ 111). omega arith)), not-ends s at wait_word (other_at s at wait_word 110 b (omega arith) (λ (q : 110 ≡ 119). omega arith)), not-ends s at moved_word (other_at s at moved_word 110 b (omega arith) (λ (q : 110 ≡ 109). omega arith)))
      (both_true _ _ (word_at s f no_word (decimal c) at e l) (rw r (both_true _ _ (lt-ltb c 65536 h) (eq-eqb (at + 3 + places c) (length s) n))))

  -- an ending: none of those, and its count with the transfers after it
  not_plain : (b : ℕ) → get_or s at 0 ≡ b → (b ≡ 111 → ⊥) → (b ≡ 119 → ⊥) → (b ≡ 109 → ⊥) → (b ≡ 110 → ⊥) → plain_at s at ≡ false
  unfolding plain_at either
  not_plain b e o w m n =
      rw (not-ends s at ok_word (other_at s at ok_word b e (omega arith) o), not-ends s at wait_word (other_at s at wait_word b e (omega arith) w), not-ends s at moved_word (other_at s at moved_word b e (omega arith) m), not-closes s at no_word (other_at s at no_word b e (omega arith) n)) refl

  ending-back : (c k : ℕ) (t : Sums) (p : List ℕ) → plain_at s at ≡ false → count_at s at ≡ c → 0 < c → length p ≡ c → s ≡ p ++ (decimal k ++ transfers_text t) → k < 65536 → Few t
      → answer_at s at ≡ Some (ending_at c k t)
  unfolding answer_at ending_of ending_with transfers_text
  ending-back c k t p h d z m e b w =
      let i : min k 65536 ≡ k = omega arith in
      let r : number_at s c ≡ Some (counted k (c + places k)) = rw i at (space-back k s p _ c m e) in
      let n : length (p ++ decimal k) ≡ c + places k = omega (arith, length-append p (decimal k), length-decimal k) in
      let q : rest_at s (c + places k) ≡ Some (Some (record { fetched = t.fetched; back = t.back })) =
      rest_back s (p ++ decimal k) (c + places k) t.fetched t.back n (e ∙ sym (append_assoc p (decimal k) (transfers_text t))) w.0 w.1 in
      rw (h, d, ne_eqb c 0 (λ (q : c ≡ 0). omega arith), r, lt-ltb k 65536 b, q) refl

  done-count : has_at s at (done_word ++ turns_word) ≡ true → count_at s at ≡ at + 11
  unfolding count_at either
  done-count h = rw h refl

  done-back : (k : ℕ) (t : Sums) → s ≡ f ++ ((done_word ++ turns_word) ++ (decimal k ++ transfers_text t)) → k < 65536 → Few t → answer_at s at ≡ Some (ending_at (at + 11) k t)
  done-back k t e b w =
      let g : get_or s at 0 ≡ 100 = byte_at ((done_word ++ turns_word) ++ (decimal k ++ transfers_text t)) e in
      let h : has_at s at (done_word ++ turns_word) ≡ true = word_at s f (done_word ++ turns_word) (decimal k ++ transfers_text t) at e l in
      let m : length (f ++ (done_word ++ turns_word)) ≡ at + 11 = omega (arith, length-append f (done_word ++ turns_word)) in
      ending-back (at + 11) k t (f ++ (done_word ++ turns_word))
      (not_plain 100 g (λ (q : 100 ≡ 111). omega arith) (λ (q : 100 ≡ 119). omega arith) (λ (q : 100 ≡ 109). omega arith) (λ (q : 100 ≡ 110). omega arith))
      (done-count h) (omega arith) m (e ∙ sym (append_assoc f (done_word ++ turns_word) (decimal k ++ transfers_text t))) b w

  same_count : has_at s at (done_word ++ turns_word) ≡ false → has_at s at (same_word ++ turns_word) ≡ true → count_at s at ≡ at + 11
  unfolding count_at either
  same_count d h = rw (d, h) refl

  same_back : (k : ℕ) (t : Sums) → s ≡ f ++ ((same_word ++ turns_word) ++ (decimal k ++ transfers_text t)) → k < 65536 → Few t → answer_at s at ≡ Some (ending_at (at + 11) k t)
  same_back k t e b w =
      let g : get_or s at 0 ≡ 115 = byte_at ((same_word ++ turns_word) ++ (decimal k ++ transfers_text t)) e in
      let h : has_at s at (same_word ++ turns_word) ≡ true = word_at s f (same_word ++ turns_word) (decimal k ++ transfers_text t) at e l in
      let d : has_at s at (done_word ++ turns_word) ≡ false = other_at s at (done_word ++ turns_word) 115 g (omega arith) (λ (q : 115 ≡ 100). omega arith) in
      let m : length (f ++ (same_word ++ turns_word)) ≡ at + 11 = omega (arith, length-append f (same_word ++ turns_word)) in
      ending-back (at + 11) k t (f ++ (same_word ++ turns_word))
      (not_plain 115 g (λ (q : 115 ≡ 111). omega arith) (λ (q : 115 ≡ 119). omega arith) (λ (q : 115 ≡ 109). omega arith) (λ (q : 115 ≡ 110). omega arith))
      (same_count d h) (omega arith) m (e ∙ sym (append_assoc f (same_word ++ turns_word) (decimal k ++ transfers_text t))) b w

  read_count : has_at s at (done_word ++ turns_word) ≡ false → has_at s at (same_word ++ turns_word) ≡ false → has_at s at read_word ≡ true → value_at s (at + 5) ≡ true → has_at s (at + 13) turns_word ≡ true
      → count_at s at ≡ at + 20
  unfolding count_at reads_at either both
  read_count d c h x t = rw (d, c, h, x, t) refl

  read_back : (v k : ℕ) (t : Sums) → s ≡ f ++ (read_word ++ (hex v ++ (turns_word ++ (decimal k ++ transfers_text t)))) → k < 65536 → Few t → answer_at s at ≡ Some (ending_at (at + 20) k t)
  read_back v k t e b w =
      let g : get_or s at 0 ≡ 114 = byte_at (read_word ++ (hex v ++ (turns_word ++ (decimal k ++ transfers_text t)))) e in
      let h : has_at s at read_word ≡ true = word_at s f read_word (hex v ++ (turns_word ++ (decimal k ++ transfers_text t))) at e l in
      let e1 : s ≡ (f ++ read_word) ++ (hex v ++ (turns_word ++ (decimal k ++ transfers_text t))) = e ∙ sym (append_assoc f read_word (hex v ++ (turns_word ++ (decimal k ++ transfers_text t)))) in
      let m1 : length (f ++ read_word) ≡ at + 5 = omega (arith, length-append f read_word) in
      let x : value_at s (at + 5) ≡ true = value-back v s (f ++ read_word) (turns_word ++ (decimal k ++ transfers_text t)) (at + 5) m1 e1 in
      let e2 : s ≡ ((f ++ read_word) ++ hex v) ++ (turns_word ++ (decimal k ++ transfers_text t)) = e1 ∙ sym (append_assoc (f ++ read_word) (hex v) (turns_word ++ (decimal k ++ transfers_text t))) in
      let m2 : length ((f ++ read_word) ++ hex v) ≡ at + 13 = omega (arith, length-append (f ++ read_word) (hex v), length-hex v) in
      let u : has_at s (at + 13) turns_word ≡ true = word_at s ((f ++ read_word) ++ hex v) turns_word (decimal k ++ transfers_text t) (at + 13) e2 m2 in
      let e3 : s ≡ (((f ++ read_word) ++ hex v) ++ turns_word) ++ (decimal k ++ transfers_text t) = e2 ∙ sym (append_assoc ((f ++ read_word) ++ hex v) turns_word (decimal k ++ transfers_text t)) in
      let m3 : length (((f ++ read_word) ++ hex v) ++ turns_word) ≡ at + 20 = omega (arith, length-append ((f ++ read_word) ++ hex v) turns_word) in
      let d : has_at s at (done_word ++ turns_word) ≡ false = other_at s at (done_word ++ turns_word) 114 g (omega arith) (λ (q : 114 ≡ 100). omega arith) in
      let c : has_at s at (same_word ++ turns_word) ≡ false = other_at s at (same_word ++ turns_word) 114 g (omega arith) (λ (q : 114 ≡ 115). omega arith) in
      ending-back (at + 20) k t (((f ++ read_word) ++ hex v) ++ turns_word)
      (not_plain 114 g (λ (q : 114 ≡ 111). omega arith) (λ (q : 114 ≡ 119). omega arith) (λ (q : 114 ≡ 109). omega arith) (λ (q : 114 ≡ 110). omega arith))
      (read_count d c h x u) (omega arith) m3 e3 b w

-- each answer, behind a line number and its space
answer_back : (n : ℕ) (said : Said) (t : Sums) (s f : List ℕ) → length f ≡ places n + 1 → s ≡ f ++ (said_text said ++ gains said t) → Narrow said → Few t → answer_at s (places n + 1) ≡ Some (line_for n said t)
unfolding said_text gains turns line_for
answer_back n ok t s f l e h w = answer-plain s f (places n + 1) l (ok-back s f (places n + 1) l e)
answer_back n wait t s f l e h w = answer-plain s f (places n + 1) l (wait-back s f (places n + 1) l e)
answer_back n moved t s f l e h w = answer-plain s f (places n + 1) l (moved_back s f (places n + 1) l e)
answer_back n (read v k) t s f l e h w =
    read_back s f (places n + 1) l v k t (e ∙ ap (λ (x : List ℕ). f ++ (read_word ++ x)) (append_assoc (hex v) (turns_word ++ decimal k) (transfers_text t))) h w
answer_back n (done k) t s f l e h w = done-back s f (places n + 1) l k t e h w
answer_back n (same k) t s f l e h w = same_back s f (places n + 1) l k t e h w
answer_back n (no c) t s f l e h w =
    answer-plain s f (places n + 1) l (no-back s f (places n + 1) l c (e ∙ ap (λ (x : List ℕ). f ++ (no_word ++ x)) (append-nil (decimal c))) (omega arith))

-- each line that replay can print is read as what it is
pub reads-back : (n : ℕ) (said : Said) (t : Sums) → Narrow said → Few t → line_of (answer_line n said t) ≡ Some (line_for n said t)
reads-back n said t h w =
    let l : length (decimal n ++ space) ≡ places n + 1 = omega (arith, length-append (decimal n) space, length-decimal n) in
    line-answer n said t
    ∙ answer_back n said t (answer_line n said t) (decimal n ++ space) l (line-parts n said t ∙ sym (append_assoc (decimal n) space (said_text said ++ gains said t))) h w
