-- Laws of numbers as text: how many digits there are, and the digits from the last to the first.
use mathlib.Core.Path.{◌≡◌, refl, ap, sym, ◌∙◌}
use mathlib.Core.List.{[], ◌∷◌}
use mathlib.Core.Logic.{⊎_elim}
use Prim.Native.Nat.{ℕ, zero, suc, ◌+◌, ◌-◌, ◌*◌, ◌/◌, ◌%◌, ◌^◌, ◌≤◌, ◌<◌}
use native.Mathlib.Nat.{pow-succ', pow-zero, mul_comm, div-div-eq-div-mul}
use native.Mathlib.Numerals.{add-one}
use native.Mathlib.Omega.{arith}
use lib.ListN.{length}
use borrow.Author.Tests.{lt-ltb, le-ltb}
use Rattle.laws.proofs.Splice.{lt-or-ge}
use Rattle.wording.specs.Text.{digit_text, digits, places_by, places_in, places, decimal}

pub pow_pos : (i : ℕ) → 0 < 10 ^ i
pow_pos zero = omega arith
pow_pos (suc i) = omega (arith, pow_pos i, pow-succ' 10 i)

places_in-none : (v : ℕ) → places_in 0 v ≡ 1
unfolding places_in
places_in-none v = refl

places_in-one : (times v : ℕ) → v < 10 → places_in times v ≡ 1
unfolding places_in places_by
places_in-one zero v h = refl
places_in-one (suc times) v h = rw (lt-ltb v 10 h)

places_in-more : (times v : ℕ) → 10 ≤ v → places_in (suc times) v ≡ suc (places_in times (v / 10))
unfolding places_in places_by
places_in-more times v h = rw (le-ltb v 10 h)

-- v is between two powers
places_in-is : (i times v : ℕ) → v ≤ times → (0 < i → 10 ^ i ≤ v) → v < 10 ^ suc i → places_in times v ≡ suc i
places_in-is zero times v t low high = places_in-one times v (omega arith)
places_in-is (suc i) zero v t low high = absurd (omega (arith, low (omega arith), pow-succ' 10 i, pow_pos i))
places_in-is (suc i) (suc times) v t low high =
    let l : 10 ^ suc i ≤ v = low (omega arith) in
    let s : 10 ^ suc i ≡ 10 * 10 ^ i = pow-succ' 10 i in
    let u : 10 ^ suc (suc i) ≡ 10 * 10 ^ suc i = pow-succ' 10 (suc i) in
    let z : 0 < 10 ^ i = pow_pos i in
    places_in-more times v (omega arith) ∙ ap suc (places_in-is i times (v / 10) (omega arith) (λ _. omega arith) (omega arith))

places_in-≤ : (n times v : ℕ) → v < 10 ^ suc n → places_in times v ≤ suc n
places_in-≤ n zero v h = rw (places_in-none v) (omega arith)
places_in-≤ zero (suc times) v h = omega (arith, places_in-one (suc times) v (omega arith))
places_in-≤ (suc n) (suc times) v h =
    let u : 10 ^ suc (suc n) ≡ 10 * 10 ^ suc n = pow-succ' 10 (suc n) in
    let r : places_in times (v / 10) ≤ suc n = places_in-≤ n times (v / 10) (omega arith) in
    ⊎_elim (λ (l : v < 10). omega (arith, places_in-one (suc times) v l)) (λ (l : 10 ≤ v). omega (arith, places_in-more times v l)) (lt-or-ge v 10)

-- a turn of the count
module _ (v i top : ℕ) (t : top ≡ 10 ^ (i + 1)) where
  pub places_is : (0 < i → 10 ^ i ≤ v) → v < top → i + 1 ≡ places v
  unfolding places
  places_is low high = rw add-one (sym (places_in-is i v v (omega arith) low (rw (t, add-one) at high)))

-- as many digits as the power has are enough
pub places-≤ : (v n : ℕ) → v < 10 ^ suc n → places v ≤ suc n
unfolding places
places-≤ v n h = places_in-≤ n v v h

-- no fewer would do, and none of them is a zero in front
places_in-high : (times v : ℕ) → v ≤ times → v < 10 ^ places_in times v
places_in-high zero v t = rw (places_in-none v) (omega arith)
places_in-high (suc times) v t =
    ⊎_elim (λ (l : v < 10). rw (places_in-one (suc times) v l) (omega arith))
    (λ (l : 10 ≤ v).
    let h : v / 10 < 10 ^ places_in times (v / 10) = places_in-high times (v / 10) (omega arith) in
    rw (places_in-more times v l) (omega (arith, pow-succ' 10 (places_in times (v / 10)))))
    (lt-or-ge v 10)

places_in-low : (i times v : ℕ) → places_in times v ≡ suc (suc i) → 10 ^ suc i ≤ v
places_in-low i zero v e = absurd (omega (arith, places_in-none v))
places_in-low zero (suc times) v e = ⊎_elim (λ (l : v < 10). absurd (omega (arith, places_in-one (suc times) v l))) (λ (l : 10 ≤ v). omega arith) (lt-or-ge v 10)
places_in-low (suc i) (suc times) v e =
    ⊎_elim (λ (l : v < 10). absurd (omega (arith, places_in-one (suc times) v l)))
    (λ (l : 10 ≤ v).
    let h : 10 ^ suc i ≤ v / 10 = places_in-low i times (v / 10) (omega (arith, places_in-more times v l)) in
    omega (arith, pow-succ' 10 (suc i)))
    (lt-or-ge v 10)

places_in-some : (times v : ℕ) → 0 < places_in times v
places_in-some zero v = omega (arith, places_in-none v)
places_in-some (suc times) v =
    ⊎_elim (λ (l : v < 10). omega (arith, places_in-one (suc times) v l)) (λ (l : 10 ≤ v). omega (arith, places_in-more times v l)) (lt-or-ge v 10)

module _ (v : ℕ) where
  pub places-high : v < 10 ^ places v
  unfolding places
  places-high = places_in-high v v (omega arith)

  pub places-low : (i : ℕ) → places v ≡ suc (suc i) → 10 ^ suc i ≤ v
  unfolding places
  places-low i e = places_in-low i v v e

  pub places-some : 0 < places v
  unfolding places
  places-some = places_in-some v v

-- numbers of 8, 16 and 64 bits
pub places-8 : (v : ℕ) → v < 256 → places v ≤ 3
places-8 v h = places-≤ v 2 (omega arith)

pub places-16 : (v : ℕ) → v < 65536 → places v ≤ 5
places-16 v h = places-≤ v 4 (omega arith)

pub places-64 : (v : ℕ) → v < 18446744073709551616 → places v ≤ 20
places-64 v h = places-≤ v 19 (omega arith)

pub length_digits : (base w v : ℕ) → length (digits base w v) ≡ w
unfolding digits
length_digits base zero v = refl
length_digits base (suc j) v = ap suc (length_digits base j v)

pub length-decimal : (v : ℕ) → length (decimal v) ≡ places v
unfolding decimal
length-decimal v = length_digits 10 (places v) v

pub decimal-is : (w v : ℕ) → w ≡ places v → digits 10 w v ≡ decimal v
unfolding decimal
decimal-is w v e = rw e

pub no-digits : (base v j : ℕ) → j ≡ 0 → digits base j v ≡ []
unfolding digits
no-digits base v j e = rw e

-- a turn of the digits: j of them are passed, and `rest` is what is left of v
module _ (base v j rest : ℕ) (e : rest ≡ v / base ^ j) where
  pub digit-more : digit_text (rest % base) ∷ digits base j v ≡ digits base (suc j) v
  unfolding digits
  digit-more = rw e

  pub rest_more : rest / base ≡ v / base ^ suc j
  rest_more = rw (e, div-div-eq-div-mul v (base ^ j) base, mul_comm (base ^ j) base, pow-succ' base j)

pub rest_all : (base v j : ℕ) → j ≡ 0 → v ≡ v / base ^ j
rest_all base v j e = rw (e, pow-zero base) (omega arith)

pub rest-next : (base v w left rest : ℕ) → 0 < left → left ≤ w → rest ≡ v / base ^ (w - left) → rest / base ≡ v / base ^ (w - (left - 1))
rest-next base v w left rest z l e =
    let j : w - (left - 1) ≡ suc (w - left) = omega arith in
    rw j (rest_more base v (w - left) rest e)
