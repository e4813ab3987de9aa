-- Laws of a count and of a largest: a count of 0 holds at no place, and a largest that is not 0 is had by some place.
use mathlib.Core.Path.{◌≡◌, refl, ap}
use mathlib.Core.Bool.{Bool, true, false}
use mathlib.Core.Logic.{⊎_elim}
use Prim.Native.Nat.{ℕ, zero, suc, ◌<◌, ◌≤◌, max}
use native.Mathlib.Nat.{eq-or-lt_of_le}
use native.Mathlib.Omega.{arith}
use borrow.Author.Tests.{eq-eqb}
use lib.Dec.{eqb}
use Rattle.laws.specs.Choice.{one}
use Rattle.laws.specs.Scan.{first, count}
use Rattle.laws.specs.Count.{largest}
use Rattle.laws.proofs.Splice.{lt-or-ge}
use Rattle.laws.proofs.Scan.{first_some, first-suc-old}

one-zero : (b : Bool) → one b ≡ 0 → b ≡ false
one-zero true h = absurd (omega arith)
one-zero false h = refl

pub count-zero : (p : ℕ → Bool) (n k : ℕ) → count p n ≡ 0 → k < n → p k ≡ false
unfolding count
count-zero p zero k e l = absurd (omega arith)
count-zero p (suc n) k e l =
    let le : k ≤ n = omega arith in
    ⊎_elim (λ (q : k ≡ n). rw q (one-zero (p n) (omega arith))) (λ (m : k < n). count-zero p n k (omega arith) m) (eq-or-lt_of_le le)

pub largest-zero : (f : ℕ → ℕ) → largest f 0 ≡ 0
unfolding largest
largest-zero f = refl

pub largest-suc : (f : ℕ → ℕ) (n : ℕ) → largest f (suc n) ≡ max (largest f n) (f n)
unfolding largest
largest-suc f n = refl

pub largest-least : (f : ℕ → ℕ) (n k : ℕ) → k < n → f k ≤ largest f n
largest-least f zero k h = absurd (omega arith)
largest-least f (suc n) k h =
    let le : k ≤ n = omega arith in
    ⊎_elim
    (λ (q : k ≡ n). let e : f k ≡ f n = ap f q in omega (arith, largest-suc f n))
    (λ (l : k < n). omega (arith, largest-suc f n, largest-least f n k l))
    (eq-or-lt_of_le le)

-- where it is not 0, some place has it
pub largest-first : (f : ℕ → ℕ) (v n : ℕ) → largest f n ≡ v → 0 < v → first (λ k. eqb (f k) v) n < n
largest-first f v zero e h = absurd (omega (arith, largest-zero f))
largest-first f v (suc n) e h =
    ⊎_elim
    (λ (l : largest f n < f n).
    let q : f n ≡ v = omega (arith, largest-suc f n) in first_some (λ k. eqb (f k) v) (suc n) n (omega arith) (eq-eqb (f n) v q))
    (λ (l : f n ≤ largest f n).
    let q : largest f n ≡ v = omega (arith, largest-suc f n) in
    let s : first (λ k. eqb (f k) v) n < n = largest-first f v n q h in
    omega (arith, first-suc-old (λ k. eqb (f k) v) n s))
    (lt-or-ge (largest f n) (f n))
