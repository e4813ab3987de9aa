-- As many numbers below T as there are numbers that are sent there, each to its own.
use mathlib.Core.Path.{◌≡◌, refl, sym, ◌∙◌}
use mathlib.Core.Bool.{Bool, true, false}
use mathlib.Core.Logic.{⊎_elim}
use Prim.Native.Nat.{ℕ, zero, suc, ◌≤◌, ◌<◌}
use native.Mathlib.Nat.{eq-or-lt_of_le, le_of_suc-le-suc, not-suc-le-zero}
use native.Mathlib.Omega.{arith}
use lib.Dec.{eqb}
use borrow.Author.Tests.{eqb-true, eqb-false}
use Rattle.laws.specs.Choice.{pick}

-- what is sent to T is sent to x instead
send : (ℕ → ℕ) → ℕ → ℕ → ℕ → ℕ
send f T x i = pick (eqb (f i) T) x (f i)

send-lt : (b : Bool) (f : ℕ → ℕ) (T x i : ℕ) → eqb (f i) T ≡ b → (f i ≡ T → x < T) → f i < suc T → pick b x (f i) < T
send-lt true f T x i e hx hi = hx (eqb-true _ _ e)
send-lt false f T x i e hx hi = let ne : (f i ≡ T → ⊥) = eqb-false (f i) T e in ⊎_elim (λ q. absurd (ne q)) (λ q. q) (eq-or-lt_of_le (le_of_suc-le-suc hi))

send-inj : (b c : Bool) (f : ℕ → ℕ) (T x i j : ℕ) → eqb (f i) T ≡ b → eqb (f j) T ≡ c → (x ≡ f i → ⊥) → (x ≡ f j → ⊥) → pick b x (f i) ≡ pick c x (f j) → f i ≡ f j
send-inj true true f T x i j p q ni nj e = eqb-true _ _ p ∙ sym (eqb-true _ _ q)
send-inj true false f T x i j p q ni nj e = absurd (nj e)
send-inj false true f T x i j p q ni nj e = absurd (ni (sym e))
send-inj false false f T x i j p q ni nj e = e

pub pigeon : (T L : ℕ) (f : ℕ → ℕ) → ((i : ℕ) → i < L → f i < T) → ((i j : ℕ) → i < L → j < L → f i ≡ f j → i ≡ j) → L ≤ T
unfolding send
pigeon zero zero f lt inj = omega arith
pigeon zero (suc L) f lt inj = absurd (not-suc-le-zero (lt 0 (omega arith)))
pigeon (suc T) zero f lt inj = omega arith
pigeon (suc T) (suc L) f lt inj = let r : L ≤ T = pigeon T L (send f T (f L)) below own in omega arith
  where
    apart : (i : ℕ) → i < L → f L ≡ f i → ⊥
    apart i h q = let r = inj L i (omega arith) (omega arith) q in omega arith

    small : (i : ℕ) → i < L → f i ≡ T → f L < T
    small i h q = ⊎_elim (λ z. absurd (apart i h (z ∙ sym q))) (λ z. z) (eq-or-lt_of_le (le_of_suc-le-suc (lt L (omega arith))))

    below : (i : ℕ) → i < L → send f T (f L) i < T
    below i h = send-lt (eqb (f i) T) f T (f L) i refl (small i h) (lt i (omega arith))

    own : (i j : ℕ) → i < L → j < L → send f T (f L) i ≡ send f T (f L) j → i ≡ j
    own i j hi hj e = inj i j (omega arith) (omega arith) (send-inj (eqb (f i) T) (eqb (f j) T) f T (f L) i j refl refl (apart i hi) (apart j hj) e)
