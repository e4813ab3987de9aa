-- Laws of `some`: where it holds there is a number, and one is enough.
use mathlib.Core.Path.{◌≡◌, ap}
use mathlib.Core.Bool.{Bool, true, false}
use mathlib.Core.Logic.{⊎_elim}
use Prim.Native.Nat.{ℕ, ◌<◌, ◌≤◌}
use native.Mathlib.Omega.{arith}
use Rattle.laws.specs.Choice.{no}
use Rattle.laws.specs.Scan.{first, some}
use Rattle.laws.proofs.Choice.{not-both-ways}
use Rattle.laws.proofs.Splice.{lt-or-ge}
use Rattle.laws.proofs.Scan.{first_holds, first-before, all-is, all-fails, all_same}

-- a number below n at which p holds
pub record Some (p : ℕ → Bool) (n : ℕ) : Type 0 where
  pub one : ℕ
  pub one-lt : one < n
  pub holds-there : p one ≡ true

module _ (p : ℕ → Bool) (n : ℕ) where
  pub some-none : ((k : ℕ) → k < n → p k ≡ false) → some p n ≡ false
  unfolding some no
  some-none f = ap no (all-is (λ i. no (p i)) n (λ k l. ap no (f k l)))

  pub some_is : some p n ≡ true → Some p n
  some_is h = ⊎_elim (λ (l : first p n < n). record { one = first p n; one-lt = l; holds-there = first_holds p n l })
      (λ (l : n ≤ first p n). absurd (not-both-ways h (some-none (λ k q. first-before p n k (omega arith))))) (lt-or-ge (first p n) n)

  pub some-true : (k : ℕ) → k < n → p k ≡ true → some p n ≡ true
  unfolding some no
  some-true k l h = ap no (all-fails (λ i. no (p i)) n k l (ap no h))

pub some_same : (p q : ℕ → Bool) (n : ℕ) → ((k : ℕ) → k < n → p k ≡ q k) → some p n ≡ some q n
unfolding some
some_same p q n f = ap no (all_same (λ i. no (p i)) (λ i. no (q i)) n (λ k l. ap no (f k l)))
