-- Laws of runs: which groups are in which run, and that every group is in one of them. They ask only that c is above 0.
use mathlib.Core.Path.{◌≡◌}
use mathlib.Core.Bool.{true, false}
use mathlib.Core.Logic.{◌⊎◌, inl, inr, ⊎_elim}
use Prim.Native.Nat.{ℕ, zero, suc, ◌+◌, ◌-◌, ◌*◌, ◌/◌, ◌≤◌, ◌<◌}
use native.Mathlib.Nat.{suc-mul, div-mul-le_self, lt-div-mul-add, le-div_iff_mul-le, div-eq_of_lt-le, add-mul, one-mul, le-mul_of_pos_right}
use native.Mathlib.Omega.{arith}
use lib.Dec.{eqb}
use borrow.Author.Tests.{eqb-true, ne_eqb}
use Rattle.laws.specs.Choice.{either}
use Rattle.laws.proofs.Choice.{either_true}
use Rattle.geometry.specs.TagMemory.{groups}
use Rattle.prediction.specs.Runs.{is_run, run_of, runs}

module _ (c : ℕ) where
  -- the four lengths, as code tests them
  pub is_run-one : (c ≡ 4) ⊎ ((c ≡ 8) ⊎ ((c ≡ 16) ⊎ (c ≡ 32))) → true ≡ is_run c
  unfolding is_run either
  is_run-one (inl e) = rw e
  is_run-one (inr (inl e)) = rw e
  is_run-one (inr (inr (inl e))) = rw e
  is_run-one (inr (inr (inr e))) = rw e

  pub is_run-none : (c ≡ 4 → ⊥) → (c ≡ 8 → ⊥) → (c ≡ 16 → ⊥) → (c ≡ 32 → ⊥) → false ≡ is_run c
  unfolding is_run either
  is_run-none f g h i = rw (ne_eqb c 4 f, ne_eqb c 8 g, ne_eqb c 16 h, ne_eqb c 32 i)

  -- each is above 0 and at most 32
  pub is_run-within : is_run c ≡ true → (0 < c) × (c ≤ 32)
  unfolding is_run
  is_run-within h = ⊎_elim (λ e. at 4 e (omega arith) (omega arith)) (λ h. ⊎_elim (λ e. at 8 e (omega arith) (omega arith))
      (λ h. ⊎_elim (λ e. at 16 e (omega arith) (omega arith)) (λ e. at 32 e (omega arith) (omega arith)) (either_true (eqb c 16) (eqb c 32) h))
      (either_true (eqb c 8) (either (eqb c 16) (eqb c 32)) h)) (either_true (eqb c 4) (either (eqb c 8) (either (eqb c 16) (eqb c 32))) h)
    where
      at : (k : ℕ) → eqb c k ≡ true → 0 < k → k ≤ 32 → (0 < c) × (c ≤ 32)
      at k e l m = let q = eqb-true c k e in (omega arith, omega arith)

-- rounding up: a quotient of less than a is below it, and what is below it has its product below a
up : (a c q : ℕ) → 0 < c → q * c < a → q < (a + c - 1) / c
up a c q p h = (le-div_iff_mul-le p).1 (let m : suc q * c ≡ q * c + c = suc-mul q c in omega arith)

down : (a c q : ℕ) → 0 < c → q < (a + c - 1) / c → q * c < a
down a c q p h =
    let l : suc q * c ≤ a + c - 1 = (le-div_iff_mul-le p).0 h in
    let m : suc q * c ≡ q * c + c = suc-mul q c in
    omega arith

module _ (n c : ℕ) (p : 0 < c) where
  -- every group is in a run
  pub run_of-lt : (g : ℕ) → g < groups n → run_of c g < runs n c
  unfolding run_of runs
  run_of-lt g h = let d : g / c * c ≤ g = div-mul-le_self g c in up (groups n) c (g / c) p (below (g / c * c) d)
    where
      below : (x : ℕ) → x ≤ g → x < groups n
      below x d = omega arith

  -- every run has a group
  pub run-starts : (r : ℕ) → r < runs n c → r * c < groups n
  unfolding runs
  run-starts r h = down (groups n) c r p h

  -- there are no more runs than groups
  pub runs-most : runs n c ≤ groups n
  unfolding runs
  runs-most = most ((groups n + c - 1) / c) (λ q h. down (groups n) c q p h)
    where
      most : (k : ℕ) → ((q : ℕ) → q < k → q * c < groups n) → k ≤ groups n
      most zero f = omega arith
      most (suc q) f = let h : q * c < groups n = f q (omega arith) in let l : q ≤ q * c = le-mul_of_pos_right q p in omega arith

-- the groups of run r are those from r c on, and c of them
module _ (c g r : ℕ) (p : 0 < c) where
  pub run_of-from : run_of c g ≡ r → r * c ≤ g
  unfolding run_of
  run_of-from e = rw e at (div-mul-le_self g c)

  pub run_of-to : run_of c g ≡ r → g < r * c + c
  unfolding run_of
  run_of-to e = rw e at (lt-div-mul-add {a = g} {b = c} p)

  pub run_of-is : r * c ≤ g → g < r * c + c → run_of c g ≡ r
  unfolding run_of
  run_of-is l h = div-eq_of_lt-le c l (let m : (r + 1) * c ≡ r * c + 1 * c = add-mul r 1 c in let o : 1 * c ≡ c = one-mul c in omega arith)
