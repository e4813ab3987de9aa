-- A read under bit 1 and under bit 0; the bits after a write of zero and of another value.
use mathlib.Core.Path.{◌≡◌, ap, ◌∙◌}
use mathlib.Core.List.{List}
use mathlib.Core.Logic.{⊎_elim}
use Prim.Native.Nat.{ℕ}
use native.Mathlib.Omega.{arith}
use lib.Dec.{eqb}
use lib.ListN.{length}
use borrow.Author.Tests.{eqb-true, eqb-false, eq-eqb, ne_eqb}
use Rattle.laws.proofs.Choice.{true-or-false}
use Rattle.prediction.specs.Runs.{run_of, group_in, run_bit, put_run_bit}
use Rattle.prediction.specs.Calls.{Lent, group_read, marked}
use Rattle.prediction.proofs.Bits.{run_bit-lt, length-put_run_bit}

pub bit-0 : (bits : List ℕ) (r : ℕ) → (run_bit bits r ≡ 1 → ⊥) → run_bit bits r ≡ 0
bit-0 bits r d = let l = run_bit-lt bits r in omega arith

module _ (c : ℕ) (s : Lent) (g : ℕ) where
  pub group_read-0 : (run_bit s.bits (run_of c g) ≡ 1 → ⊥) → group_read c s g ≡ 0
  unfolding group_read
  group_read-0 d = rw (ne_eqb (run_bit s.bits (run_of c g)) 1 d)

  pub group_read-1 : run_bit s.bits (run_of c g) ≡ 1 → group_read c s g ≡ group_in s.tags g
  unfolding group_read
  group_read-1 e = rw (eq-eqb (run_bit s.bits (run_of c g)) 1 e)

module _ (c : ℕ) (bits : List ℕ) (g v : ℕ) where
  pub marked-not : v ≡ 0 → marked c bits g v ≡ bits
  unfolding marked
  marked-not e = rw (eq-eqb v 0 e)

  pub marked-is : (v ≡ 0 → ⊥) → marked c bits g v ≡ put_run_bit bits (run_of c g) 1
  unfolding marked
  marked-is d = rw (ne_eqb v 0 d)

  pub length_marked : length (marked c bits g v) ≡ length bits
  length_marked = ⊎_elim (λ t. ap length (marked-not (eqb-true v 0 t))) (λ f. ap length (marked-is (eqb-false v 0 f)) ∙ length-put_run_bit bits (run_of c g) 1)
      (true-or-false (eqb v 0))
