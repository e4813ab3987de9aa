-- Laws of the runs' bits: a put makes one bit, leaves every other and keeps the length; zero bytes have no bit 1.
use mathlib.Core.Path.{◌≡◌, ap, ◌∙◌}
use mathlib.Core.Bool.{Bool, true, false}
use mathlib.Core.List.{List}
use mathlib.Core.Logic.{⊎_elim}
use Prim.Native.Nat.{ℕ, ◌/◌, ◌%◌, ◌<◌}
use native.Mathlib.Omega.{arith}
use lib.Dec.{eqb}
use lib.ListN.{length, replicate, length-set}
use borrow.Author.Tests.{eqb-true, eqb-false}
use Rattle.laws.specs.Choice.{pick}
use Rattle.laws.proofs.Choice.{true-or-false}
use Rattle.laws.proofs.Writes.{get_d_replicate}
use Rattle.block.proofs.BitsOf.{bit_at_lt, bit_at-zero, put_bit-is, bit_at-put_bit-same, bit_at-put_bit-bit, bit_at-put_bit-byte}
use Rattle.prediction.specs.Runs.{runs, bits_length, run_bit, put_run_bit}

-- a run's bit has a byte
pub bit-inside : (n c b r : ℕ) → b ≡ bits_length n c → r < runs n c → r / 8 < b
unfolding bits_length
bit-inside n c b r e h = omega arith

-- a bit from a truth is 0 or 1, and not both
pub truth-lt : (b : Bool) → pick {A = ℕ} b 1 0 < 2
truth-lt true = omega arith
truth-lt false = omega arith

pub not-both-bits : {x : ℕ} → x ≡ 0 → x ≡ 1 → ⊥
not-both-bits {x} p q = omega arith

pub run_bit-lt : (bits : List ℕ) (r : ℕ) → run_bit bits r < 2
unfolding run_bit
run_bit-lt bits r = bit_at_lt bits (r / 8) (r % 8)

pub run_bit-zeros : (k r : ℕ) → run_bit (replicate k 0) r ≡ 0
unfolding run_bit
run_bit-zeros k r = bit_at-zero (replicate k 0) (r / 8) (r % 8) (get_d_replicate k (r / 8) 0)

pub length-put_run_bit : (bits : List ℕ) (r v : ℕ) → length (put_run_bit bits r v) ≡ length bits
unfolding put_run_bit
length-put_run_bit bits r v = ap length (put_bit-is bits (r / 8) (r % 8) v (omega arith)) ∙ simp length-set

module _ (bits : List ℕ) (r v : ℕ) (h : r / 8 < length bits) (l : v < 2) where
  pub run_bit-put-same : run_bit (put_run_bit bits r v) r ≡ v
  unfolding run_bit put_run_bit
  run_bit-put-same = bit_at-put_bit-same bits (r / 8) (r % 8) v h (omega arith) l

  pub run_bit-put-other : (q : ℕ) → (q ≡ r → ⊥) → run_bit (put_run_bit bits r v) q ≡ run_bit bits q
  unfolding run_bit put_run_bit
  run_bit-put-other q n = ⊎_elim
      (λ t. let e : q / 8 ≡ r / 8 = eqb-true (q / 8) (r / 8) t in
      rw e (bit_at-put_bit-bit bits (r / 8) (r % 8) v (q % 8) h (omega arith) l (λ k. n (omega arith))))
      (λ f. bit_at-put_bit-byte bits (r / 8) (r % 8) v (q / 8) (q % 8) (omega arith) (eqb-false (q / 8) (r / 8) f))
      (true-or-false (eqb (q / 8) (r / 8)))
