-- What calls do not touch: a read under bit 0 the tags, a write and synchronising the spare bits.
use mathlib.Core.Path.{◌≡◌, refl, ap, ◌∙◌}
use mathlib.Core.List.{List}
use mathlib.Core.Logic.{⊎_elim}
use Prim.Native.Nat.{ℕ, ◌/◌, ◌≤◌, ◌<◌}
use native.Mathlib.Omega.{arith}
use lib.Dec.{eqb}
use lib.ListN.{length}
use borrow.Author.Tests.{eqb-true, eqb-false}
use Rattle.laws.specs.Refusal.{refusal}
use Rattle.laws.proofs.Choice.{true-or-false}
use Rattle.laws.proofs.Refusals.{unless-by}
use Rattle.geometry.specs.TagMemory.{groups}
use Rattle.prediction.specs.Runs.{run_of, runs, run_bit, any_in}
use Rattle.prediction.specs.Calls.{Lent, Done, lent, group_tests, read, marked, write, synchronise}
use Rattle.prediction.specs.Sequence.{Untouched, SpareStay}
use Rattle.prediction.proofs.RunsOf.{is_run-within, run_of-lt}
use Rattle.prediction.proofs.Bits.{bit-inside, truth-lt, not-both-bits, run_bit-put-other}
use Rattle.prediction.proofs.Under.{group_read-0, marked-not, marked-is}
use Rattle.prediction.proofs.Refusals.{is-reached}
use Rattle.prediction.proofs.Synchronising.{there}

pub untouched : (n c : ℕ) (bits : List ℕ) (g : ℕ) → run_bit bits (run_of c g) ≡ 0 → Untouched n c bits g
unfolding read
untouched n c bits g z tags others l =
    let d : (run_bit bits (run_of c g) ≡ 1 → ⊥) = λ e. not-both-bits z e in
    rw (l, group_read-0 c (lent tags bits) g d, group_read-0 c (lent others bits) g d)

module _ (n c : ℕ) (s : Lent) where
  -- a run that is there is none of the spare
  past : (q r : ℕ) → q < runs n c → runs n c ≤ r → r ≡ q → ⊥
  past q r h l e = omega arith

  spare-marked : (g v r : ℕ) → refusal (group_tests n c (length s.tags) (length s.bits) g) ≡ 0 → runs n c ≤ r → run_bit (marked c s.bits g v) r ≡ run_bit s.bits r
  spare-marked g v r e l =
      let y = is-reached n c (length s.tags) (length s.bits) (groups n) g e in
      let h = run_of-lt n c (is_run-within c y.0.run).0 g y.1 in
      let i : run_of c g / 8 < length s.bits = bit-inside n c (length s.bits) (run_of c g) y.0.bits h in
      ⊎_elim (λ t. ap (λ (b : List ℕ). run_bit b r) (marked-not c s.bits g v (eqb-true v 0 t)))
      (λ f. ap (λ (b : List ℕ). run_bit b r) (marked-is c s.bits g v (eqb-false v 0 f)) ∙ run_bit-put-other s.bits (run_of c g) 1 i (omega arith) r (past (run_of c g) r h l))
      (true-or-false (eqb v 0))

  spare-written : (g v r : ℕ) → runs n c ≤ r → run_bit (write n c s g v).lent.bits r ≡ run_bit s.bits r
  unfolding write
  spare-written g v r l = unless-by _ _ (λ (d : Done). run_bit d.lent.bits r ≡ run_bit s.bits r) (λ e. spare-marked g v r e l) (λ h. refl)

  spare-synchronised : (q r : ℕ) → runs n c ≤ r → run_bit (synchronise n c s q).lent.bits r ≡ run_bit s.bits r
  unfolding synchronise
  spare-synchronised q r l = unless-by _ _ (λ (d : Done). run_bit d.lent.bits r ≡ run_bit s.bits r)
      (λ e. let y = is-reached n c (length s.tags) (length s.bits) (runs n c) q e in
      run_bit-put-other s.bits q _ (there n c (length s.tags) (length s.bits) q e) (truth-lt (any_in n c s.tags q)) r (past q r y.1 l)) (λ h. refl)

  pub spare-stay : SpareStay n c s
  spare-stay = record { written = spare-written; synchronised = spare-synchronised }
