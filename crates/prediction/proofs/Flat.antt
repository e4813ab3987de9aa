-- "Reads equal the flat row over any sequence, .. a non-zero group never lies under bit 0": every call keeps the agreement with the row and answers as it does.
use mathlib.Core.Path.{◌≡◌, refl, sym, ap, ◌∙◌}
use mathlib.Core.Bool.{true}
use mathlib.Core.List.{List, [], ◌∷◌}
use mathlib.Core.Logic.{⊎_elim}
use Prim.Native.Nat.{ℕ, ◌<◌}
use native.Mathlib.Omega.{arith}
use lib.ListN.{length}
use borrow.Author.Tests.{lt-ltb, le-ltb}
use Rattle.laws.specs.Refusal.{refusal}
use Rattle.laws.proofs.Splice.{lt-or-ge}
use Rattle.laws.proofs.Refusals.{refused-or-not}
use Rattle.geometry.specs.TagMemory.{groups, in_limits}
use Rattle.prediction.specs.Runs.{is_run, run_of, runs, group_in, run_bit}
use Rattle.prediction.specs.Calls.{Lent, Done, done, refused, lent_tests, fresh, read, write, synchronise}
use Rattle.prediction.specs.Sequence.{Call, freshens, reads, writes, synchronises, does, told, after, Row, zeros, row_after, flat_answer, flat_told, Flatly}
use Rattle.prediction.proofs.RunsOf.{is_run-within}
use Rattle.prediction.proofs.Refusals.{Ready, ready-0, is-ready, refused-6, reached-0, fresh-refused, fresh-done, read-refused, read_done, write-refused, write_done, synchronise-refused, synchronise-done}
use Rattle.prediction.proofs.Agrees.{Agrees, agrees-fresh, agrees-read, agrees-write, agrees-synchronise}

-- a call answers as the flat row does, and leaves what agrees with the row after it
abbrev Follows : ℕ → ℕ → Row → Done → Call → Type 0
Follows n c row d call = (d.answer ≡ flat_answer n c row call) × Agrees n c (row_after n row call) d.lent

not-6 : ◌≡◌ {A = ℕ} 6 0 → ⊥
not-6 e = omega arith

module _ (n c : ℕ) (limits : in_limits n ≡ true) (run : is_run c ≡ true) (row : Row) (s : Lent) (a : Agrees n c row s) where
  ready : Ready n c (length s.tags) (length s.bits)
  ready = record { limits = limits; run = run; tags = a.tags_long; bits = a.bits_long }

  follows-fresh : Follows n c row (fresh n c s) freshens
  follows-fresh = rw (← fresh-done n c s refl (ready-0 n c (length s.tags) (length s.bits) ready))
      (refl, agrees-fresh n c s a.above a.tags_long a.bits_long)

  follows-read : (g : ℕ) → Follows n c row (done (read n c s g) s) (reads g)
  follows-read g = ⊎_elim
      (λ h. (sym (read_done n c s g refl (reached-0 n c (length s.tags) (length s.bits) (groups n) g ready h)) ∙ agrees-read n c row s a g h ∙ rw (lt-ltb g (groups n) h), a))
      (λ h. let e = refused-6 n c (length s.tags) (length s.bits) (groups n) g ready h in
      (sym (read-refused n c s g (sym e) not-6) ∙ rw (le-ltb g (groups n) h), a))
      (lt-or-ge g (groups n))

  follows-write : (g v : ℕ) (small : v < 4294967296) → Follows n c row (write n c s g v) (writes g v small)
  follows-write g v small = ⊎_elim
      (λ h. rw (← write_done n c s g refl v (reached-0 n c (length s.tags) (length s.bits) (groups n) g ready h), lt-ltb g (groups n) h)
      (refl, agrees-write n c row s a g v h small))
      (λ h. let e = refused-6 n c (length s.tags) (length s.bits) (groups n) g ready h in
      rw (← write-refused n c s g (sym e) v not-6, le-ltb g (groups n) h) (refl, a))
      (lt-or-ge g (groups n))

  follows-synchronise : (r : ℕ) → Follows n c row (synchronise n c s r) (synchronises r)
  follows-synchronise r = ⊎_elim
      (λ h. rw (← synchronise-done n c s r refl (reached-0 n c (length s.tags) (length s.bits) (runs n c) r ready h), lt-ltb r (runs n c) h)
      (refl, agrees-synchronise n c row s a r h))
      (λ h. let e = refused-6 n c (length s.tags) (length s.bits) (runs n c) r ready h in
      rw (← synchronise-refused n c s r (sym e) not-6, le-ltb r (runs n c) h) (refl, a))
      (lt-or-ge r (runs n c))

  follows : (call : Call) → Follows n c row (does n c s call) call
  follows freshens = follows-fresh
  follows (reads g) = follows-read g
  follows (writes g v small) = follows-write g v small
  follows (synchronises r) = follows-synchronise r

-- any sequence
module _ (n c : ℕ) (limits : in_limits n ≡ true) (run : is_run c ≡ true) where
  follow : (calls : List Call) (row : Row) (s : Lent) → Agrees n c row s
      → (told n c s calls ≡ flat_told n c row calls) × ((g : ℕ) → g < groups n → run_bit (after n c s calls).bits (run_of c g) ≡ 0 → group_in (after n c s calls).tags g ≡ 0)
  unfolding told flat_told after
  follow [] row s a = (refl, λ g h z. a.stored g h ∙ a.under g h z)
  follow (call ∷ calls) row s a =
      let k = follows n c limits run row s a call in
      let r = follow calls (row_after n row call) (does n c s call).lent k.1 in
      (rw (k.0, r.0), r.1)

pub flat : (n c : ℕ) (s : Lent) (calls : List Call) → (fresh n c s).answer ≡ 0 → Flatly n c (fresh n c s).lent calls
flat n c s calls e = ⊎_elim accepted
    (λ h. absurd (never (refusal (lent_tests n c (length s.tags) (length s.bits))) (ap (λ (d : Done). d.answer) (fresh-refused n c s refl (above h)) ∙ e)))
    (refused-or-not (refusal (lent_tests n c (length s.tags) (length s.bits))))
  where
    never : (k : ℕ) → refused k ≡ 0 → ⊥
    never k q = omega arith

    above : {k : ℕ} → 0 < k → k ≡ 0 → ⊥
    above {k} h q = omega arith

    accepted : refusal (lent_tests n c (length s.tags) (length s.bits)) ≡ 0 → Flatly n c (fresh n c s).lent calls
    accepted z =
        let y = is-ready n c (length s.tags) (length s.bits) z in
        let a = agrees-fresh n c s (is_run-within c y.run).0 y.tags y.bits in
        let f = ap (λ (d : Done). d.lent) (fresh-done n c s refl z) in
        let r = follow n c y.limits y.run calls zeros (fresh n c s).lent (rw f at a) in
        record { answers = r.0; under = r.1 }
