-- "Once all runs are synchronised, with no write since the first, every bit 1 has one under it":
-- an accepted synchronising of a run gives it, and no call but a write takes it away.
use mathlib.Core.Path.{◌≡◌, refl, sym, ap, subst, ◌∙◌}
use mathlib.Core.Bool.{Bool, true, false}
use mathlib.Core.List.Memᴰ
use mathlib.Core.List.{List, [], ◌∷◌, Memᴰ}
use mathlib.Core.Logic.{◌⊎◌, inl, inr, ⊎_elim}
use Prim.Native.Nat.{ℕ, ◌/◌, ◌<◌}
use native.Mathlib.Omega.{arith}
use lib.Dec.{eqb}
use lib.ListN.{length}
use borrow.Author.Tests.{eqb-true, eqb-false}
use Rattle.laws.specs.Choice.{pick}
use Rattle.laws.specs.Refusal.{refusal}
use Rattle.laws.proofs.Choice.{true-or-false}
use Rattle.laws.proofs.Refusals.{unless-by}
use Rattle.prediction.specs.Runs.{runs, run_bit, put_run_bit, any_in}
use Rattle.prediction.specs.Calls.{Lent, Done, lent, run_tests, fresh, write, synchronise}
use Rattle.prediction.specs.Sequence.{Call, freshens, reads, writes, synchronises, does, told, after, Synchronised, OneUnder, Tight}
use Rattle.prediction.proofs.Bits.{bit-inside, truth-lt, not-both-bits, run_bit-zeros, run_bit-put-same, run_bit-put-other}
use Rattle.prediction.proofs.Groups.{any_in-some}
use Rattle.prediction.proofs.Refusals.{is-reached}

said : (b : Bool) → ◌≡◌ {A = ℕ} (pick b 1 0) 1 → b ≡ true
said true e = refl
said false e = absurd (omega arith)

-- the byte of an accepted run's bit is there
pub there : (n c t b r : ℕ) → refusal (run_tests n c t b r) ≡ 0 → r / 8 < b
there n c t b r e = let y = is-reached n c t b (runs n c) r e in bit-inside n c b r y.0.bits y.1

module _ (n c r : ℕ) where
  -- if run r's bit is 1, a group of the run is not zero
  abbrev Shown : Lent → Type 0
  Shown s = run_bit s.bits r ≡ 1 → OneUnder n c s r

  -- synchronising run q: run r has it, if r is q or had it before
  shown_by : (s : Lent) (q : ℕ) → ((r ≡ q → ⊥) → Shown s) → refusal (run_tests n c (length s.tags) (length s.bits) q) ≡ 0
      → Shown (lent s.tags (put_run_bit s.bits q (pick (any_in n c s.tags q) 1 0)))
  shown_by s q u e one =
      let i = there n c (length s.tags) (length s.bits) q e in
      let p = truth-lt (any_in n c s.tags q) in
      ⊎_elim
      (λ t. let f : r ≡ q = eqb-true r q t in
      let w : ◌≡◌ {A = ℕ} (pick (any_in n c s.tags q) 1 0) 1 = sym (run_bit-put-same s.bits q _ i p)
      ∙ ap (run_bit (put_run_bit s.bits q (pick (any_in n c s.tags q) 1 0))) (sym f) ∙ one in
      rw f (any_in-some n c s.tags q (said (any_in n c s.tags q) w)))
      (λ d. u (eqb-false r q d) (sym (run_bit-put-other s.bits q _ i p r (eqb-false r q d)) ∙ one))
      (true-or-false (eqb r q))

  keeps-synchronise : (s : Lent) (q : ℕ) → Shown s → Shown (synchronise n c s q).lent
  unfolding synchronise
  keeps-synchronise s q u = unless-by _ _ (λ (d : Done). Shown d.lent) (λ e. shown_by s q (λ d. u) e) (λ h. u)

  gives-synchronise : (s : Lent) → (synchronise n c s r).answer ≡ 0 → Shown (synchronise n c s r).lent
  unfolding synchronise
  gives-synchronise s = unless-by _ _ (λ (d : Done). d.answer ≡ 0 → Shown d.lent) (λ e z. shown_by s r (λ d. absurd (d refl)) e) (λ h z. absurd (omega arith))

  keeps-fresh : (s : Lent) → Shown s → Shown (fresh n c s).lent
  unfolding fresh
  keeps-fresh s u = unless-by _ _ (λ (d : Done). Shown d.lent) (λ e one. absurd (not-both-bits (run_bit-zeros (length s.bits) r) one)) (λ h. u)

  keeps-write : (s : Lent) (g v : ℕ) → ((write n c s g v).answer ≡ 0 → ⊥) → Shown s → Shown (write n c s g v).lent
  unfolding write
  keeps-write s g v = unless-by _ _ (λ (d : Done). (d.answer ≡ 0 → ⊥) → Shown s → Shown d.lent) (λ e d u. absurd (d refl)) (λ h d u. u)

  keeps : (s : Lent) (call : Call)
      → ((g v : ℕ) (small : v < 4294967296) → ◌≡◌ {A = Call × ℕ} (writes g v small, 0) (call, (does n c s call).answer) → ⊥) → Shown s → Shown (does n c s call).lent
  keeps s freshens d u = keeps-fresh s u
  keeps s (reads g) d u = u
  keeps s (writes g v small) d u = keeps-write s g v (λ e. d g v small (ap (λ (k : ℕ). (writes g v small, k)) (sym e))) u
  keeps s (synchronises q) d u = keeps-synchronise s q u

  gives : (s : Lent) (call : Call) → ◌≡◌ {A = Call × ℕ} (synchronises r, 0) (call, (does n c s call).answer) → Shown (does n c s call).lent
  gives s call e =
      let f : synchronises r ≡ call = ap (λ (p : Call × ℕ). p.0) e in
      let z : (does n c s call).answer ≡ 0 = sym (ap (λ (p : Call × ℕ). p.1) e) in
      subst (λ (x : Call). (does n c s x).answer ≡ 0 → Shown (does n c s x).lent) f (gives-synchronise s) z

  shown : (calls : List Call) (s : Lent) → ((g v : ℕ) (small : v < 4294967296) → Memᴰ (writes g v small, 0) (told n c s calls) → ⊥)
      → Shown s ⊎ Memᴰ (synchronises r, 0) (told n c s calls) → Shown (after n c s calls)
  unfolding told after
  shown [] s d (inl u) = u
  shown [] s d (inr m) = absurd (Memᴰ.not-nil m)
  shown (call ∷ calls) s d o =
      shown calls (does n c s call).lent (λ g v l m. d g v l (Memᴰ.tail m))
      (⊎_elim (λ u. inl (keeps s call (λ g v l e. d g v l (Memᴰ.head e)) u))
      (λ m. ⊎_elim (λ e. inl (gives s call e)) (λ t. inr t) (Memᴰ.cases_cons m)) o)

pub tight : (n c : ℕ) (s : Lent) (calls : List Call) → Synchronised n c s calls → Tight n c (after n c s calls)
tight n c s calls y r h = shown n c r calls s y.unwritten (inr (y.every r h))
