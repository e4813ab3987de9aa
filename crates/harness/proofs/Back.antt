-- What a call on a state says and writes back: fresh, open and issue write nothing back, and a step that is not refused says no refusal.
use mathlib.Core.Path.{◌≡◌, refl}
use mathlib.Core.List.{List, ◌++◌}
use mathlib.Core.Bool.{false}
use Prim.Native.Nat.{ℕ}
use Rattle.laws.proofs.Refusals.{refusal-0, refusal-hold, unless-by}
use Rattle.tracker.specs.declared.Access.{Access}
use Rattle.rules.specs.State.{State}
use Rattle.rules.specs.Calls as calls
use Rattle.rules.specs.Calls.{Out, issue, step_no, step}
use Rattle.rules.proofs.Keeps.{is_no}
use Rattle.rules.proofs.Calls.{step-free, step-not-refused}

module _ (n t l : ℕ) (bytes memory : List ℕ) where
  pub fresh-back : (calls.fresh n t l bytes memory).transfers.back ≡ 0
  unfolding calls.fresh
  fresh-back = unless-by _ _ (λ (o : Out). o.transfers.back ≡ 0) (λ e. refl) (λ p. refl)

  pub open-back : (calls.opened n t l bytes memory).transfers.back ≡ 0
  unfolding calls.opened
  open-back = unless-by _ _ (λ (o : Out). o.transfers.back ≡ 0) (λ e. refl) (λ p. refl)

module _ (s : State) (bytes memory : List ℕ) where
  pub issue-back : (x : ℕ) (a : Access) → (issue s bytes memory x a).transfers.back ≡ 0
  unfolding issue
  issue-back x a = unless-by _ _ (λ (o : Out). o.transfers.back ≡ 0) (λ e. refl) (λ p. refl)

  -- a step that is not refused says no refusal
  pub step-accepted : (x : ℕ) → step_no s bytes memory x ≡ 0 → is_no (step s bytes memory x).said ≡ false
  unfolding step_no
  step-accepted x e =
      let q = refusal-hold (calls.state_tests s bytes memory ++ calls.step_tests s.shape x s.trackers) refl e in
      let r = step-free s bytes memory q.0 q.1.0 x (refusal-0 (calls.step_tests s.shape x s.trackers) q.1.1) in
      step-not-refused s bytes memory q.0 q.1.0 x r.0 r.1
