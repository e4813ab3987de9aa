-- What each call on a state says is no refusal, or one that has a name.
use mathlib.Core.Path.{◌≡◌, refl}
use mathlib.Core.List.{List, [], ◌∷◌}
use mathlib.Core.Bool.{Bool, true, false}
use mathlib.Core.Logic.{⊎_elim}
use Prim.Native.Nat.{ℕ, ◌<◌}
use native.Mathlib.Omega.{arith}
use Rattle.laws.specs.Choice.{pick}
use Rattle.laws.specs.declared.Refusal.{Refusal}
use Rattle.laws.specs.declared.Refusal.TheVariants.{OutsideLimits, OtherLength, NotTrue, BrokenState, NoTracker, NoGroup, BusyTracker, IdleTracker, SharedGroup}
use Rattle.laws.specs.Refusal.{Tests, number, refusal}
use Rattle.laws.proofs.Refusals.{refused-or-not, unless-by}
use Rattle.tracker.specs.declared.Access.{Access}
use Rattle.tracker.specs.Answer.{Said, ok, wait, moved, read, done, same, no}
use Rattle.rules.specs.State.{State}
use Rattle.rules.specs.Calls as calls
use Rattle.rules.specs.Calls.{Out, issue_no, issue, step_no, step, drain_no, drain, show_no}
use Rattle.rules.proofs.Keeps.{is_no}
use Rattle.cache.proofs.Refusals.{step-refused}
use Rattle.harness.specs.Told.{Told}
use Rattle.harness.proofs.Back.{step-accepted}

-- a number that a refusal has
abbrev pub Named : ℕ → Type 0
Named c = (r : Refusal) × (number r ≡ c)

abbrev AllNamed : Tests → Type 0
AllNamed [] = Unit {0}
AllNamed (t ∷ ts) = Named t.1 × AllNamed ts

-- the number of the first test that fails is a refusal's, where each test's is
pick-named : (b : Bool) (k c : ℕ) → (0 < k → Named k) → Named c → 0 < pick b k c → Named (pick b k c)
pick-named true k c f n h = f h
pick-named false k c f n h = n

pub refusal-named : (ts : Tests) → AllNamed ts → 0 < refusal ts → Named (refusal ts)
unfolding refusal
refusal-named [] n h = absurd (omega arith)
refusal-named (t ∷ ts) n h = pick-named t.0 (refusal ts) t.1 (refusal-named ts n.1) n.0 h

module _ (n t l : ℕ) (bytes memory : List ℕ) where
  pub fresh-told : Told (calls.fresh n t l bytes memory).said
  unfolding calls.fresh
  fresh-told = unless-by _ _ (λ (o : Out). Told o.said) (λ e. tt) (λ p. refusal-named _ ((OutsideLimits, refl), ((OtherLength, refl), tt)) p)

  pub open-told : Told (calls.opened n t l bytes memory).said
  unfolding calls.opened
  open-told = unless-by _ _ (λ (o : Out). Told o.said) (λ e. tt) (λ p. refusal-named _ ((OutsideLimits, refl), ((OtherLength, refl), ((NotTrue, refl), tt))) p)

module _ (s : State) (bytes memory : List ℕ) where
  issue-named : (x : ℕ) (a : Access) → 0 < issue_no s bytes memory x a → Named (issue_no s bytes memory x a)
  unfolding issue_no
  issue-named x a p = refusal-named _ ((BrokenState, refl), ((OtherLength, refl), ((NoTracker, refl), ((NoGroup, refl), ((BusyTracker, refl), ((SharedGroup, refl), tt)))))) p

  pub issue-told : (x : ℕ) (a : Access) → Told (issue s bytes memory x a).said
  unfolding issue
  issue-told x a = unless-by _ _ (λ (o : Out). Told o.said) (λ e. tt) (λ p. issue-named x a p)

  drain-named : 0 < drain_no s bytes memory → Named (drain_no s bytes memory)
  unfolding drain_no
  drain-named p = refusal-named _ ((BrokenState, refl), ((OtherLength, refl), ((BusyTracker, refl), tt))) p

  pub drain-told : Told (drain s bytes memory).said
  unfolding drain
  drain-told = unless-by _ _ (λ (o : Out). Told o.said) (λ e. tt) drain-named

  pub show-named : (k : ℕ) → 0 < show_no s bytes memory k → Named (show_no s bytes memory k)
  unfolding show_no
  show-named k p = refusal-named _ ((BrokenState, refl), ((OtherLength, refl), ((NoGroup, refl), ((BusyTracker, refl), tt)))) p

  step-named : (x : ℕ) → 0 < step_no s bytes memory x → Named (step_no s bytes memory x)
  unfolding step_no
  step-named x p = refusal-named _ ((BrokenState, refl), ((OtherLength, refl), ((NoTracker, refl), ((IdleTracker, refl), tt)))) p

  pub step-told : (x : ℕ) → Told (step s bytes memory x).said
  step-told x =
      ⊎_elim (λ e. not-no (step s bytes memory x).said (step-accepted s bytes memory x e))
      (λ p. rw (step-refused s bytes memory x (step_no s bytes memory x) refl p) (step-named x p)) (refused-or-not (step_no s bytes memory x))
    where
      not-no : (d : Said) → is_no d ≡ false → Told d
      not-no ok e = tt
      not-no wait e = tt
      not-no moved e = tt
      not-no (read v k) e = tt
      not-no (done k) e = tt
      not-no (same k) e = tt
      not-no (no c) e = cc
