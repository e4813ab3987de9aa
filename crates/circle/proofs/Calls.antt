-- What a call does in a ready state: it is refused and changes nothing, or an access is issued, a busy tracker is stepped, the lines are drained.
use mathlib.Core.Path.{◌≡◌, refl, sym, ap, ◌∙◌, subst}
use mathlib.Core.Bool.{Bool, true, false}
use mathlib.Core.List.{List}
use mathlib.Core.Logic.{◌⊎◌, inl, inr, ⊎_elim}
use Prim.Native.Nat.{ℕ, ◌<◌}
use native.Mathlib.Omega.{arith}
use Rattle.laws.specs.Choice.{pick}
use Rattle.laws.proofs.Choice.{true-or-false}
use Rattle.laws.specs.Refusal.{refusal, unless}
use Rattle.laws.proofs.Refusals.{refused-or-not}
use Rattle.tracker.specs.declared.Access.{Access}
use Rattle.tracker.specs.Tracker.{is_idle}
use Rattle.tracker.specs.Tracker as Tracker
use Rattle.tracker.specs.Answer.{ok, no}
use Rattle.rules.specs.State.{lengths_right}
use Rattle.rules.specs.Whole.{whole}
use Rattle.rules.specs.Calls.{Out, accepted, with_tracker, issue_tests, issue_no, issue, step_tests, step_no, step, all_idle, drains_to, drain_no, drain}
use Rattle.rules.specs.Calls as Calls
use Rattle.rules.specs.Run.{Call, issues, steps, drains, lends, Kept, kept, rows_of, elsewhere, does}
use Rattle.rules.proofs.Calls.{issue-refused, issue-accepted, issue-free, step-refused, step-free, drain-is, drain-busy}
use Rattle.circle.proofs.Circle.{tracker_in}
use Rattle.circle.proofs.Ready.{right, Ready, issue-keeps, step_keeps, drain-keeps, never-refused}

-- the call without the other bytes that it lends
abbrev pub bare : Call → Call
bare (issues x access) = issues x access
bare (steps x) = steps x
bare drains = drains
bare (lends b m c) = bare c

pub data Outcome (k : Kept) : Call → Out → Type 0 where
  refused : {c : Call} {o : Out} (r : ℕ) → o.said ≡ no r → kept o ≡ k → Outcome k c o
  issued : (x : ℕ) (access : Access) → x < k.state.shape.t → is_idle (tracker_in k x) ≡ true
      → does k (issues x access) ≡ accepted (with_tracker k.state x (Tracker.issued access)) k.bytes k.memory
      → Outcome k (issues x access) (does k (issues x access))
  stepped : (x : ℕ) → x < k.state.shape.t → is_idle (tracker_in k x) ≡ false → Outcome k (steps x) (does k (steps x))
  drained : all_idle k.state ≡ true → does k drains ≡ drains_to k.state (rows_of k) → Outcome k drains (does k drains)

-- a call refused in a state that it leaves, with other bytes lent
record Refuses (k : Kept) (o : Out) : Type 0 where
  number : ℕ
  said-it : o.said ≡ no number
  state-is : o.state ≡ k.state

lent-refuses : (k : Kept) (q : Bool) (a b : Out) → Refuses k a → (q ≡ false → Refuses k b) → Refuses k (pick q a (elsewhere b k))
lent-refuses k true a b u f = u
lent-refuses k false a b u f = let v = f refl in record { number = v.number; said-it = v.said-it; state-is = v.state-is }

-- a length that is wrong: 2
wrong : (k : Kept) → whole k.state ≡ true → right k ≡ false → (c : Call) → Refuses k (does k c)
unfolding does issue issue_no step step_no drain drain_no refusal unless
wrong k w e (issues x access) = rw (w, e) (record { number = 2; said-it = refl; state-is = refl })
wrong k w e (steps x) = rw (w, e) (record { number = 2; said-it = refl; state-is = refl })
wrong k w e drains = rw (w, e) (record { number = 2; said-it = refl; state-is = refl })
wrong k w e (lends b m c) =
    lent-refuses k (lengths_right k.state.shape b m) (does k c) (does (record { state = k.state; bytes = b; memory = m }) c) (wrong k w e c)
    (λ f. let v = wrong (record { state = k.state; bytes = b; memory = m }) w f c in record { number = v.number; said-it = v.said-it; state-is = v.state-is })

module _ (k : Kept) (s : Ready k) where
  refused-out : (c : Call) (r : ℕ) → Outcome k c (Calls.refused r k.state k.bytes k.memory)
  refused-out c r = refused r refl refl

  issue-outcome : (x : ℕ) (access : Access) → Outcome k (issues x access) (does k (issues x access))
  unfolding does
  issue-outcome x access =
      ⊎_elim (λ e. let h = issue-free k.state k.bytes k.memory s.0 s.1 x access e in
      issued x access h.0 h.2 (issue-accepted k.state k.bytes k.memory s.0 s.1 x access e))
      (λ h. rw (issue-refused k.state k.bytes k.memory s.0 s.1 x access h) (refused-out (issues x access) _))
      (refused-or-not (refusal (issue_tests k.state.shape x access k.state.trackers)))

  step-outcome : (x : ℕ) → Outcome k (steps x) (does k (steps x))
  unfolding does
  step-outcome x =
      ⊎_elim (λ e. let h = step-free k.state k.bytes k.memory s.0 s.1 x e in stepped x h.0 h.1)
      (λ h. rw (step-refused k.state k.bytes k.memory s.0 s.1 x h) (refused-out (steps x) _))
      (refused-or-not (refusal (step_tests k.state.shape x k.state.trackers)))

  drain-outcome : Outcome k drains (does k drains)
  unfolding does
  drain-outcome = at (true-or-false (all_idle k.state))
    where
      at : (all_idle k.state ≡ true) ⊎ (all_idle k.state ≡ false) → Outcome k drains (does k drains)
      at (inl e) = drained e (drain-is k.state k.bytes k.memory s.0 s.1 e)
      at (inr e) = rw (drain-busy k.state k.bytes k.memory s.0 s.1 e) (refused-out drains 7)

  lent-outcome : (b m : List ℕ) (c : Call) (q : Bool) (a o : Out) → Outcome k (bare c) a → (q ≡ false → Refuses k o) → Outcome k (bare c) (pick q a (elsewhere o k))
  lent-outcome b m c true a o u f = u
  lent-outcome b m c false a o u f = let v = f refl in refused {o = elsewhere o k} v.number v.said-it (rw v.state-is refl)

  pub outcome : (c : Call) → Outcome k (bare c) (does k c)
  unfolding does
  outcome (issues x access) = issue-outcome x access
  outcome (steps x) = step-outcome x
  outcome drains = drain-outcome
  outcome (lends b m c) =
      lent-outcome b m c (lengths_right k.state.shape b m) (does k c) (does (record { state = k.state; bytes = b; memory = m }) c) (outcome c)
      (λ f. let v = wrong (record { state = k.state; bytes = b; memory = m }) s.0 f c in record { number = v.number; said-it = v.said-it; state-is = v.state-is })

-- `ok` is no refusal
pub ok-not-no : {c : ℕ} → ok ≡ no c → ⊥
ok-not-no e = let z : ◌≡◌ {A = ℕ} 0 1 = cc in omega arith

-- A refused call changes nothing.
pub refused-same : (k : Kept) → Ready k → (c : Call) (r : ℕ) → (does k c).said ≡ no r → kept (does k c) ≡ k
refused-same k s c r e = at (bare c) (does k c) (outcome k s c) e
  where
    at : (c' : Call) (o : Out) → Outcome k c' o → o.said ≡ no r → kept o ≡ k
    at c' o (refused r' q same) e = same
    at c' o (issued x access p q is) e = absurd (ok-not-no (sym (ap (λ (a : Out). a.said) is) ∙ e))
    at c' o (stepped x p q) e = absurd (never-refused k s x r p q e)
    at c' o (drained q is) e = absurd (ok-not-no (sym (ap (λ (a : Out). a.said) is) ∙ e))

-- Every call keeps a ready state ready.
pub call-keeps : (k : Kept) → Ready k → (c : Call) → Ready (kept (does k c))
call-keeps k s c = at (bare c) (does k c) (outcome k s c)
  where
    at : (c' : Call) (o : Out) → Outcome k c' o → Ready (kept o)
    at c' o (refused r q same) = subst (λ (z : Kept). Ready z) (sym same) s
    at c' o (issued x access p q is) = issue-keeps k s x access
    at c' o (stepped x p q) = step_keeps k s x
    at c' o (drained q is) = drain-keeps k s
