-- A run of the rules under the circle: turns go round the trackers, from any whole state.
use mathlib.Core.Path.{◌≡◌}
use mathlib.Core.Bool.{Bool, true, false}
use Prim.Native.Nat.{ℕ, suc, ◌<◌}
use Rattle.tracker.specs.declared.Access.{Access}
use Rattle.tracker.specs.declared.Tracker.{Tracker}
use Rattle.tracker.specs.Tracker.{is_idle}
use Rattle.tracker.specs.Answer.{ok, no}
use Rattle.rules.specs.State.{tracker_at, lengths_right}
use Rattle.rules.specs.Whole.{whole}
use Rattle.rules.specs.Run.{Call, issues, steps, drains, Kept, kept, does}
use Rattle.circle.specs.Order.{next, Order, becomes}

-- tracker x of what a run passes on
abbrev pub tracker_in : Kept → ℕ → Tracker
tracker_in k x = tracker_at k.state.trackers x

-- A run under the circle: what is passed on from call to call, the place whose tracker has the next turn, and two marks kept beside:
-- `given x`, the turns that the access at tracker x was given since its issue, and `under x`, whether it was issued under this circle.
pub data Circle (t : ℕ) (o : Order t) : Kept → ℕ → (given : ℕ → ℕ) → (under : ℕ → Bool) → Type 0 where
  -- It may begin in any whole state of T trackers with lengths that are right, at any place. Accesses may be under way; none of them is under this circle.
  begins : (k : Kept) (i : ℕ) (given : ℕ → ℕ) → k.state.shape.t ≡ t → whole k.state ≡ true
      → lengths_right k.state.shape k.bytes k.memory ≡ true → i < t → Circle t o k i given (λ x. false)
  -- The tracker at the place is busy: it is given a turn, and the next place comes.
  turned : {k : Kept} {i : ℕ} {given : ℕ → ℕ} {under : ℕ → Bool} → Circle t o k i given under → is_idle (tracker_in k (o.tracker i)) ≡ false
      → Circle t o (kept (does k (steps (o.tracker i)))) (next t i) (becomes given (o.tracker i) (suc (given (o.tracker i)))) under
  -- It is idle: it is passed over.
  passed : {k : Kept} {i : ℕ} {given : ℕ → ℕ} {under : ℕ → Bool} → Circle t o k i given under → is_idle (tracker_in k (o.tracker i)) ≡ true
      → Circle t o k (next t i) given under
  -- Between turns, any number of times: an access is issued, which has been given no turn,
  issued : {k : Kept} {i : ℕ} {given : ℕ → ℕ} {under : ℕ → Bool} → Circle t o k i given under → (x : ℕ) (access : Access)
      → (does k (issues x access)).said ≡ ok → Circle t o (kept (does k (issues x access))) i (becomes given x 0) (becomes under x true)
  -- or the lines are drained,
  drained : {k : Kept} {i : ℕ} {given : ℕ → ℕ} {under : ℕ → Bool} → Circle t o k i given under → (does k drains).said ≡ ok
      → Circle t o (kept (does k drains)) i given under
  -- or any call is refused, which gives nobody a turn.
  refused : {k : Kept} {i : ℕ} {given : ℕ → ℕ} {under : ℕ → Bool} → Circle t o k i given under → (c : Call) (r : ℕ) → (does k c).said ≡ no r
      → Circle t o (kept (does k c)) i given under
