-- The longest wait, of the rules: under the circle, from any whole state, every access issued under it ends by its last turn and says how many turns it was given.
use mathlib.Core.Path.{◌≡◌}
use mathlib.Core.Bool.{Bool, true, false}
use Prim.Native.Nat.{ℕ, suc, ◌≤◌, ◌<◌, min}
use Rattle.tracker.specs.Tracker.{is_idle, most_turns}
use Rattle.tracker.specs.Answer.{no}
use Rattle.rules.specs.Run.{steps, Kept, does}
use Rattle.circle.specs.Order.{Order}
use Rattle.circle.proofs.Ending.{Ending}
use Rattle.circle.specs.LastTurn.{last_turn_of}
use Rattle.circle.proofs.Circle.{tracker_in, Circle}

-- What holds of each state of a run under the circle, of each of the T trackers.
pub record InTime (t : ℕ) (k : Kept) (given : ℕ → ℕ) (under : ℕ → Bool) : Type 0 where
  -- An access issued under the circle that is still busy has been given fewer turns than its last: so it is answered by then.
  pub busy : (x : ℕ) → x < t → under x ≡ true → is_idle (tracker_in k x) ≡ false → given x < last_turn_of k.state.shape t (tracker_in k x).write (tracker_in k x).bottom
  -- The step that ends it says the turns that it was given, this one counted, up to 65,535; and they are no more than its last.
  pub ending : (x turns : ℕ) → x < t → under x ≡ true → Ending (does k (steps x)).said turns
      → (turns ≡ min (suc (given x)) most_turns) × (suc (given x) ≤ last_turn_of k.state.shape t (tracker_in k x).write (tracker_in k x).bottom)
  -- A busy tracker's step is never refused, whenever its access was issued.
  pub accepted : (x c : ℕ) → x < t → is_idle (tracker_in k x) ≡ false → (does k (steps x)).said ≡ no c → ⊥

-- It holds for any number of trackers in any order, wherever the circle began and whatever was called since.
abbrev pub LongestWait : Type 0
LongestWait = (t : ℕ) (o : Order t) (k : Kept) (i : ℕ) (given : ℕ → ℕ) (under : ℕ → Bool) → Circle t o k i given under → InTime t k given under
