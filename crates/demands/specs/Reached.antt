-- Beyond demand 3: a last turn that is reached, so that nobody sizes for more than there is; and runs under the circle do exist.
use Rattle.std.specs.Prelude.{◌≡◌, Bool, List, ℕ}
use Rattle.cache.specs.declared.State.{State}
use Rattle.circle.specs.Order.{Order}
use Rattle.circle.specs.LastTurn.{last_turn}
use Rattle.demands.specs.Circle.{Note, answered, UnderTheCircle}

-- a session under the circle of T trackers in which an access of this kind, issued under it, was answered at its last turn, and says so
pub record Reached (t : ℕ) (write bottom : Bool) : Type 0 where
  pub order : Order t
  pub state : State
  pub bytes : List ℕ
  pub memory : List ℕ
  pub place : ℕ
  pub notes : ℕ → Note
  pub run : UnderTheCircle t order state bytes memory place notes
  pub x : ℕ
  pub at_last : notes x ≡ answered write bottom (last_turn t write bottom) (last_turn t write bottom)
