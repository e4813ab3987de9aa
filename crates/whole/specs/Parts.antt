-- A state by its parts, as the functions here are handed them.
use Rattle.std.specs.Prelude.{List, Bool, ℕ, ◌+◌, ◌-◌, ◌*◌, leb}
use Rattle.laws.specs.Choice.{both, implies}
use Rattle.geometry.specs.declared.Shape.{Shape}
use Rattle.geometry.specs.Shape.{top_of}
use Rattle.geometry.specs.TagMemory.{in_limits_of, most_trackers, most_lines}
use Rattle.tracker.specs.declared.Tracker.{Tracker}
use Rattle.line.specs.Word.{block_of, holder, held}
use Rattle.rules.specs.State.{State, tracker_at}
use Rattle.rules.specs.Whole.{keeps}

abbrev pub state_of : Shape → List ℕ → List Tracker → State
state_of shape lines trackers = record { shape = shape; lines = lines; trackers = trackers }

-- the limits, number by number
unfoldable pub limits_of : (top n t l : ℕ) → Bool
limits_of top n t l = both (in_limits_of top n) (both (both (leb 1 t) (leb t most_trackers)) (both (leb (top * t + 1) l) (leb l most_lines)))

-- a line that names a holder names a tracker that keeps its block
unfoldable pub holder_whole : Shape → List Tracker → (w : ℕ) → Bool
holder_whole shape trackers w =
    implies (held w) (both (leb (holder w) shape.t) (keeps (top_of shape) shape.n (tracker_at trackers (holder w - 1)) (block_of w)))
