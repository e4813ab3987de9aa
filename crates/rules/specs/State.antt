-- What the rules speak of: the state, and the rows of lines, line bytes and memory that a step works on.
use Rattle.std.specs.Prelude.{List, Bool, ℕ, ◌*◌, eqb, length, get_or, replicate}
use Rattle.laws.specs.Choice.{both}
use Rattle.geometry.specs.declared.Shape.{Shape}
use Rattle.geometry.specs.Shape.{shape_of, top_of}
use Rattle.geometry.specs.TagMemory.{length_of, most_trackers, most_lines}
use Rattle.tracker.specs.declared.Tracker.{Tracker}
use Rattle.tracker.specs.Tracker.{idle}

-- "There are T trackers .. and L lines" over n leaves: the shape; each line is a number (Rattle.line.specs.Word)
pub record State : Type 0 where
  pub shape : Shape
  pub lines : List ℕ
  pub trackers : List Tracker

pub record Rows : Type 0 where
  pub lines : List ℕ
  pub bytes : List ℕ
  pub memory : List ℕ

abbrev pub tracker_at : List Tracker → ℕ → Tracker
tracker_at ts x = get_or ts x idle

-- "The line bytes are a lent buffer of 64 x L", and memory has its length
unfoldable pub lengths_right : Shape → List ℕ → List ℕ → Bool
lengths_right shape bytes memory = both (eqb (length bytes) (64 * shape.l)) (eqb (length memory) (length_of (top_of shape) shape.n))

-- "After fresh and open every line is free, every tracker idle, and their other fields zero"
abbrev pub begun : Shape → State
begun shape = record { shape = shape; lines = replicate most_lines 0; trackers = replicate most_trackers idle }

-- "refused, they return one that is zero throughout"
abbrev pub zero_state : State
zero_state = begun (shape_of 0 0 0)
