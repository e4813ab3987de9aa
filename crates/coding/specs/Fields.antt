-- The numbers that the fields of a state hold: n and T, each line, and a tracker's group and value have 32 bits, its turns 16, its phase's level and its transfers 8 each.
use Rattle.std.specs.Prelude.{◌≡◌, ℕ, ◌≤◌, ◌<◌, length, get_or}
use Rattle.geometry.specs.TagMemory.{values, most_trackers, most_lines}
use Rattle.tracker.specs.declared.Tracker.{Tracker}
use Rattle.tracker.specs.Tracker.{level_of, most_turns}
use Rattle.tracker.specs.Transfers.{most_transfers}
use Rattle.rules.specs.State.{State, tracker_at}
use Rattle.coding.specs.Words.{most_level}

pub record TrackerFits (t : Tracker) : Type 0 where
  pub level : level_of t.phase ≤ most_level
  pub group : t.group < values
  pub value : t.value < values
  pub turns : t.turns ≤ most_turns
  pub fetched : t.transfers.fetched ≤ most_transfers
  pub back : t.transfers.back ≤ most_transfers

pub record Fits (s : State) : Type 0 where
  pub n : s.shape.n < values
  pub t : s.shape.t < values
  pub lined : length s.lines ≡ most_lines
  pub tracked : length s.trackers ≡ most_trackers
  pub lines : (i : ℕ) → i < most_lines → get_or s.lines i 0 < values
  pub trackers : (x : ℕ) → x < most_trackers → TrackerFits (tracker_at s.trackers x)
