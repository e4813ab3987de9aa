-- States that break one clause of "whole" and no other, computed: a clause that is left out or too wide fails at a value.
use mathlib.Core.Path.{◌≡◌, refl}
use mathlib.Core.Bool.{true, false}
use mathlib.Core.List.{[], ◌∷◌}
use Prim.Native.Nat.{ℕ}
use lib.ListN.{get_or, set, replicate}
use Rattle.geometry.specs.Shape.{shape_of, at_hand, below_top}
use Rattle.geometry.specs.TagMemory.{leaf_of, groups, map_block_of, map_byte_of, map_bit_of, index, map_blocks, in_limits_of}
use Rattle.laws.specs.Refusal.{refusal, unless}
use Rattle.laws.specs.Choice.{both, either, implies, no}
use Rattle.laws.specs.Bytes.{part, splice, fits, put_w}
use Rattle.laws.specs.Scan.{first, all, some}
use Rattle.laws.specs.Bits.{bit_of}
use Rattle.block.specs.Block.{bit_at, block_or0}
use Rattle.memory.specs.True.{cleared_map}
use Rattle.tracker.specs.declared.Phase.{Phase}
use Rattle.tracker.specs.declared.Phase.TheVariants.{Probe, Under, Set, Clear}
use Rattle.tracker.specs.declared.Access.{Access}
use Rattle.tracker.specs.Transfers.{none}
use Rattle.tracker.specs.Tracker.{read_of, write_of, issued, goes_to, asks_at, keeps_at}
use Rattle.line.specs.Word.{used, block_of, changed, holder, held, has, word, held_by}
use Rattle.line.specs.Find.{line_of, lowest_free}
use Rattle.rules.specs.State.{State, begun, lengths_right}
use Rattle.rules.specs.Whole.{limits, keeps, line_whole, level_whole, tracker_whole, whole}
use Rattle.rules.specs.Place.{rows_fit, place_line, place_hand, written_back, place_memory, bring_in}
use Rattle.rules.specs.Step.{let_go, descend, top, fit, turn_of}
use Rattle.rules.specs.Calls.{fresh, meets, meets_none, issue_no, issue, step_no, step, with_lines, with_tracker}
use Rattle.rules.specs.Run.{issues, steps, kept, does, ended}

-- two leaves and their map block, which is block 2; two trackers, three lines; nothing under way
abbrev rests : State
rests = begun (shape_of 2 2 3)

abbrev lined : ℕ → ℕ → State
lined i w = with_lines rests (set rests.lines i w)

-- tracker 0 at Leaf, with its map block in line 0
abbrev holding : State
holding = (ended (kept (fresh 2 2 3 (replicate 192 7) (replicate 192 9))) (issues 0 (write_of false 17 10) ∷ steps 0 ∷ [])).state

-- an access of tracker 0 at a phase: with its map block in line 0, or with nothing in a line
abbrev held_at : Access → Phase → State
held_at a p = with_tracker holding 0 (goes_to (issued a) p none)

abbrev loose_at : Access → Phase → State
loose_at a p = with_tracker rests 0 (goes_to (issued a) p none)

pub record Broken : Type 0 where
  pub rests-whole : whole rests ≡ true
  pub l-is-t : whole (begun (shape_of 2 2 2)) ≡ false
  pub hand-at-l : whole (begun (at_hand (shape_of 2 2 3) 3)) ≡ false
  pub line-past-l : whole (lined 3 (word 0 false 0)) ≡ false
  pub tracker-past-t : whole (with_tracker rests 2 (issued (read_of false 17))) ≡ false
  pub block-past-last : whole (lined 0 (word 3 false 0)) ≡ false
  pub two-lines : whole (with_lines rests (set (set rests.lines 0 (word 0 false 0)) 1 (word 0 false 0))) ≡ false
  pub names-no-holder : whole (lined 0 (word 2 false 1)) ≡ false
  pub names-other-block : whole (with_lines holding (set holding.lines 1 (word 0 false 1))) ≡ false
  pub group-past : whole (with_tracker rests 0 (issued (read_of false 32))) ≡ false
  pub holding-whole : whole holding ≡ true
  pub held-in-no-line : whole (with_lines holding rests.lines) ≡ false
  pub held-by-nobody : whole (with_lines holding (set holding.lines 0 (held_by (get_or holding.lines 0 0) 0))) ≡ false
  -- a tracker at Probe is bottom-up, one at Finish is a write
  pub probe-whole : whole (loose_at (read_of true 17) (Probe 0)) ≡ true
  pub probe-top-down : whole (loose_at (read_of false 17) (Probe 0)) ≡ false
  pub set-whole : whole (held_at (write_of false 17 10) (Set 0)) ≡ true
  pub set-of-read : whole (held_at (read_of false 17) (Set 0)) ≡ false
  pub clear_whole : whole (held_at (write_of false 17 10) (Clear 0)) ≡ true
  pub clear-of-read : whole (held_at (read_of false 17) (Clear 0)) ≡ false
  -- a phase is of a level below the top, which is 1
  pub probe-of-top : whole (loose_at (read_of true 17) (Probe 1)) ≡ false
  pub under-of-top : whole (loose_at (read_of true 17) (Under 1)) ≡ false
  pub set-of-top : whole (held_at (write_of false 17 10) (Set 1)) ≡ false
  pub clear-of-top : whole (held_at (write_of false 17 10) (Clear 1)) ≡ false

pub broken : Broken
unfolding both either implies no refusal unless leaf_of groups map_block_of map_byte_of map_bit_of index map_blocks below_top in_limits_of part splice fits put_w first all some bit_of bit_at block_or0 cleared_map used block_of changed holder held has word held_by line_of lowest_free lengths_right limits keeps level_whole line_whole tracker_whole whole rows_fit place_line place_hand written_back place_memory bring_in asks_at keeps_at let_go descend top fit turn_of fresh meets meets_none issue_no issue step_no step does ended
broken = record {
  rests-whole = refl;
  l-is-t = refl;
  hand-at-l = refl;
  line-past-l = refl;
  tracker-past-t = refl;
  block-past-last = refl;
  two-lines = refl;
  names-no-holder = refl;
  names-other-block = refl;
  group-past = refl;
  holding-whole = refl;
  held-in-no-line = refl;
  held-by-nobody = refl;
  probe-whole = refl;
  probe-top-down = refl;
  set-whole = refl;
  set-of-read = refl;
  clear_whole = refl;
  clear-of-read = refl;
  probe-of-top = refl;
  under-of-top = refl;
  set-of-top = refl;
  clear-of-top = refl;
}
