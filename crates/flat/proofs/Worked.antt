-- A run of two trackers with an eviction, computed, beside the flat machine: the rules' answers, the machine's, and the memory at the end.
use mathlib.Core.Path.{◌≡◌, refl}
use mathlib.Core.Bool.{true, false}
use mathlib.Core.List.{List, [], ◌∷◌}
use lib.ListN.{replicate}
use Rattle.geometry.specs.Shape.{below_top}
use Rattle.geometry.specs.TagMemory.{leaf_of, byte_of, groups, map_block_of, map_byte_of, map_bit_of, index, map_blocks, in_limits_of}
use Rattle.laws.specs.Refusal.{refusal, unless}
use Rattle.laws.specs.Choice.{both, either, implies, no}
use Rattle.laws.specs.Bytes.{part, splice, fits, put_w, value, bytes, number_at}
use Rattle.laws.specs.Scan.{first, all, some}
use Rattle.laws.specs.Bits.{bit_of, with_bit}
use Rattle.block.specs.Block.{bit_at, put_bit, all_zero, block_or0}
use Rattle.memory.specs.PlainReading.{plain_group}
use Rattle.tracker.specs.Tracker.{read_of, write_of, asks_at, keeps_at}
use Rattle.tracker.specs.Answer.{Said, ok, wait, moved, read, done}
use Rattle.line.specs.Word.{used, block_of, changed, holder, held, has, word, held_by, cleaned}
use Rattle.line.specs.Find.{line_of, lowest_free, loose_from, victim, after}
use Rattle.rules.specs.State.{lengths_right}
use Rattle.rules.specs.Whole.{limits, keeps, holds, line_whole, level_whole, tracker_whole, whole}
use Rattle.rules.specs.Copies.{fetches, backs, tally}
use Rattle.rules.specs.Place.{rows_fit, place_line, place_hand, written_back, back_of, place_memory, place_copies, bring_in, create, drained, drain_copies}
use Rattle.rules.specs.Step.{let_go, probe, descend, top, leaf_read, put_in, write_under1, write_under0, leaf_write, under_bit, under, finish_below, finish, fit, turn_of}
use Rattle.rules.specs.Calls.{fresh, meets, meets_none, issue_no, issue, step_no, step, all_idle, drain_no, drain}
use Rattle.rules.specs.Run.{Call, issues, steps, drains, Kept, kept, does, answers, ended}
use Rattle.flat.specs.Levels.{reaches}
use Rattle.flat.specs.Flat.{tagged, some_holds, flat_issue, flat_step, flat_drain, flat_does, flat_answers, flat_ended}
use Rattle.flat.specs.Demand.{unseen, given, flat_of}

-- a fresh memory of four leaves over stale bytes, two trackers, three lines
abbrev begun : Kept
begun = kept (fresh 4 2 3 (replicate 192 7) (replicate 320 9))

-- A read meets the leaf of a write that is not yet done; the next write waits for it; a third leaf finds no free line, and the first, changed, is written back;
-- it is brought in again and read; a leaf is emptied; a drain.
abbrev calls : List Call
calls = issues 0 (write_of false 17 10) ∷ issues 1 (read_of true 18) ∷ steps 0 ∷ steps 0 ∷ steps 1
    ∷ issues 1 (write_of false 33 11) ∷ steps 1 ∷ steps 0 ∷ steps 1 ∷ steps 1
    ∷ issues 0 (write_of true 49 12) ∷ steps 0 ∷ steps 0 ∷ steps 1 ∷ steps 0 ∷ steps 0 ∷ steps 0
    ∷ issues 1 (read_of false 17) ∷ steps 1 ∷ steps 1
    ∷ issues 0 (write_of false 33 0) ∷ steps 0 ∷ steps 0 ∷ steps 0
    ∷ drains ∷ []

abbrev said : List Said
said = ok ∷ ok ∷ moved ∷ moved ∷ read 0 1
    ∷ ok ∷ wait ∷ done 3 ∷ moved ∷ moved
    ∷ ok ∷ moved ∷ wait ∷ done 4 ∷ moved ∷ moved ∷ done 5
    ∷ ok ∷ moved ∷ read 10 2
    ∷ ok ∷ moved ∷ moved ∷ done 3
    ∷ ok ∷ []

pub record Worked : Type 0 where
  pub accepted : (fresh 4 2 3 (replicate 192 7) (replicate 320 9)).said ≡ ok
  pub answered : answers begun calls ≡ said
  pub flat-answered : flat_answers (flat_of begun) (given begun calls) ≡ said
  -- lines were taken from other blocks: the hand has moved on
  pub evicted : (ended begun calls).state.shape.hand ≡ 2
  pub reads : plain_group 4 (ended begun calls).memory 17 ≡ 10
  pub reads-emptied : plain_group 4 (ended begun calls).memory 33 ≡ 0
  pub row : (flat_ended (flat_of begun) (given begun calls)).row 17 ≡ 10
  pub row-emptied : (flat_ended (flat_of begun) (given begun calls)).row 33 ≡ 0

pub worked : Worked
unfolding both either implies no refusal unless leaf_of byte_of groups map_block_of map_byte_of map_bit_of index map_blocks part splice fits put_w value bytes number_at first all some bit_of with_bit below_top in_limits_of bit_at put_bit all_zero block_or0 plain_group used block_of changed holder held has word held_by cleaned line_of lowest_free loose_from victim after lengths_right limits keeps holds level_whole line_whole tracker_whole whole rows_fit place_line place_hand fetches backs tally written_back back_of place_memory place_copies bring_in create drained drain_copies asks_at keeps_at let_go probe descend top leaf_read put_in write_under1 write_under0 leaf_write under_bit under finish_below finish fit turn_of fresh meets meets_none issue_no issue step_no step all_idle drain_no drain does answers ended reaches tagged some_holds flat_issue flat_step flat_drain flat_does flat_answers flat_ended unseen given
worked = record {
  accepted = refl;
  answered = refl;
  flat-answered = refl;
  evicted = refl;
  reads = refl;
  reads-emptied = refl;
  row = refl;
  row-emptied = refl;
}
