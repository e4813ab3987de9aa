-- Case R of 01, as 02 has it, and other runs that meet each branch of a step, computed through the rules on real bytes: a wrong rule fails at a value.
use mathlib.Core.Path.{◌≡◌, refl}
use mathlib.Core.Bool.{true, false}
use mathlib.Core.List.{List, [], ◌∷◌, ◌++◌}
use Prim.Native.Nat.{ℕ}
use lib.ListN.{replicate}
use Rattle.geometry.specs.Shape.{below_top}
use Rattle.geometry.specs.TagMemory.{leaf_of, byte_of, groups, map_block_of, map_byte_of, map_bit_of, index, map_blocks, in_limits_of}
use Rattle.laws.specs.Refusal.{refusal, unless}
use Rattle.laws.specs.Choice.{both, either, implies, no}
use Rattle.laws.specs.Bytes.{part, splice, fits, put_w, value, bytes, number_at}
use Rattle.laws.specs.Scan.{first, all, some}
use Rattle.laws.specs.Bits.{bit_of, with_bit}
use Rattle.block.specs.Block.{bit_at, put_bit, all_zero, block_or0}
use Rattle.memory.specs.PlainReading.{leaf_bit, plain_group}
use Rattle.memory.specs.True.{true_at, is_true, cleared_map}
use Rattle.tracker.specs.declared.Phase.TheVariants.{Idle}
use Rattle.tracker.specs.declared.Transfers.{Transfers}
use Rattle.tracker.specs.Transfers.{none}
use Rattle.tracker.specs.Tracker.{read_of, write_of, asks_at, keeps_at}
use Rattle.tracker.specs.Answer.{ok, wait, moved, read, done, same, no as says-no}
use Rattle.line.specs.Word.{used, block_of, changed, holder, held, has, word, held_by, cleaned}
use Rattle.line.specs.Find.{line_of, lowest_free, loose_from, victim, after}
use Rattle.rules.specs.State.{lengths_right, tracker_at}
use Rattle.rules.specs.Whole.{limits, keeps, line_whole, level_whole, tracker_whole, whole}
use Rattle.rules.specs.Copies.{Copy, fetch, back, fetches, backs, tally}
use Rattle.rules.specs.Place.{rows_fit, place_line, place_hand, written_back, back_of, place_memory, place_copies, bring_in, create, bring_copies, create_copies, drained, drain_copies}
use Rattle.rules.specs.Step.{let_go, probe, descend, top, leaf_read, put_in, write_under1, write_under0, leaf_write, under_bit, under, finish_below, finish, fit, turn_of}
use Rattle.rules.specs.Copied.{copies}
use Rattle.rules.specs.Calls.{with_tracker, fresh, opened, meets, meets_none, issue_no, issue, step_no, step, all_idle, drain_no, drain, show_no, shown_bit, show}
use Rattle.rules.specs.Run.{Call, issues, steps, drains, lends, Kept, kept, rows_of, does, answers, ended, transfers}

-- a fresh memory of n leaves over stale bytes, two trackers, three lines
abbrev two-leaves : Kept
two-leaves = kept (fresh 2 2 3 (replicate 192 7) (replicate 192 9))

abbrev four-leaves : Kept
four-leaves = kept (fresh 4 2 3 (replicate 192 7) (replicate 320 9))

-- a top-down write of v by tracker 0, to its end by setting the bit; and a top-down read
abbrev creates : ℕ → ℕ → List Call
creates g v = issues 0 (write_of false g v) ∷ steps 0 ∷ steps 0 ∷ steps 0 ∷ []

abbrev reads : ℕ → List Call
reads g = issues 0 (read_of false g) ∷ steps 0 ∷ steps 0 ∷ []

-- so many fetched and so many written back
abbrev sums : ℕ → ℕ → Transfers
sums i o = record { fetched = i; back = o }

-- tracker 0 idle, and yet with sums
abbrev with-sums : Kept
with-sums = record {
  state = with_tracker two-leaves.state 0 (record { phase = Idle; write = false; bottom = false; group = 0; value = 0; turns = 0; transfers = sums 1 1 });
  bytes = two-leaves.bytes;
  memory = two-leaves.memory;
}

-- the copies of the step that tracker 0 is to make after these calls
abbrev next-copies : Kept → List Call → List Copy
next-copies k cs = let o = ended k cs in copies o.state.shape (tracker_at o.state.trackers 0) (rows_of o)

pub record Worked : Type 0 where
  -- Case R
  pub case-r : answers two-leaves
      (issues 0 (write_of false 17 10) ∷ issues 1 (write_of false 17 0) ∷ steps 0 ∷ steps 1 ∷ steps 0 ∷ steps 0 ∷ steps 1 ∷ steps 1 ∷ steps 1
      ∷ issues 0 (read_of true 17) ∷ steps 0 ∷ steps 0 ∷ drains ∷ [])
      ≡ ok ∷ says-no 13 ∷ moved ∷ says-no 8 ∷ moved ∷ done 3 ∷ says-no 8 ∷ says-no 8 ∷ says-no 8 ∷ ok ∷ read 10 1 ∷ says-no 8 ∷ ok ∷ []
  -- two writes under one map block: the second waits for the first, and sets its own bit; its group is 0, as an idle tracker's fields have it
  pub in-turn : answers two-leaves
      (issues 0 (write_of false 17 10) ∷ issues 1 (write_of false 0 11) ∷ steps 0 ∷ steps 1 ∷ steps 0 ∷ steps 0 ∷ steps 1 ∷ steps 1 ∷ steps 1
      ∷ issues 0 (read_of true 17) ∷ steps 0 ∷ drains ∷ [])
      ≡ ok ∷ ok ∷ moved ∷ wait ∷ moved ∷ done 3 ∷ moved ∷ moved ∷ done 4 ∷ ok ∷ read 10 1 ∷ ok ∷ []
  -- a leaf created under bit 0 has zeros beside the group, not the stale bytes; a bottom-up read and write meet it in its line
  pub neighbour : answers two-leaves
      (creates 17 10 ++ (reads 18 ++ (issues 1 (read_of true 17) ∷ steps 1 ∷ issues 1 (write_of true 17 10) ∷ steps 1 ∷ [])))
      ≡ ok ∷ moved ∷ moved ∷ done 3 ∷ ok ∷ moved ∷ read 0 2 ∷ ok ∷ read 10 1 ∷ ok ∷ same 1 ∷ []
  -- between Leaf and Finish the map block stays held
  pub held-to-finish : answers two-leaves
      (issues 0 (write_of false 17 10) ∷ issues 1 (read_of false 18) ∷ steps 0 ∷ steps 0 ∷ steps 1 ∷ steps 0 ∷ steps 1 ∷ steps 1 ∷ reads 17)
      ≡ ok ∷ ok ∷ moved ∷ moved ∷ wait ∷ done 3 ∷ moved ∷ read 0 3 ∷ ok ∷ moved ∷ read 10 2 ∷ []
  -- a leaf that a write empties is dropped before its bit is cleared, and Probe finds it no more; created again, it has no stale bytes
  pub emptied : answers two-leaves
      (creates 17 10 ++ (issues 0 (write_of false 17 0) ∷ steps 0 ∷ steps 0 ∷ issues 1 (read_of false 18) ∷ steps 1 ∷ steps 0 ∷ steps 1
      ∷ issues 1 (read_of true 17) ∷ steps 1 ∷ steps 1 ∷ (creates 18 5 ++ reads 17)))
      ≡ ok ∷ moved ∷ moved ∷ done 3 ∷ ok ∷ moved ∷ moved ∷ ok ∷ wait ∷ done 3 ∷ read 0 2
      ∷ ok ∷ moved ∷ read 0 2 ∷ ok ∷ moved ∷ moved ∷ done 3 ∷ ok ∷ moved ∷ read 0 2 ∷ []
  -- a map block that a write empties, at the top, is stored: the bit that memory has of it is not read again
  pub top-stored : answers two-leaves (creates 17 10 ++ (drains ∷ issues 0 (write_of false 17 0) ∷ steps 0 ∷ steps 0 ∷ steps 0 ∷ reads 17))
      ≡ ok ∷ moved ∷ moved ∷ done 3 ∷ ok ∷ ok ∷ moved ∷ moved ∷ done 3 ∷ ok ∷ read 0 1 ∷ says-no 8 ∷ []
  -- "same" at Map under bit 0 and at Leaf under bit 1
  pub same-twice : answers two-leaves (issues 0 (write_of false 17 0) ∷ steps 0 ∷ (creates 17 10 ++ (issues 0 (write_of false 17 10) ∷ steps 0 ∷ steps 0 ∷ [])))
      ≡ ok ∷ same 1 ∷ ok ∷ moved ∷ moved ∷ done 3 ∷ ok ∷ moved ∷ same 2 ∷ []
  -- lines run out: the hand passes the held map line, and the changed leaf after it is written back and read again
  pub eviction : answers four-leaves (creates 17 10 ++ (creates 33 11 ++ (creates 49 12 ++ (reads 17 ++ (reads 33 ++ reads 49)))))
      ≡ ok ∷ moved ∷ moved ∷ done 3 ∷ ok ∷ moved ∷ moved ∷ done 3 ∷ ok ∷ moved ∷ moved ∷ done 3
      ∷ ok ∷ moved ∷ read 10 2 ∷ ok ∷ moved ∷ read 11 2 ∷ ok ∷ moved ∷ read 12 2 ∷ []
  -- its transfers: the map block is fetched once, a created leaf never; what is written back is a changed leaf, not one that was only read; the drain writes the map block
  pub eviction-transfers : transfers four-leaves (creates 17 10 ++ (creates 33 11 ++ (creates 49 12 ++ (reads 17 ++ (reads 33 ++ (reads 49 ++ (drains ∷ [])))))))
      ≡ none ∷ none ∷ none ∷ sums 1 0 ∷ none ∷ none ∷ none ∷ none ∷ none ∷ none ∷ none ∷ sums 0 1
      ∷ none ∷ none ∷ sums 1 1 ∷ none ∷ none ∷ sums 1 1 ∷ none ∷ none ∷ sums 1 0 ∷ sums 0 1 ∷ []
  -- the copies of a step: Map fetches its block, which comes after the four leaves; a created leaf is not fetched, and what gives way to it is written back; a leaf that is
  -- brought in is fetched after that
  pub copies-at-map : next-copies four-leaves (issues 0 (read_of false 17) ∷ []) ≡ fetch 4 ∷ []
  pub copies-of-created : next-copies four-leaves (creates 17 10 ++ (creates 33 11 ++ (issues 0 (write_of false 49 12) ∷ steps 0 ∷ []))) ≡ back 1 ∷ []
  pub copies-of-brought : next-copies four-leaves (creates 17 10 ++ (creates 33 11 ++ (creates 49 12 ++ (issues 0 (read_of false 17) ∷ steps 0 ∷ [])))) ≡ back 2 ∷ fetch 1 ∷ []
  -- an access begins with no transfers, whatever its tracker had
  pub issue-clears : (tracker_at (ended with-sums (issues 0 (read_of false 17) ∷ [])).state.trackers 0).transfers ≡ none
  -- a group changed in a leaf that stays: ends at Leaf
  pub changes : answers two-leaves (creates 17 10 ++ (issues 0 (write_of false 18 7) ∷ steps 0 ∷ steps 0 ∷ reads 17))
      ≡ ok ∷ moved ∷ moved ∷ done 3 ∷ ok ∷ moved ∷ done 2 ∷ ok ∷ moved ∷ read 10 2 ∷ []
  -- after a drain the memory reads as the row, is true, and shows
  pub drained-reads : plain_group 2 (ended two-leaves (creates 17 10 ++ (drains ∷ []))).memory 17 ≡ 10
  pub drained-true : is_true 2 (ended two-leaves (creates 17 10 ++ (drains ∷ []))).memory ≡ true
  -- one group: a read beside a read passes, a write beside either does not, nor a read beside a write, at Finish too; a busy tracker is refused 7 first
  pub one-group : answers two-leaves
      (issues 0 (read_of false 17) ∷ issues 1 (write_of false 17 10) ∷ issues 0 (write_of false 17 10) ∷ issues 1 (read_of false 17) ∷ steps 0 ∷ steps 1
      ∷ issues 0 (write_of false 17 10) ∷ steps 0 ∷ steps 0 ∷ issues 1 (read_of true 17) ∷ steps 0 ∷ issues 1 (write_of false 17 0) ∷ [])
      ≡ ok ∷ says-no 13 ∷ says-no 7 ∷ ok ∷ read 0 1 ∷ read 0 1 ∷ ok ∷ moved ∷ moved ∷ says-no 13 ∷ done 3 ∷ ok ∷ []
  -- refusals: 2, 5, 6, 7, 8
  pub refusals : answers two-leaves
      (lends [] [] (steps 0) ∷ steps 2 ∷ issues 0 (read_of false 32) ∷ issues 0 (read_of false 31) ∷ issues 0 (read_of false 31) ∷ drains ∷ steps 1 ∷ [])
      ≡ says-no 2 ∷ says-no 5 ∷ says-no 6 ∷ ok ∷ says-no 7 ∷ says-no 7 ∷ says-no 8 ∷ []

pub worked : Worked
unfolding both either implies no refusal unless leaf_of byte_of groups map_block_of map_byte_of map_bit_of index map_blocks part splice fits put_w value bytes number_at first all some bit_of with_bit below_top in_limits_of bit_at put_bit all_zero block_or0 leaf_bit plain_group true_at is_true cleared_map used block_of changed holder held has word held_by cleaned line_of lowest_free loose_from victim after lengths_right limits keeps level_whole line_whole tracker_whole whole rows_fit place_line place_hand fetches backs tally written_back back_of place_memory place_copies bring_in create bring_copies create_copies copies drained drain_copies asks_at keeps_at let_go probe descend top leaf_read put_in write_under1 write_under0 leaf_write under_bit under finish_below finish fit turn_of fresh opened meets meets_none issue_no issue step_no step all_idle drain_no drain show_no shown_bit show does answers ended transfers
worked = record {
  case-r = refl;
  in-turn = refl;
  neighbour = refl;
  held-to-finish = refl;
  emptied = refl;
  top-stored = refl;
  same-twice = refl;
  eviction = refl;
  eviction-transfers = refl;
  copies-at-map = refl;
  copies-of-created = refl;
  copies-of-brought = refl;
  issue-clears = refl;
  changes = refl;
  drained-reads = refl;
  drained-true = refl;
  one-group = refl;
  refusals = refl;
}
