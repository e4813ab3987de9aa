-- A run of two trackers with an eviction, its log computed: the first write takes effect before a read and ends after it.
use mathlib.Core.Path.{◌≡◌, refl}
use mathlib.Core.Bool.{true, false}
use mathlib.Core.List.{List, [], ◌∷◌}
use Prim.Native.Nat.{ℕ, zero, suc}
use lib.ListN.{replicate}
use Rattle.tracker.specs.declared.Access.{Access}
use Rattle.tracker.specs.Tracker.{read_of, write_of, asks_at, keeps_at}
use Rattle.laws.specs.Choice.{both, either, implies, no}
use Rattle.laws.specs.Refusal.{refusal, unless}
use Rattle.laws.specs.Bytes.{part, splice, fits, put_w, value, bytes, number_at}
use Rattle.laws.specs.Scan.{first, all, some}
use Rattle.laws.specs.Bits.{bit_of, with_bit}
use Rattle.geometry.specs.Shape.{below_top}
use Rattle.geometry.specs.TagMemory.{leaf_of, byte_of, groups, map_block_of, map_byte_of, map_bit_of, index, map_blocks, in_limits_of}
use Rattle.block.specs.Block.{bit_at, put_bit, all_zero, block_or0}
use Rattle.memory.specs.PlainReading.{plain_group, plain_reading}
use Rattle.tracker.specs.Answer.{ok}
use Rattle.line.specs.Word.{used, block_of, changed, holder, held, has, word, held_by, cleaned}
use Rattle.line.specs.Find.{line_of, lowest_free, loose_from, victim, after}
use Rattle.rules.specs.State.{lengths_right}
use Rattle.rules.specs.Whole.{limits, keeps, holds, line_whole, level_whole, tracker_whole, whole}
use Rattle.rules.specs.Copies.{fetch, back, fetches, backs, tally}
use Rattle.rules.specs.Copied.{copies}
use Rattle.rules.specs.Place.{rows_fit, place_line, place_hand, written_back, back_of, place_memory, place_copies, bring_in, create, bring_copies, create_copies, drained, drain_copies}
use Rattle.rules.specs.Step.{let_go, probe, descend, top, leaf_read, put_in, write_under1, write_under0, leaf_write, under_bit, under, finish_below, finish, fit, turn_of}
use Rattle.rules.specs.Calls.{fresh, meets, meets_none, issue_no, issue, step_no, step, all_idle, drain_no, drain}
use Rattle.rules.specs.Run.{Call, issues, steps, drains, Kept, kept, does, answers, ended}
use Rattle.flat.specs.Levels.{reaches, others}
use Rattle.flat.specs.Flat.{tagged, some_holds, flat_issue, flat_step, flat_drain, flat_does, flat_answers, flat_ended}
use Rattle.flat.specs.Demand.{unseen, given}
use Rattle.demands.specs.Event.{events, busy_from, busy_after, written_from}
use Rattle.demands.specs.Demand2.{at, Entry, Log, OneRow}
use Rattle.demands.specs.Transfers.{made_from, made, OfSession}
use Rattle.demands.proofs.Log.{put, more}
use Rattle.demands.proofs.Watch.{watched, logged}
use Rattle.demands.proofs.Demand2.{demand-2}
use Rattle.demands.proofs.Transfers.{transfers-are-copies}
use Rattle.demands.proofs.Runs.{state_of, answers_of, AllPlain, session-of, fresh-starts}
use Rattle.session.specs.Session.{said}
use native.Mathlib.Omega.{arith}

abbrev begun : Kept
begun = kept (fresh 4 2 3 (replicate 192 7) (replicate 320 9))

-- A read meets the leaf of a write that is not yet done; the next write waits for it; a third leaf finds no free line, and the first, changed, is written back;
-- it is brought in again and read; a leaf is emptied; a drain.
abbrev calls : List Call
calls = issues 0 (write_of false 17 10) ∷ issues 1 (read_of true 18) ∷ steps 0 ∷ steps 0 ∷ steps 1
    ∷ issues 1 (write_of false 33 11) ∷ steps 1 ∷ steps 0 ∷ steps 1 ∷ steps 1
    ∷ issues 0 (write_of true 49 12) ∷ steps 0 ∷ steps 0 ∷ steps 1 ∷ steps 0 ∷ steps 0 ∷ steps 0
    ∷ issues 1 (read_of false 17) ∷ steps 1 ∷ steps 1
    ∷ issues 0 (write_of false 33 0) ∷ steps 0 ∷ steps 0 ∷ steps 0
    ∷ drains ∷ []

-- an entry that has ended
abbrev entry : (x : ℕ) → Access → (issued moment ending : ℕ) → Entry
entry x a i m j = record { tracker = x; access = a; issued = i; moment = m; ending = at j }

abbrev front : ℕ → (ℕ → Entry) → List Entry
front zero log = []
front (suc n) log = log 0 ∷ front n (λ q. log (suc q))

pub record Worked : Type 0 where
  pub accepted : (fresh 4 2 3 (replicate 192 7) (replicate 320 9)).said ≡ ok
  pub count : (logged begun calls).count ≡ 6
  pub log : front 6 (logged begun calls).log ≡ entry 0 (write_of false 17 10) 0 3 7 ∷ entry 1 (read_of true 18) 1 4 4 ∷ entry 1 (write_of false 33 11) 5 9 13 ∷ entry 0 (write_of true 49 12) 10 15 16
      ∷ entry 1 (read_of false 17) 17 19 19 ∷ entry 0 (write_of false 33 0) 20 22 23 ∷ []
  -- at rest: nobody is busy, and nothing was written since the drain
  pub idle : (busy_after (events calls (answers begun calls)) 0 ≡ false) × (busy_after (events calls (answers begun calls)) 1 ≡ false)
  pub clean : written_from false (events calls (answers begun calls)) ≡ false
  pub shows : plain_reading 4 (ended begun calls).memory 17 ≡ 10
  -- the copies made for the last access of each tracker: a leaf is fetched where another, changed, is written back; the map block is in its line
  pub copied : (made begun calls 0 ≡ back 3 ∷ fetch 2 ∷ []) × (made begun calls 1 ≡ back 2 ∷ fetch 1 ∷ [])

pub worked : Worked
unfolding both either implies no refusal unless leaf_of byte_of groups map_block_of map_byte_of map_bit_of index map_blocks part splice fits put_w value bytes number_at first all some bit_of with_bit below_top in_limits_of bit_at put_bit all_zero block_or0 plain_group plain_reading used block_of changed holder held has word held_by cleaned line_of lowest_free loose_from victim after lengths_right limits keeps level_whole line_whole tracker_whole whole rows_fit place_line place_hand fetches backs tally written_back back_of place_memory place_copies bring_in create drained drain_copies asks_at keeps_at let_go probe descend top leaf_read put_in write_under1 write_under0 leaf_write under_bit under finish_below finish fit turn_of fresh meets meets_none issue_no issue step_no step all_idle drain_no drain does answers ended reaches others tagged holds some_holds flat_issue flat_step flat_drain flat_does flat_answers flat_ended unseen given watched put more events busy_from written_from bring_copies create_copies copies made_from
worked = record { accepted = refl; count = refl; log = refl; idle = (refl, refl); clean = refl; shows = refl; copied = (refl, refl) }

-- it is a session of the code, and the theorem speaks of it
plain : AllPlain calls
plain = search arith depth 60 fits 4000

pub instance : (log : Log) × OneRow begun.state.shape.n begun.memory (events calls (said (answers_of (answers begun calls)))) (ended begun calls).memory log
unfolding fresh unless refusal limits both below_top in_limits_of lengths_right map_blocks
instance =
    let d = demand-2 2 (state_of begun.state) begun.bytes begun.memory (fresh-starts 4 2 3 (replicate 192 7) (replicate 320 9) refl refl) in
    (d.0 calls, d.1 _ _ _ calls _ (session-of begun calls plain))

pub instance-transfers : OfSession (made begun calls) (state_of (ended begun calls).state) (ended begun calls).bytes (ended begun calls).memory
unfolding fresh unless refusal limits both below_top in_limits_of lengths_right map_blocks
instance-transfers =
    transfers-are-copies 2 (state_of begun.state) _ begun.bytes begun.memory _ _ calls _ (fresh-starts 4 2 3 (replicate 192 7) (replicate 320 9) refl refl) (session-of begun calls plain)
