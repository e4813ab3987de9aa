-- The last turns are reached by sessions, for one tracker and for two: worked runs under the circle, computed through the rules on real bytes.
-- The other tracker takes the map block just before the one that waits would, and keeps it for its Leaf and its Finish step: two waits.
use mathlib.Core.Path.{◌≡◌, refl, sym, ap, ◌∙◌, subst}
use mathlib.Core.Bool.{Bool, true, false}
use mathlib.Core.List.{List, [], ◌∷◌, ◌++◌}
use Prim.Native.Nat.{ℕ, ◌<◌}
use native.Mathlib.Omega.{arith}
use lib.ListN.{replicate}
use Rattle.tracker.specs.Tracker.{read_of, write_of, asks_at, keeps_at}
use Rattle.laws.specs.Choice.{both, either, implies, no}
use Rattle.laws.specs.Bytes.{part, splice, fits, put_w, value, bytes, number_at}
use Rattle.laws.specs.Scan.{first, all, some}
use Rattle.laws.specs.Bits.{bit_of, with_bit}
use Rattle.laws.specs.Refusal.{refusal, unless}
use Rattle.geometry.specs.Shape.{below_top}
use Rattle.geometry.specs.TagMemory.{leaf_of, byte_of, groups, map_block_of, map_byte_of, map_bit_of, index, map_blocks, in_limits_of}
use Rattle.block.specs.Block.{bit_at, put_bit, all_zero, block_or0}
use Rattle.line.specs.Word.{used, block_of, changed, holder, held, has, word, held_by, cleaned}
use Rattle.line.specs.Find.{line_of, lowest_free, loose_from, victim, after}
use Rattle.rules.specs.State.{lengths_right}
use Rattle.rules.specs.Whole.{limits, keeps, line_whole, level_whole, tracker_whole, whole}
use Rattle.rules.specs.Copies.{fetches, backs, tally}
use Rattle.rules.specs.Place.{rows_fit, place_line, place_hand, written_back, back_of, place_memory, place_copies, bring_in, create, drained, drain_copies}
use Rattle.rules.specs.Step.{let_go, probe, descend, top, leaf_read, put_in, write_under1, write_under0, leaf_write, under_bit, under, finish_below, finish, fit, turn_of}
use Rattle.rules.specs.Calls.{fresh, opened, meets, meets_none, issue_no, issue, step_no, step, all_idle, drain_no, drain}
use Rattle.rules.specs.Run.{Call, issues, steps, Kept, kept, does, answers, ended}
use Rattle.session.specs.Session.{Starts, over}
use Rattle.circle.specs.Order.{next, in_order}
use Rattle.circle.specs.LastTurn.{last_turn}
use Rattle.demands.specs.Event.{Told, Event, begins, goes_on, ends, events, busy_from}
use Rattle.demands.specs.Circle.{Note, other, answered, Goes, stays, turned, passed, between}
use Rattle.demands.specs.Circle as Circle
use Rattle.demands.specs.Reached.{Reached}
use Rattle.demands.proofs.Runs.{state_of, AllPlain, said-answers, session-of, fresh-starts, opened-starts}

-- a run from the start k, all of whose events are turns of the circle or stand between them
module _ (t : ℕ) (k : Kept) (start : Starts t (state_of k.state) k.bytes k.memory) where
  reaches : {i j n : ℕ} {notes : ℕ → Note} {es : List Event} (cs : List Call) → i < t → Goes t (in_order t) i (λ x. other false) es n j notes → es ≡ events cs (answers k cs) → AllPlain cs
      → (write bottom : Bool) (x : ℕ) → notes x ≡ answered write bottom (last_turn t write bottom) (last_turn t write bottom) → Reached t write bottom
  unfolding events busy_from
  reaches {i = i} {j = j} {n = n} {notes = notes} {es = es} cs h g e p write bottom x l = record {
    order = in_order t;
    state = state_of (ended k cs).state;
    bytes = (ended k cs).bytes;
    memory = (ended k cs).memory;
    place = j;
    notes = notes;
    run = Circle.under start over h (session-of k cs p)
        (subst (λ (ds : List Event). Goes t (in_order t) i (λ x. other false) ds n j notes) (e ∙ ap (events cs) (sym (said-answers (answers k cs)))) g);
    x = x;
    at_last = l;
  }

-- Tracker 1 sets the bit of leaf 1 in a fresh memory of two leaves over stale bytes, with three lines. Tracker 0 reads there, or writes to leaf 0 and sets its bit.
-- Top-down it waits twice, and then takes Map and Leaf, and Finish if it writes; bottom-up it has probed before.
abbrev two : Kept
two = kept (fresh 2 2 3 (replicate 192 7) (replicate 192 9))

two-starts : Starts 2 (state_of two.state) two.bytes two.memory
unfolding both either implies no refusal unless leaf_of byte_of groups map_block_of map_byte_of map_bit_of index map_blocks part splice fits put_w value bytes number_at first all some bit_of with_bit below_top in_limits_of bit_at put_bit all_zero block_or0 used block_of changed holder held has word held_by cleaned line_of lowest_free loose_from victim after lengths_right limits keeps level_whole line_whole tracker_whole whole rows_fit place_line place_hand fetches backs tally written_back back_of place_memory place_copies bring_in create drained drain_copies asks_at keeps_at let_go probe descend top leaf_read put_in write_under1 write_under0 leaf_write under_bit under finish_below finish fit turn_of fresh opened meets meets_none issue_no issue step_no step all_idle drain_no drain does answers next events
two-starts = fresh-starts 2 2 3 (replicate 192 7) (replicate 192 9) refl refl

-- One tracker, and a memory of one leaf with one group that is not zero: it is read, or emptied, which clears its bit.
abbrev one : Kept
one = kept (opened 1 1 2 (replicate 128 7) ((5 ∷ replicate 63 0) ++ (1 ∷ replicate 63 0)))

one-starts : Starts 1 (state_of one.state) one.bytes one.memory
unfolding both either implies no refusal unless leaf_of byte_of groups map_block_of map_byte_of map_bit_of index map_blocks part splice fits put_w value bytes number_at first all some bit_of with_bit below_top in_limits_of bit_at put_bit all_zero block_or0 used block_of changed holder held has word held_by cleaned line_of lowest_free loose_from victim after lengths_right limits keeps level_whole line_whole tracker_whole whole rows_fit place_line place_hand fetches backs tally written_back back_of place_memory place_copies bring_in create drained drain_copies asks_at keeps_at let_go probe descend top leaf_read put_in write_under1 write_under0 leaf_write under_bit under finish_below finish fit turn_of fresh opened meets meets_none issue_no issue step_no step all_idle drain_no drain does answers next events
one-starts = opened-starts 1 1 2 (replicate 128 7) ((5 ∷ replicate 63 0) ++ (1 ∷ replicate 63 0)) refl refl refl

pub reached-two : (write bottom : Bool) → Reached 2 write bottom
unfolding both either implies no refusal unless leaf_of byte_of groups map_block_of map_byte_of map_bit_of index map_blocks part splice fits put_w value bytes number_at first all some bit_of with_bit below_top in_limits_of bit_at put_bit all_zero block_or0 used block_of changed holder held has word held_by cleaned line_of lowest_free loose_from victim after lengths_right limits keeps level_whole line_whole tracker_whole whole rows_fit place_line place_hand fetches backs tally written_back back_of place_memory place_copies bring_in create drained drain_copies asks_at keeps_at let_go probe descend top leaf_read put_in write_under1 write_under0 leaf_write under_bit under finish_below finish fit turn_of fresh opened meets meets_none issue_no issue step_no step all_idle drain_no drain does answers next events
reached-two false false =
    reaches 2 two two-starts {i = 1} (issues 1 (write_of false 16 10) ∷ steps 1 ∷ issues 0 (read_of false 17) ∷ steps 0 ∷ steps 1 ∷ steps 0 ∷ steps 1 ∷ steps 0 ∷ steps 0 ∷ []) (omega arith) (
    between (begins 1 (write_of false 16 10)) tt ( -- 1 is to write
    turned (goes_on 1) refl ( -- 1: Map, it holds
    between (begins 0 (read_of false 17)) tt ( -- 0 is to read
    turned (goes_on 0) refl ( -- 0: waits
    turned (goes_on 1) refl ( -- 1: Leaf
    turned (goes_on 0) refl ( -- 0: waits
    turned (ends 1 Told.done 3) refl ( -- 1: Finish, it lets go
    turned (goes_on 0) refl ( -- 0: Map
    passed refl ( -- the one at the place is idle
    turned (ends 0 (Told.read 0) 4) refl ( -- 0: Leaf, answered
    stays))))))))))) refl (omega arith, (tt, (omega arith, (tt, (tt, (tt, (tt, (tt, (tt, tt))))))))) false false 0 refl
reached-two true false =
    reaches 2 two two-starts {i = 1} (issues 1 (write_of false 16 10) ∷ steps 1 ∷ issues 0 (write_of false 1 11) ∷ steps 0 ∷ steps 1 ∷ steps 0 ∷ steps 1 ∷ steps 0 ∷ steps 0 ∷ steps 0 ∷ []) (omega arith) (
    between (begins 1 (write_of false 16 10)) tt ( -- 1 is to write
    turned (goes_on 1) refl ( -- 1: Map, it holds
    between (begins 0 (write_of false 1 11)) tt ( -- 0 is to write
    turned (goes_on 0) refl ( -- 0: waits
    turned (goes_on 1) refl ( -- 1: Leaf
    turned (goes_on 0) refl ( -- 0: waits
    turned (ends 1 Told.done 3) refl ( -- 1: Finish, it lets go
    turned (goes_on 0) refl ( -- 0: Map
    passed refl ( -- the one at the place is idle
    turned (goes_on 0) refl ( -- 0: Leaf
    passed refl ( -- the one at the place is idle
    turned (ends 0 Told.done 5) refl ( -- 0: Finish, answered
    stays))))))))))))) refl (omega arith, (tt, (omega arith, (tt, (tt, (tt, (tt, (tt, (tt, (tt, tt)))))))))) true false 0 refl
reached-two false true =
    reaches 2 two two-starts {i = 0} (issues 0 (read_of true 17) ∷ issues 1 (write_of false 16 10) ∷ steps 0 ∷ steps 1 ∷ steps 0 ∷ steps 1 ∷ steps 0 ∷ steps 1 ∷ steps 0 ∷ steps 0 ∷ []) (omega arith) (
    between (begins 0 (read_of true 17)) tt ( -- 0 is to read
    between (begins 1 (write_of false 16 10)) tt ( -- 1 is to write
    turned (goes_on 0) refl ( -- 0: Probe
    turned (goes_on 1) refl ( -- 1: Map, it holds
    turned (goes_on 0) refl ( -- 0: waits
    turned (goes_on 1) refl ( -- 1: Leaf
    turned (goes_on 0) refl ( -- 0: waits
    turned (ends 1 Told.done 3) refl ( -- 1: Finish, it lets go
    turned (goes_on 0) refl ( -- 0: Map
    passed refl ( -- the one at the place is idle
    turned (ends 0 (Told.read 0) 5) refl ( -- 0: Leaf, answered
    stays)))))))))))) refl (omega arith, (omega arith, (tt, (tt, (tt, (tt, (tt, (tt, (tt, (tt, tt)))))))))) false true 0 refl
reached-two true true =
    reaches 2 two two-starts {i = 0} (issues 0 (write_of true 1 11) ∷ issues 1 (write_of false 16 10) ∷ steps 0 ∷ steps 1 ∷ steps 0 ∷ steps 1 ∷ steps 0 ∷ steps 1 ∷ steps 0 ∷ steps 0 ∷ steps 0 ∷ []) (omega arith) (
    between (begins 0 (write_of true 1 11)) tt ( -- 0 is to write
    between (begins 1 (write_of false 16 10)) tt ( -- 1 is to write
    turned (goes_on 0) refl ( -- 0: Probe
    turned (goes_on 1) refl ( -- 1: Map, it holds
    turned (goes_on 0) refl ( -- 0: waits
    turned (goes_on 1) refl ( -- 1: Leaf
    turned (goes_on 0) refl ( -- 0: waits
    turned (ends 1 Told.done 3) refl ( -- 1: Finish, it lets go
    turned (goes_on 0) refl ( -- 0: Map
    passed refl ( -- the one at the place is idle
    turned (goes_on 0) refl ( -- 0: Leaf
    passed refl ( -- the one at the place is idle
    turned (ends 0 Told.done 6) refl ( -- 0: Finish, answered
    stays)))))))))))))) refl (omega arith, (omega arith, (tt, (tt, (tt, (tt, (tt, (tt, (tt, (tt, (tt, tt))))))))))) true true 0 refl

pub reached-one : (write bottom : Bool) → Reached 1 write bottom
unfolding both either implies no refusal unless leaf_of byte_of groups map_block_of map_byte_of map_bit_of index map_blocks part splice fits put_w value bytes number_at first all some bit_of with_bit below_top in_limits_of bit_at put_bit all_zero block_or0 used block_of changed holder held has word held_by cleaned line_of lowest_free loose_from victim after lengths_right limits keeps level_whole line_whole tracker_whole whole rows_fit place_line place_hand fetches backs tally written_back back_of place_memory place_copies bring_in create drained drain_copies asks_at keeps_at let_go probe descend top leaf_read put_in write_under1 write_under0 leaf_write under_bit under finish_below finish fit turn_of fresh opened meets meets_none issue_no issue step_no step all_idle drain_no drain does answers next events
reached-one false false =
    reaches 1 one one-starts {i = 0} (issues 0 (read_of false 0) ∷ steps 0 ∷ steps 0 ∷ []) (omega arith) (
    between (begins 0 (read_of false 0)) tt ( -- 0 is to read
    turned (goes_on 0) refl ( -- Map
    turned (ends 0 (Told.read 5) 2) refl ( -- Leaf, answered
    stays)))) refl (omega arith, (tt, (tt, tt))) false false 0 refl
reached-one true false =
    reaches 1 one one-starts {i = 0} (issues 0 (write_of false 0 0) ∷ steps 0 ∷ steps 0 ∷ steps 0 ∷ []) (omega arith) (
    between (begins 0 (write_of false 0 0)) tt ( -- 0 is to write
    turned (goes_on 0) refl ( -- Map
    turned (goes_on 0) refl ( -- Leaf
    turned (ends 0 Told.done 3) refl ( -- Finish, answered
    stays))))) refl (omega arith, (tt, (tt, (tt, tt)))) true false 0 refl
reached-one false true =
    reaches 1 one one-starts {i = 0} (issues 0 (read_of true 0) ∷ steps 0 ∷ steps 0 ∷ steps 0 ∷ []) (omega arith) (
    between (begins 0 (read_of true 0)) tt ( -- 0 is to read
    turned (goes_on 0) refl ( -- Probe
    turned (goes_on 0) refl ( -- Map
    turned (ends 0 (Told.read 5) 3) refl ( -- Leaf, answered
    stays))))) refl (omega arith, (tt, (tt, (tt, tt)))) false true 0 refl
reached-one true true =
    reaches 1 one one-starts {i = 0} (issues 0 (write_of true 0 0) ∷ steps 0 ∷ steps 0 ∷ steps 0 ∷ steps 0 ∷ []) (omega arith) (
    between (begins 0 (write_of true 0 0)) tt ( -- 0 is to write
    turned (goes_on 0) refl ( -- Probe
    turned (goes_on 0) refl ( -- Map
    turned (goes_on 0) refl ( -- Leaf
    turned (ends 0 Told.done 4) refl ( -- Finish, answered
    stays)))))) refl (omega arith, (tt, (tt, (tt, (tt, tt))))) true true 0 refl
