-- 01 "What is refused": fresh, open, issue, step, drain and show, each with its refusals in order; 02 E3's with issue's, 02 E4's transfers.
use Rattle.std.specs.Prelude.{List, [], ◌∷◌, ◌++◌, Bool, true, not, ℕ, zero, suc, ◌+◌, eqb, ltb, set}
use Rattle.geometry.specs.declared.Shape.{Shape}
use Rattle.geometry.specs.Shape.{shape_of, top_of}
use Rattle.geometry.specs.TagMemory.{groups, map_block_of, map_byte_of, map_bit_of, block_on, block_place}
use Rattle.laws.specs.Choice.{pick, both, either}
use Rattle.laws.specs.Refusal.{Tests, refusal, unless}
use Rattle.laws.specs.Scan.{all}
use Rattle.block.specs.Block.{bit_at}
use Rattle.memory.specs.PlainReading.{bit_over}
use Rattle.memory.specs.True.{is_true_of, cleared_of, block_at}
use Rattle.tracker.specs.declared.Access.{Access}
use Rattle.tracker.specs.declared.Transfers.{Transfers}
use Rattle.tracker.specs.declared.Tracker.{Tracker}
use Rattle.tracker.specs.Transfers.{none}
use Rattle.tracker.specs.Tracker.{issued, is_idle}
use Rattle.tracker.specs.Answer.{Said, ok, no}
use Rattle.line.specs.Find.{line_of}
use Rattle.rules.specs.State.{State, Rows, tracker_at, lengths_right, begun, zero_state}
use Rattle.rules.specs.Whole.{limits, whole}
use Rattle.rules.specs.Copies.{tally}
use Rattle.rules.specs.Place.{line_bytes, drained, drain_copies}
use Rattle.rules.specs.Step.{Turned, turn_of}

-- what a call says, the state, line bytes and memory that it leaves, and the transfers that an ending or a drain carries
pub record Out : Type 0 where
  pub said : Said
  pub state : State
  pub bytes : List ℕ
  pub memory : List ℕ
  pub transfers : Transfers

-- "Each refusal returns its number and the given state .. and all lent bytes stay as they came."
abbrev pub refused : ℕ → State → List ℕ → List ℕ → Out
refused c s bytes memory = record { said = no c; state = s; bytes = bytes; memory = memory; transfers = none }

abbrev pub accepted : State → List ℕ → List ℕ → Out
accepted s bytes memory = record { said = ok; state = s; bytes = bytes; memory = memory; transfers = none }

-- "fresh 1, 2": "A fresh memory sets every map byte to 0 and touches nothing else."; "fresh zeroes only top blocks"
abbrev pub fresh_tests : Shape → List ℕ → List ℕ → Tests
fresh_tests shape bytes memory = (limits shape, 1) ∷ (lengths_right shape bytes memory, 2) ∷ []

unfoldable pub fresh : ℕ → ℕ → ℕ → List ℕ → List ℕ → Out
fresh n t l bytes memory =
    let shape = shape_of n t l in
    unless (refusal (fresh_tests shape bytes memory)) (accepted (begun shape) bytes (cleared_of (top_of shape) n memory)) (λ c. refused c zero_state bytes memory)

-- "open 1, 2, 3": "Opening changes no byte."
abbrev pub open_tests : Shape → List ℕ → List ℕ → Tests
open_tests shape bytes memory = fresh_tests shape bytes memory ++ (is_true_of (top_of shape) shape.n memory, 3) ∷ []

unfoldable pub opened : ℕ → ℕ → ℕ → List ℕ → List ℕ → Out
opened n t l bytes memory =
    let shape = shape_of n t l in
    unless (refusal (open_tests shape bytes memory)) (accepted (begun shape) bytes memory) (λ c. refused c zero_state bytes memory)

-- what each call on a state asks first, 4 and 2
abbrev pub state_tests : State → List ℕ → List ℕ → Tests
state_tests s bytes memory = (whole s, 4) ∷ (lengths_right s.shape bytes memory, 2) ∷ []

abbrev pub with_tracker : State → ℕ → Tracker → State
with_tracker s x t = record { shape = s.shape; lines = s.lines; trackers = set s.trackers x t }

-- 02 E3: "a write to a group that any busy tracker has, and a read of a group that a busy write has": access a is such a one by tracker u
unfoldable pub meets : Access → Tracker → Bool
meets a u = both (both (not (is_idle u)) (eqb u.group a.group)) (either a.write u.write)

-- access a meets none of the T trackers
unfoldable pub meets_none : (t : ℕ) → Access → List Tracker → Bool
meets_none t a us = all (λ y. not (meets a (tracker_at us y))) t

-- "issue 4, 2, 5, 6, 7" and "13, after 7": of access a to tracker x, among the trackers us
abbrev pub issue_tests : Shape → (x : ℕ) → Access → List Tracker → Tests
issue_tests shape x a us =
    (ltb x shape.t, 5) ∷ (ltb a.group (groups shape.n), 6) ∷ (is_idle (tracker_at us x), 7) ∷ (meets_none shape.t a us, 13) ∷ []

unfoldable pub issue_no : State → List ℕ → List ℕ → ℕ → Access → ℕ
issue_no s bytes memory x a = refusal (state_tests s bytes memory ++ issue_tests s.shape x a s.trackers)

unfoldable pub issue : State → List ℕ → List ℕ → ℕ → Access → Out
issue s bytes memory x a =
    unless (issue_no s bytes memory x a) (accepted (with_tracker s x (issued a)) bytes memory) (λ c. refused c s bytes memory)

-- the state, the line bytes and the memory after a step of tracker x
abbrev pub stepped : State → ℕ → Turned → Out
stepped s x r = record {
  said = r.said;
  state = record { shape = r.shape; lines = r.rows.lines; trackers = set s.trackers x r.tracker };
  bytes = r.rows.bytes;
  memory = r.rows.memory;
  transfers = r.transfers;
}

-- "step 4, 2, 5, 8": of tracker x, among the trackers us
abbrev pub step_tests : Shape → (x : ℕ) → List Tracker → Tests
step_tests shape x us = (ltb x shape.t, 5) ∷ (not (is_idle (tracker_at us x)), 8) ∷ []

unfoldable pub step_no : State → List ℕ → List ℕ → ℕ → ℕ
step_no s bytes memory x = refusal (state_tests s bytes memory ++ step_tests s.shape x s.trackers)

unfoldable pub step : State → List ℕ → List ℕ → ℕ → Out
step s bytes memory x =
    unless (step_no s bytes memory x)
    (stepped s x (turn_of s.shape x (tracker_at s.trackers x) (record { lines = s.lines; bytes = bytes; memory = memory })))
    (λ c. refused c s bytes memory)

-- every one of the T trackers is idle
unfoldable pub all_idle : State → Bool
all_idle s = all (λ x. is_idle (tracker_at s.trackers x)) s.shape.t

-- "drain 4, 2, 7"
abbrev pub drain_tests : (rest : Bool) → Tests
drain_tests rest = (rest, 7) ∷ []

unfoldable pub drain_no : State → List ℕ → List ℕ → ℕ
drain_no s bytes memory = refusal (state_tests s bytes memory ++ drain_tests (all_idle s))

abbrev pub with_lines : State → List ℕ → State
with_lines s ls = record { shape = s.shape; lines = ls; trackers = s.trackers }

-- the state and the memory once the lines are drained. 02 E4: "Drain reports its write-backs apart."
abbrev pub drains_to : State → Rows → Out
drains_to s r =
    let d = drained s.shape.l r in
    record { said = ok; state = with_lines s d.lines; bytes = r.bytes; memory = d.memory; transfers = tally (drain_copies s.shape.l r) }

unfoldable pub drain : State → List ℕ → List ℕ → Out
drain s bytes memory =
    unless (drain_no s bytes memory) (drains_to s (record { lines = s.lines; bytes = bytes; memory = memory })) (λ c. refused c s bytes memory)

-- "show 4, 2, 6, 7"; the companion call gives this number
abbrev pub show_tests : Shape → (k : ℕ) (rest : Bool) → Tests
show_tests shape k rest = (ltb k shape.n, 6) ∷ (rest, 7) ∷ []

unfoldable pub show_no : State → List ℕ → List ℕ → ℕ → ℕ
show_no s bytes memory k = refusal (state_tests s bytes memory ++ show_tests s.shape k (all_idle s))

-- the bit over block k of level e, "read in the map block's line if it has one"
unfoldable pub shown_bit : State → List ℕ → List ℕ → (e k : ℕ) → ℕ
shown_bit s bytes memory e k =
    let j = line_of s.lines s.shape.l (block_on (suc e) s.shape.n (map_block_of k)) in
    pick (ltb j s.shape.l) (bit_at bytes (block_place j + map_byte_of k) (map_bit_of k)) (bit_over e s.shape.n memory k)

-- block k of level e, which is d levels below the top, counts by the bits that are shown: read from the top down
abbrev pub shown_counts : State → List ℕ → List ℕ → (d e k : ℕ) → Bool
shown_counts s bytes memory zero e k = true
shown_counts s bytes memory (suc d) e k = both (shown_counts s bytes memory d (suc e) (map_block_of k)) (eqb (shown_bit s bytes memory e k) 1)

-- "the 64 in the lines, if a line has it; else, under bit 1 .., the 64 in memory; under bit 0, an empty part of memory. On a refusal it is empty too"
unfoldable pub show : State → List ℕ → List ℕ → ℕ → List ℕ
show s bytes memory k =
    let i = line_of s.lines s.shape.l k in
    unless (show_no s bytes memory k)
    (pick (ltb i s.shape.l) (line_bytes bytes i) (pick (shown_counts s bytes memory (top_of s.shape) 0 k) (block_at memory k) []))
    (λ c. [])
