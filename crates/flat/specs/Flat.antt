-- The timed flat machine: the value of each group, and the accesses under way with 01's steps; no lines, no memory, no map. It is the way from the rules to demand 2.
-- An access takes effect on the row at one moment, which its steps give: "A write takes effect at its Leaf step, or where it ends 'same'; a read where it ends."
use Rattle.std.specs.Prelude.{List, [], ◌∷◌, Bool, true, false, ℕ, zero, suc, eqb, ltb, set}
use Rattle.geometry.specs.declared.Shape.{Shape}
use Rattle.geometry.specs.Shape.{below_top, top_of}
use Rattle.geometry.specs.TagMemory.{group_on, leaf_of, block_bits, index, block_over}
use Rattle.laws.specs.Choice.{pick, both, implies, no}
use Rattle.laws.specs.Scan.{all, some}
use Rattle.laws.specs.Refusal.{refusal, unless}
use Rattle.tracker.specs.declared.Phase.{Phase}
use Rattle.tracker.specs.declared.Phase.TheVariants.{Idle, Probe, Top, Under, Set, Clear}
use Rattle.tracker.specs.declared.Access.{Access}
use Rattle.tracker.specs.declared.Transfers.{Transfers}
use Rattle.tracker.specs.declared.Tracker.{Tracker}
use Rattle.tracker.specs.Tracker.{idle, issued, is_idle, at, counted, after_probe, finish_at}
use Rattle.tracker.specs.Answer.{Said, ok, wait, moved, read, done, same}
use Rattle.rules.specs.State.{tracker_at, lengths_right}
use Rattle.rules.specs.Whole.{holds}
use Rattle.rules.specs.Step.{turns_of}
use Rattle.rules.specs.Calls.{issue_tests, step_tests, drain_tests}
use Rattle.rules.specs.Run.{Call, issues, steps, drains, lends}
use Rattle.flat.specs.Levels.{reaches, others}

abbrev pub Row : Type 0
Row = ℕ → ℕ

-- the row with v at group g
abbrev pub put : Row → ℕ → ℕ → Row
put row g v h = pick (eqb h g) v (row h)

-- leaf k has a tag: one of its 16 groups is not zero
unfoldable pub tagged : Row → ℕ → Bool
tagged row k = no (all (λ j. eqb (row (group_on k j)) 0) 16)

-- An access done whole on the row: the row after it, and what it says.
abbrev pub after : Row → Tracker → Row
after row t = pick t.write (put row t.group t.value) row

abbrev pub answer : Row → Tracker → Said
answer row t = pick t.write (pick (eqb (row t.group) t.value) (same (turns_of t)) (done (turns_of t))) (read (row t.group) (turns_of t))

-- it would change nothing: a read, or a write of what is there
abbrev pub changes_nothing : Row → Tracker → Bool
changes_nothing row t = implies t.write (eqb (row t.group) t.value)

-- What one step is to its access: it waits; it goes on to a phase, its moment to come; it takes effect and ends; it takes effect and goes on to Finish;
-- it ends, its moment behind it.
pub data Course : Type 0 where
  waits : Course
  goes : Phase → Course
  ends : Course
  takes : Phase → Course
  finishes : Course

-- A write that changes its leaf. "All 64 bytes now zero: .. on to Finish (clear). Not all zero, bit was 1: .. end 'done' .. Not all zero, bit was 0: .. on to Finish (set)."
abbrev pub by_tags : (before now : Bool) → Course
by_tags true true = ends
by_tags true false = takes (Clear 0)
by_tags false now = takes (Set 0)

-- the tracker's block of level e has a tag under it; and so has another under the same block of level e + 1
abbrev pub has_tag : Row → Tracker → ℕ → Bool
has_tag row t e = reaches block_bits (tagged row) e (index e t.group)

abbrev pub others_have : Row → Tracker → ℕ → Bool
others_have row t e = others block_bits (tagged row) e (index e t.group)

-- Finish: "Finish map ends the access unless the top bit must change", exactly where no other block under the same one has a tag, for set and clear alike.
abbrev pub onward : (below : ℕ) → Row → Tracker → (set : Bool) (d : ℕ) → Course
onward below row t set d = pick (both (ltb d below) (no (others_have row t d))) (goes (finish_at set (suc d))) finishes

-- The course of a step at each phase; an idle tracker has no step. `below`: the level below the top. `found d`: its block of level d is in a line. `held`: another tracker holds its top block.
-- Probe: "Leaf in a line: a read ends with the group; a write whose group equals v ends 'same'. Otherwise on to Map."; Probe map "ends a read, or a write of 0, on bit 0 if the map block has a line
-- and nobody holds its top block". A block has a tag under it exactly under bit 1.
-- Top, 01's Map: "If another tracker holds this map block: wait .. Bit 0: a read ends with 0; a write of 0 ends 'same'. Otherwise .. on to Leaf.", and so Map under it.
-- Leaf: a read ends with the group; a write whose "group equal to v: end 'same'", else by the tags of its leaf before and after.
abbrev pub course : (below : ℕ) → Row → (found : ℕ → Bool) (held : Bool) → Tracker → Phase → Course
course below row found held t Idle = waits
course below row found held t (Probe zero) = pick (both (found 0) (changes_nothing row t)) ends (goes (after_probe (suc below) 0))
course below row found held t (Probe (suc e)) =
    pick (both (both (found (suc e)) (no held)) (both (no (has_tag row t e)) (changes_nothing row t))) ends (goes (after_probe (suc below) (suc e)))
course below row found held t Top = pick held waits (pick (both (no (has_tag row t below)) (changes_nothing row t)) ends (goes (Under below)))
course below row found held t (Under zero) =
    pick (changes_nothing row t) ends (by_tags (tagged row (leaf_of t.group)) (tagged (after row t) (leaf_of t.group)))
course below row found held t (Under (suc e)) = pick (both (no (has_tag row t e)) (changes_nothing row t)) ends (goes (Under e))
course below row found held t (Set d) = onward below row t true d
course below row found held t (Clear d) = onward below row t false d

-- What the step says, and the row and the tracker that it leaves; m are the transfers that a tracker that goes on then has.
abbrev pub says : Row → Tracker → Course → Said
says row t waits = wait
says row t (goes p) = moved
says row t ends = answer row t
says row t (takes p) = moved
says row t finishes = done (turns_of t)

abbrev pub row_by : Row → Tracker → Course → Row
row_by row t waits = row
row_by row t (goes p) = row
row_by row t ends = after row t
row_by row t (takes p) = after row t
row_by row t finishes = row

abbrev pub tracker_by : Tracker → Transfers → Course → Tracker
tracker_by t m waits = counted t
tracker_by t m (goes p) = at t p m
tracker_by t m ends = idle
tracker_by t m (takes p) = at t p m
tracker_by t m finishes = idle

-- the step is its access's moment
abbrev pub moment : Course → Bool
moment waits = false
moment (goes p) = false
moment ends = true
moment (takes p) = true
moment finishes = false

-- an access that takes effect, and the number of its tracker
pub record Effect : Type 0 where
  pub who : ℕ
  pub access : Tracker

abbrev pub effect_by : ℕ → Tracker → Course → List Effect
effect_by x t c = pick (moment c) (record { who = x; access = t } ∷ []) []

-- The flat machine: the shape, with a hand that rests at 0, for there are no lines; the row; the accesses.
pub record Flat : Type 0 where
  pub shape : Shape
  pub row : Row
  pub trackers : List Tracker

-- some tracker holds block b
unfoldable pub some_holds : (top n t : ℕ) → List Tracker → ℕ → Bool
some_holds top n t trackers b = some (λ y. holds top n (tracker_at trackers y) b) t

-- the course of a step of tracker x
abbrev pub course_of : Flat → (ℕ → Bool) → ℕ → Course
course_of f found x =
    let t = tracker_at f.trackers x in
    let top = top_of f.shape in
    course (below_top f.shape) f.row found (some_holds top f.shape.n f.shape.t f.trackers (block_over top f.shape.n t.group)) t t.phase

abbrev pub with_row : Flat → Row → ℕ → Tracker → Flat
with_row f row x t = record { shape = f.shape; row = row; trackers = set f.trackers x t }

-- what the row cannot know of a step: whether its access's block of a level is in a line, and the transfers that its tracker then has, which no answer shows
pub record Unseen : Type 0 where
  pub found : ℕ → Bool
  pub transfers : Transfers

pub record Given : Type 0 where
  pub call : Call
  pub unseen : Unseen

pub record Reply : Type 0 where
  pub said : Said
  pub flat : Flat
  pub effect : List Effect

abbrev pub refuse : ℕ → Flat → Reply
refuse c f = record { said = Said.no c; flat = f; effect = [] }

-- "tracker number T or more" 5, "group 16n or more" 6, "issue to a busy tracker" 7, two accesses to one group 13
unfoldable pub flat_issue : Flat → ℕ → Access → Reply
flat_issue f x access =
    unless (refusal (issue_tests f.shape x access f.trackers))
    (record { said = ok; flat = with_row f f.row x (issued access); effect = [] }) (λ c. refuse c f)

-- "tracker number T or more" 5, "step of an idle tracker" 8
unfoldable pub flat_step : Flat → Unseen → ℕ → Reply
flat_step f v x =
    let t = tracker_at f.trackers x in
    let c = course_of f v.found x in
    unless (refusal (step_tests f.shape x f.trackers))
    (record { said = says f.row t c; flat = with_row f (row_by f.row t c) x (tracker_by t v.transfers c); effect = effect_by x t c }) (λ r. refuse r f)

-- every access is at rest
abbrev pub all_rest : Flat → Bool
all_rest f = all (λ x. is_idle (tracker_at f.trackers x)) f.shape.t

-- "drain .. with any busy" 7: accepted exactly if all are at rest
unfoldable pub flat_drain : Flat → Reply
flat_drain f = unless (refusal (drain_tests (all_rest f))) (record { said = ok; flat = f; effect = [] }) (λ c. refuse c f)

-- one call; "a lent length differs from the rule" 2
unfoldable pub flat_does : Flat → Unseen → Call → Reply
flat_does f v (issues x access) = flat_issue f x access
flat_does f v (steps x) = flat_step f v x
flat_does f v drains = flat_drain f
flat_does f v (lends b m c) = pick (lengths_right f.shape b m) (flat_does f v c) (refuse 2 f)

-- any list of calls: what they say, and what is left at the end
unfoldable pub flat_answers : Flat → List Given → List Said
flat_answers f [] = []
flat_answers f (c ∷ cs) = (flat_does f c.unseen c.call).said ∷ flat_answers (flat_does f c.unseen c.call).flat cs

unfoldable pub flat_ended : Flat → List Given → Flat
flat_ended f [] = f
flat_ended f (c ∷ cs) = flat_ended (flat_does f c.unseen c.call).flat cs
