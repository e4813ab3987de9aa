-- A tracker's fields as a step changes them: 01 "One step of a tracker".
use Rattle.std.specs.Prelude.{Bool, true, false, ℕ, suc, min, ltb}
use Rattle.laws.specs.Choice.{pick, both}
use Rattle.tracker.specs.declared.Phase.{Phase}
use Rattle.tracker.specs.declared.Phase.TheVariants.{Idle, Probe, Top, Under, Set, Clear}
use Rattle.tracker.specs.declared.Access.{Access}
use Rattle.tracker.specs.declared.Transfers.{Transfers}
use Rattle.tracker.specs.declared.Tracker.{Tracker}
use Rattle.tracker.specs.Transfers.{none, plus}

-- "every tracker idle, and their other fields zero"
abbrev pub idle : Tracker
idle = record { phase = Idle; write = false; bottom = false; group = 0; value = 0; turns = 0; transfers = none }

-- what a tracker is at each phase: at rest; holding its top block ("from the Top step to the end"); at Finish, its moment behind it; and the level that the phase is of
pub record Standing : Type 0 where
  pub rests : Bool
  pub holds : Bool
  pub finishes : Bool
  pub level : ℕ

abbrev standing : Bool → Bool → Bool → ℕ → Standing
standing rests holds finishes level = record { rests = rests; holds = holds; finishes = finishes; level = level }

-- Probe d looks at its block of level d; Top asks for its top block; Under d works on its block of level d, under the bit over it; Set d and Clear d put the
-- bit over its block of level d. 01's Map is Top, its Leaf is Under 0, its Finish Set 0 and Clear 0.
--                             rests holds finishes level
abbrev pub stands : Phase → Standing
stands Idle = standing true false false 0
stands (Probe d) = standing false false false d
stands Top = standing false false false 0
stands (Under d) = standing false true false d
stands (Set d) = standing false true true d
stands (Clear d) = standing false true true d

abbrev pub is_idle_at : Phase → Bool
is_idle_at p = (stands p).rests

abbrev pub holds_at : Phase → Bool
holds_at p = (stands p).holds

abbrev pub at_finish : Phase → Bool
at_finish p = (stands p).finishes

abbrev pub level_of : Phase → ℕ
level_of p = (stands p).level

-- the levels, 1 and up, whose block a state must have in a line: those above the phase's own. "at Leaf and Finish map, whole asks for that line"
unfoldable pub asks_at : Phase → ℕ → Bool
asks_at p e = both (holds_at p) (ltb (level_of p) e)

-- those whose line isn't replaced, if there is one: "From its Map step on, a holder's map line isn't replaced"
unfoldable pub keeps_at : Phase → ℕ → Bool
keeps_at p e = both (holds_at p) (ltb (pick (at_finish p) 0 (level_of p)) e)

abbrev pub is_idle : Tracker → Bool
is_idle t = is_idle_at t.phase

-- "Probe (bottom-up only, first)"; top-down an access begins at Top
abbrev pub first_phase : Bool → Phase
first_phase bottom = pick bottom (Probe 0) Top

-- "Steps: Probe leaf, Probe map (bottom-up), Top": after Probe d
abbrev pub after_probe : (top d : ℕ) → Phase
after_probe top d = pick (ltb (suc d) top) (Probe (suc d)) Top

-- Finish, by what it does to the bit
abbrev pub finish_at : (set : Bool) → ℕ → Phase
finish_at set d = pick set (Set d) (Clear d)

-- "An access is a read or a write of value v, of group g, top-down or bottom-up."
abbrev pub read_of : (bottom : Bool) (g : ℕ) → Access
read_of bottom g = record { write = false; bottom = bottom; group = g; value = 0 }

abbrev pub write_of : (bottom : Bool) (g v : ℕ) → Access
write_of bottom g v = record { write = true; bottom = bottom; group = g; value = v }

-- a tracker whose access was just issued
abbrev pub issued : Access → Tracker
issued a =
    record { phase = first_phase a.bottom; write = a.write; bottom = a.bottom; group = a.group; value = pick a.write a.value 0; turns = 0; transfers = none }

-- "its turns: steps given since the issue, waits included; it stays at 65,535 once there"
abbrev pub most_turns : ℕ
most_turns = 65535

abbrev pub tick : ℕ → ℕ
tick k = min (suc k) most_turns

-- the tracker at a phase, one turn more, with its transfers
abbrev pub at : Tracker → Phase → Transfers → Tracker
at t p m = record { phase = p; write = t.write; bottom = t.bottom; group = t.group; value = t.value; turns = tick t.turns; transfers = m }

-- the tracker on its way to a phase; 02 E4: "the tracker adds them up", the transfers of its step
abbrev pub goes_to : Tracker → Phase → (more : Transfers) → Tracker
goes_to t p more = at t p (plus t.transfers more)

-- "wait, nothing changes but the turn count"
abbrev pub counted : Tracker → Tracker
counted t = at t t.phase t.transfers
