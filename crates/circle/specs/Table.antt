-- 01 "One step of a tracker", the tracker's part alone: where a step takes an access, apart from lines and memory, over the levels of the device (02, E5).
use Rattle.std.specs.Prelude.{Bool, true, false, ℕ, zero, suc, ltb}
use Rattle.laws.specs.Choice.{pick}
use Rattle.tracker.specs.declared.Phase.{Phase}
use Rattle.tracker.specs.declared.Phase.TheVariants.{Idle, Probe, Top, Under, Set, Clear}
use Rattle.tracker.specs.Tracker.{after_probe, finish_at}

-- a step waits, goes on to a phase, or ends the access
pub data Move (At : Type 0) : Type 0 where
  waits : Move At
  to : At → Move At
  ends : Move At

-- Finish at level d: "Finish map ends the access unless the top bit must change"; at the top there is no bit above
abbrev pub onward : (below : ℕ) (quit : Bool) (d : ℕ) → Phase → Move Phase
onward below true d p = ends
onward below false d p = pick (ltb d below) (to p) ends

-- `below`: the level below the top; 01's device has 0. `held`: another tracker holds this top block. `quit`: what the lines and the memory have ends the access at this
-- step. `set`: a write goes on to set the bit over its leaf, else to clear it.
--   Idle: it has no step (refusal 8), and this line has no use.
--   Probe: ends, or goes on to the next Probe, after the last to Top.
--   Top, 01's Map: "If another tracker holds this map block: wait", else ends, or goes on down.
--   Under 0, 01's Leaf: a read ends; a write ends, or goes on to Finish, which sets or clears the bit.
--   Under above it, E5's Map: ends, or goes on down.
--   Finish: ends, or goes on to the bit above.
abbrev pub rule : (below : ℕ) (held quit set write : Bool) → Phase → Move Phase
rule below held quit set write Idle = ends
rule below held true set write (Probe d) = ends
rule below held false set write (Probe d) = to (after_probe (suc below) d)
rule below true quit set write Top = waits
rule below false true set write Top = ends
rule below false false set write Top = to (Under below)
rule below held quit set false (Under zero) = ends
rule below held true set true (Under zero) = ends
rule below held false set true (Under zero) = to (finish_at set 0)
rule below held true set write (Under (suc e)) = ends
rule below held false set write (Under (suc e)) = to (Under e)
rule below held quit set write (Set d) = onward below quit d (Set (suc d))
rule below held quit set write (Clear d) = onward below quit d (Clear (suc d))
