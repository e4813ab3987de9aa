-- The state of the code as the rules speak of it, and what a call did.
use Rattle.std.specs.Prelude.{List, ℕ}
use Rattle.laws.specs.Refusal.{refusal}
use Rattle.geometry.specs.Shape.{shape_of}
use Rattle.tracker.specs.Answer.{says}
use Rattle.rules.specs.State as rules
use Rattle.rules.specs.Calls as calls
use Rattle.cache.specs.declared.State.{State}
use Rattle.cache.specs.declared.Out.{Out}

-- field by field
abbrev pub seen : State → rules.State
seen s = record { shape = s.shape; lines = s.lines; trackers = s.trackers }

-- refusals 1 and 2, which come first in fresh and open; 0 for neither
abbrev pub unready : ℕ → ℕ → ℕ → List ℕ → List ℕ → ℕ
unready n t l bytes memory = refusal (calls.fresh_tests (shape_of n t l) bytes memory)

-- refusals 4 and 2, which come first in each call on a state; 0 for neither
abbrev pub unfit : rules.State → List ℕ → List ℕ → ℕ
unfit s bytes memory = refusal (calls.state_tests s bytes memory)

-- what a call says, the state and the transfers that it hands back, and the line bytes and the memory that it leaves
abbrev pub did : Out → List ℕ → List ℕ → calls.Out
did r bytes memory = record { said = says r.answer; state = seen r.state; bytes = bytes; memory = memory; transfers = r.transfers }
