-- What the code's state is to the definitions.
use Rattle.std.specs.Prelude.{List, ℕ}
use Rattle.rules.specs.Run.{Kept}
use Rattle.cache.specs.declared.State.{State}
use Rattle.cache.specs.Seen.{seen}
use Rattle.running.specs.Run.{Ran}

-- the state with what is lent
abbrev pub kept : State → List ℕ → List ℕ → Kept
kept s bytes memory = record { state = seen s; bytes = bytes; memory = memory }

-- and with the answers' words
abbrev pub left : State → List ℕ → List ℕ → List ℕ → Ran
left s bytes memory answers = record { kept = kept s bytes memory; answers = answers }
