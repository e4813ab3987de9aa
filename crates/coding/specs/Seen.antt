-- What a state that may be none is to the definitions.
use Rattle.std.specs.Prelude.{Bool, true, false, Option, Some, None}
use Rattle.rules.specs.State as rules
use Rattle.rules.specs.State.{zero_state}
use Rattle.cache.specs.declared.State.{State}
use Rattle.cache.specs.Seen.{seen}

-- whether there is one
abbrev pub is_coded : Option State → Bool
is_coded (Some s) = true
is_coded None = false

-- the state; where there is none it is zero throughout, which is broken
abbrev pub coded_state : Option State → rules.State
coded_state (Some s) = seen s
coded_state None = zero_state
