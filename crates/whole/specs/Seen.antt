-- The parts as the rules speak of the state that has them.
use Rattle.rules.specs.State.{State}
use Rattle.whole.specs.declared.Parts.{Parts}
use Rattle.whole.specs.Parts.{state_of}

abbrev pub seen : Parts → State
seen p = state_of p.shape p.lines.now p.trackers.now
