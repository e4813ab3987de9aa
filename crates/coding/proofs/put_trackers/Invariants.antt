-- `put_trackers` meets its contract. The invariant: the words of the first x trackers are written.
use mathlib.Core.Path.{◌≡◌}
use lib.ListN.{take}
use Rattle.laws.specs.Bytes.{splice}
use Rattle.coding.specs.Words.{trackers_coded}
use Rattle.coding.proofs.put_trackers.Given as goal

abbrev pub invariant-loop-x : goal.invariant-loop-x
invariant-loop-x l = l.words ≡ splice l.initial.words 68 (trackers_coded (take l.x l.tracker-items))
