-- `trackers_in` meets its contract. The invariant: the first x trackers are those of the first x places.
use mathlib.Core.Path.{◌≡◌}
use mathlib.Core.List.{◌++◌}
use lib.ListN.{drop}
use Rattle.coding.specs.Words.{trackers_to}
use Rattle.coding.proofs.trackers_in.Given as goal

abbrev pub invariant-loop-x : goal.invariant-loop-x
invariant-loop-x l = l.tracker-items ≡ trackers_to l.words l.x ++ drop l.x l.initial.tracker-items
