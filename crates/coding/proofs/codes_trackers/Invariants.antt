-- `codes_trackers` meets its contract. The invariant: the words of the first x trackers code them.
use mathlib.Core.Path.{◌≡◌}
use mathlib.Core.Bool.{true}
use Rattle.laws.specs.Scan.{all}
use Rattle.coding.specs.Words.{tracker_place, codes_tracker}
use Rattle.coding.proofs.codes_trackers.Given as goal

abbrev pub invariant-loop-x : goal.invariant-loop-x
invariant-loop-x l = all (λ x. codes_tracker l.words (tracker_place x)) l.x ≡ true
