-- `refuse_all` meets its contract: between two lines, what is left to do is all there was to do (Rest).
use Prim.Native.Nat.{◌≤◌, ◌-◌}
use lib.ListN.{length}
use Rattle.rules.specs.Run.{Kept}
use Rattle.play.specs.Play.{refuses, starts}
use Rattle.play.specs.Seen.{left_refused}
use Rattle.play.proofs.Going.{Rest}
use Rattle.play.proofs.refuse_all.Given as goal

abbrev pub invariant-loop-e : goal.invariant-loop-e
invariant-loop-e l =
    ((k : Kept) → Rest refuses l.input (starts k l.fn.number l.initial.output) (left_refused k l.place l.output))
    × (l.place.taken ≤ length l.input)

abbrev pub decreases-loop-e : goal.decreases-loop-e
decreases-loop-e l = length l.input - l.place.taken
