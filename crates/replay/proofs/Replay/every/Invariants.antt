-- `every` ends: what there is still to look at falls.
use Prim.Native.Nat.{◌-◌, ◌≤◌}
use Rattle.replay.proofs.Replay.every.Given as goal

abbrev pub invariant-loop-from : goal.invariant-loop-from
invariant-loop-from l = l.from ≤ l.end

abbrev pub decreases-loop-from : goal.decreases-loop-from
decreases-loop-from l = l.end - l.from
