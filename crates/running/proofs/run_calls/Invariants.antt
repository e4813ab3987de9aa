-- `run_calls` meets its contract: between two calls, what is done is the first of them (Going).
use mathlib.Core.Path.{◌≡◌}
use lib.ListN.{length}
use Rattle.running.proofs.Going.{Going, under}
use Rattle.running.proofs.run_calls.Given as goal

abbrev pub invariant-loop-i : goal.invariant-loop-i
invariant-loop-i l =
    Going (under l.initial.shape l.initial.lines l.initial.trackers l.initial.bytes l.initial.memory l.initial.answers).kept l.calls l.initial.answers l.i (under l.shape l.lines l.trackers l.bytes l.memory l.answers)
    × (length l.lines ≡ 64) × (length l.trackers ≡ 8)
