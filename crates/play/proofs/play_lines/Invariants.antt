-- `play_lines` meets its contract: between two lines, what is left to do is all there was to do (Going).
use mathlib.Core.Path.{◌≡◌}
use Prim.Native.Nat.{◌-◌}
use lib.ListN.{length}
use Rattle.play.proofs.Going.{Going, under}
use Rattle.play.proofs.play_lines.Given as goal

abbrev pub invariant-loop-e : goal.invariant-loop-e
invariant-loop-e l =
    Going l.input (under l.initial.shape l.initial.lines l.initial.trackers l.initial.bytes l.initial.memory l.fn.number 0 l.initial.output 0)
    (under l.shape l.lines l.trackers l.bytes l.memory l.place.number l.place.taken l.output l.place.written)
    × (length l.lines ≡ 64) × (length l.trackers ≡ 8) × (length l.bytes ≡ length l.initial.bytes) × (length l.memory ≡ length l.initial.memory) × (length l.output ≡ length l.initial.output)

abbrev pub decreases-loop-e : goal.decreases-loop-e
decreases-loop-e l = length l.input - l.place.taken
