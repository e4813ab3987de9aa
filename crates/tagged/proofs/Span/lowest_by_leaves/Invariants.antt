-- Before each turn every group passed reads zero; a turn goes on to the next leaf with a mark.
use mathlib.Core.Path.{◌≡◌}
use Prim.Native.Nat.{◌-◌, ◌≤◌}
use Rattle.laws.specs.Scan.{first_from}
use Rattle.tagged.specs.Tagged.{is_tagged}
use Rattle.tagged.proofs.Span.lowest_by_leaves.Given as goal

abbrev pub invariant-loop-g : goal.invariant-loop-g
invariant-loop-g l = (l.initial.g ≤ l.g) × (l.g ≤ l.b) × (first_from (is_tagged l.memory.n l.memory.bytes.now) l.g l.b ≡ first_from (is_tagged l.memory.n l.memory.bytes.now) l.initial.g l.b)

abbrev pub decreases-loop-g : goal.decreases-loop-g
decreases-loop-g l = l.b - l.g
