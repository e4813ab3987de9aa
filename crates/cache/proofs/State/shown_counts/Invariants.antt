-- `shown_counts` meets its contract. The invariant: it is what the bits from level e on say of the block above.
use mathlib.Core.Path.{◌≡◌}
use Prim.Native.Nat.{◌-◌}
use Rattle.geometry.specs.Shape.{top_of}
use Rattle.rules.specs.Calls.{shown_counts}
use Rattle.cache.specs.Seen.{seen}
use Rattle.cache.proofs.State.shown_counts.Given as goal

abbrev pub invariant-loop-e : goal.invariant-loop-e
invariant-loop-e l =
    shown_counts (seen l.self) l.bytes l.memory (top_of l.self.shape) 0 l.k ≡ shown_counts (seen l.self) l.bytes l.memory (top_of l.self.shape - l.e) l.e l.i
