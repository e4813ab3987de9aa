-- The true test of a level, a block above it at a time: before each turn every bit of the blocks passed is good.
use mathlib.Core.Path.{◌≡◌}
use mathlib.Core.Bool.{true}
use Prim.Native.Nat.{◌-◌, ◌*◌}
use Rattle.laws.specs.Scan.{all}
use Rattle.geometry.specs.TagMemory.{map_blocks}
use Rattle.memory.specs.True.{true_on}
use Rattle.memory.proofs.level_true.Given as goal

abbrev pub invariant-loop-j : goal.invariant-loop-j
invariant-loop-j l = (l.end ≡ map_blocks l.blocks) × (all (true_on (l.top - l.e) l.e l.n l.memory) (512 * l.j) ≡ true)
