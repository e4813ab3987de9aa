-- `index` meets its contract: the block of level _i, level by level.
use mathlib.Core.Path.{◌≡◌}
use Rattle.geometry.specs.TagMemory.{index}
use Rattle.geometry.proofs.Geometry.index.Given as goal

abbrev pub invariant-loop-i : goal.invariant-loop-i
invariant-loop-i l = l.k ≡ index l._i l.g
