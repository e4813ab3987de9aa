-- `base` meets its contract: the blocks of the levels below _i and those of level _i, level by level.
use mathlib.Core.Path.{◌≡◌}
use Rattle.geometry.specs.TagMemory.{count, base}
use Rattle.geometry.proofs.Geometry.base.Given as goal

abbrev pub invariant-loop-i : goal.invariant-loop-i
invariant-loop-i l = (l.below ≡ base l._i l.n) × (l.blocks ≡ count l._i l.n)
