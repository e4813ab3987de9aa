-- The true test, a level at a time from the leaves up: before each turn every bit over the levels passed is good.
use mathlib.Core.Path.{◌≡◌}
use Rattle.geometry.specs.TagMemory.{base, count}
use Rattle.memory.proofs.Truth.{LevelsTo}
use Rattle.memory.proofs.is_true_of.Given as goal

abbrev pub invariant-loop-e : goal.invariant-loop-e
invariant-loop-e l = (l.first ≡ base l.e l.n) × (l.blocks ≡ count l.e l.n) × LevelsTo l.top l.n l.memory l.e
