-- Whether a block counts, level by level upwards: before each turn, what is left to ask is the whole answer.
use mathlib.Core.Path.{◌≡◌}
use Prim.Native.Nat.{◌-◌}
use Rattle.memory.specs.PlainReading.{counts}
use Rattle.memory.proofs.counts.Given as goal

abbrev pub invariant-loop-c : goal.invariant-loop-c
invariant-loop-c l = counts (l.top - l.e) l.e l.n l.memory l.k ≡ counts (l.top - l.c) l.c l.n l.memory l.j
