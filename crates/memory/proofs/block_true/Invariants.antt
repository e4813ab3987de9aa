-- The true test of a block, a word at a time: before each turn every bit of the words passed is good.
use mathlib.Core.Path.{◌≡◌}
use mathlib.Core.Bool.{true}
use Prim.Native.Nat.{◌+◌, ◌-◌, ◌*◌}
use Rattle.laws.specs.Scan.{all}
use Rattle.memory.specs.True.{true_on}
use Rattle.memory.proofs.block_true.Given as goal

abbrev pub invariant-loop-i : goal.invariant-loop-i
invariant-loop-i l = all (λ x. true_on (l.top - l.e) l.e l.n l.memory (512 * l.j + x)) (32 * l.i) ≡ true
