-- Before each turn the marked leaves of the bytes passed are counted.
use mathlib.Core.Path.{◌≡◌}
use Prim.Native.Nat.{◌*◌}
use Rattle.laws.specs.Scan.{count_from}
use Rattle.tagged.specs.Tagged.{is_marked}
use Rattle.tagged.proofs.Memory.in_bytes.Given as goal

abbrev pub invariant-loop-i : goal.invariant-loop-i
invariant-loop-i l = l.leaves ≡ count_from (is_marked l.self.n l.self.bytes.now) (8 * l.j) (8 * l.i)
