-- Before each turn no leaf from k on, up to word i's first, has bit 1.
use mathlib.Core.Path.{◌≡◌}
use Prim.Native.Nat.{◌*◌}
use Rattle.memory.specs.PlainReading.{next_marked}
use Rattle.memory.proofs.next_marked.Given as goal

abbrev pub invariant-loop-i : goal.invariant-loop-i
invariant-loop-i l = next_marked l.n l.memory (32 * l.i) l.end ≡ next_marked l.n l.memory l.k l.end
