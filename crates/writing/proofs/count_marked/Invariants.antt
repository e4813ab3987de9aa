-- `writing::count_marked` meets its contract: m counts the leaves with bit 1 of the words before word i.
use mathlib.Core.Path.{◌≡◌}
use Prim.Native.Nat.{◌*◌}
use lib.ListN.{length}
use Rattle.form.specs.Encode.{records_below}
use Rattle.writing.proofs.count_marked.Given as goal

abbrev pub invariant-loop-i : goal.invariant-loop-i
invariant-loop-i l = l.m ≡ length (records_below l.n l.memory (32 * l.i))
