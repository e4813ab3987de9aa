-- The copy: before each turn the first 16 i bytes are the block's and the others as they came.
use mathlib.Core.Path.{◌≡◌}
use Prim.Native.Nat.{◌*◌}
use lib.ListN.{length}
use Rattle.laws.specs.Bytes.{part, splice}
use Rattle.block.proofs.copy.Given as goal

abbrev pub invariant-loop-i : goal.invariant-loop-i
invariant-loop-i l = (l.to ≡ splice l.initial.to 0 (part l.from 0 (16 * l.i))) × (length l.to ≡ 64)
