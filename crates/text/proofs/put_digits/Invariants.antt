-- `text::put_digits` meets its contract: the digits after `i` are in place, and `rest` is what is left of v.
use mathlib.Core.Path.{◌≡◌}
use Prim.Native.Nat.{◌-◌, ◌/◌, ◌^◌}
use lib.ListN.{length}
use Rattle.laws.specs.Bytes.{splice}
use Rattle.wording.specs.Text.{digits}
use Rattle.text.proofs.put_digits.Given as goal

abbrev pub invariant-loop-i : goal.invariant-loop-i
invariant-loop-i l =
    let w = length l.initial.out in
    (l.out ≡ splice l.initial.out l.i (digits l.base (w - l.i) l.v)) × (l.rest ≡ l.v / l.base ^ (w - l.i))
