-- `text::count` meets its contract: no digits but one, or v is below the next power of 10.
use mathlib.Core.Path.{refl}
use Prim.Native.Nat.{◌+◌, ◌^◌}
use native.Mathlib.Nat.{pow-succ'}
use native.Mathlib.Numerals.{add-one}
use native.Mathlib.Omega.{arith}
use Rattle.wording.proofs.Numbers.{places_is}
use Rattle.text.proofs.count.Goals as goal

pub returns-then-v-eq0 : goal.returns-then-v-eq0
returns-then-v-eq0 c = places_is c.args.v 0 10 refl (λ z. omega arith) (omega arith)

pub returns-else-v-eq0 : goal.returns-else-v-eq0
returns-else-v-eq0 c =
    let k = c.ilog10.result in
    places_is c.args.v k (10 ^ (k + 1)) refl (λ _. c.ilog10.ensures.power_le) (rw (add-one k, pow-succ' 10 k) c.ilog10.ensures.next_power_gt)
