-- `text::put_digits` meets its contract: the digits after `i` are in place, and `rest` is what is left of v.
use mathlib.Core.Path.{◌∙◌}
use Prim.Native.Nat.{◌-◌}
use native.Mathlib.Omega.{arith}
use lib.ListN.{length}
use Rattle.wording.proofs.Numbers.{rest-next, rest_all}
use Rattle.text.proofs.Writes.{digits-none, digits_more, digits-all}
use Rattle.text.proofs.put_digits.Goals as goal

pub loop-i-init : goal.loop-i-init
loop-i-init c =
    let a = c.args in
    let w = length a.out.now in (
      digits-none a.out.now a.base w a.v w (omega arith),
      rest_all a.base a.v (w - w) (omega arith),
    )

pub loop-i-preserved : goal.loop-i-preserved
loop-i-preserved c =
    let a = c.args in
    let l = c.loop-i in
    let w = length a.out.now in (
      rw l.invariant.0 (digits_more a.out.now a.base w a.v l.i (l.i - 1) l.rest _ (omega arith) (omega arith) (omega arith) l.invariant.1 c.digit.ensures),
      rest-next a.base a.v w l.i l.rest (omega arith) (omega arith) l.invariant.1,
    )

pub returns : goal.returns
returns c =
    let a = c.args in
    let l = c.loop-i in
    l.invariant.0 ∙ digits-all a.out.now a.base (length a.out.now) a.v l.i (omega arith) (omega arith)
