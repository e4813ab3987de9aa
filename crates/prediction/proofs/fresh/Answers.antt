-- Refused, nothing is touched; else both rows come back as zeros.
use mathlib.Core.Path.{◌≡◌, refl, ap, ◌∙◌}
use Prim.Native.Nat.{ℕ}
use native.Mathlib.Omega.{arith}
use borrow.Author.Rules.{rules}
use Rattle.laws.specs.Refusal.{number, given_done}
use Rattle.laws.proofs.Told.{number-some}
use Rattle.prediction.specs.Calls.{lent, done, refused}
use Rattle.prediction.proofs.Refusals.{fresh-refused, fresh-leaves}
use Rattle.prediction.proofs.fresh.Goals as goal

pub returns-in_err-lent : goal.returns-in_err-lent
returns-in_err-lent c =
    let s = lent c.args.tags.now c.args.bits.now in
    let r = number c.in_err-lent.field-0.0 in
    let some = number-some c.in_err-lent.field-0.0 in
    let told : given_done c.from_residual.result ≡ refused r = search rules in
    ap (λ (x : ℕ). done x s) told ∙ fresh-refused _ _ s c.in_err-lent.ensures.told (λ z. omega (arith, some))

pub returns : goal.returns
returns c =
    fresh-leaves _ _ (lent c.args.tags.now c.args.bits.now) c.in_ok-lent.ensures.told refl c.clear.ensures c.clear-2.ensures
