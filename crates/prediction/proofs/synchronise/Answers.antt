-- Refused, nothing is touched; else the run's bit is made what its groups say.
use mathlib.Core.Path.{◌≡◌, refl, sym, ap, ◌∙◌}
use Prim.Native.Nat.{ℕ}
use native.Mathlib.Omega.{arith}
use borrow.Author.Rules.{rules}
use Rattle.laws.specs.Refusal.{number, given_done}
use Rattle.laws.proofs.Told.{number-some}
use Rattle.prediction.specs.Calls.{lent, done, refused}
use Rattle.prediction.proofs.Refusals.{is-reached, synchronise-refused, synchronise-leaves}
use Rattle.prediction.proofs.synchronise.Goals as goal

pub returns-in_err-runs : goal.returns-in_err-runs
returns-in_err-runs c =
    let s = lent c.args.tags.now c.args.bits.now in
    let r = number c.in_err-runs.field-0.0 in
    let some = number-some c.in_err-runs.field-0.0 in
    let told : given_done c.from_residual.result ≡ refused r = search rules in
    ap (λ (x : ℕ). done x s) told ∙ synchronise-refused _ _ s _ c.in_err-runs.ensures.told (λ z. omega (arith, some))

pub any_in-requires : goal.any_in-requires
any_in-requires c =
    let ok = c.in_ok-runs.ensures in
    let reached = is-reached _ _ _ _ _ _ (sym ok.told) in
    rw (ok.same.0, ok.same.1, ok.same.2) (reached.1, reached.0.tags)

pub returns : goal.returns
returns c =
    let ok = c.in_ok-runs.ensures in
    synchronise-leaves _ _ (lent c.args.tags.now c.args.bits.now) _ ok.told refl
    (rw (c.any_in.ensures, ok.same.0, ok.same.1, ok.same.2) at c.put_run_bit.ensures)
