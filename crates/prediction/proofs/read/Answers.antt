-- Refused, its number; else the group under its bit.
use mathlib.Core.Path.{◌≡◌, refl, ◌∙◌}
use native.Mathlib.Omega.{arith}
use borrow.Author.Rules.{rules}
use Rattle.laws.specs.Refusal.{number, given}
use Rattle.laws.proofs.Told.{number-some}
use Rattle.prediction.specs.Calls.{lent, refused}
use Rattle.prediction.proofs.Refusals.{read-refused, read_done}
use Rattle.prediction.proofs.read.Goals as goal

pub returns-in_err-runs-clause-told : goal.returns-in_err-runs-clause-told
returns-in_err-runs-clause-told c =
    let s = lent c.args.tags.now c.args.bits.now in
    let r = number c.in_err-runs.field-0.0 in
    let some = number-some c.in_err-runs.field-0.0 in
    let told : given c.from_residual.result ≡ refused r = search rules in
    told ∙ read-refused _ _ s _ c.in_err-runs.ensures.told (λ z. omega (arith, some))

pub returns-clause-told : goal.returns-clause-told
returns-clause-told c =
    let ok = c.in_ok-runs.ensures in
    cc (read_done c.args.n c.args.c (lent c.args.tags.now c.args.bits.now) c.args.g ok.told refl, ok.same.1, ok.same.2, c.group_read.ensures)
