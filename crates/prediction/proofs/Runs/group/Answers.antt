-- The refusals before it, then 6; past them n, c and the lengths are as they are to be.
use mathlib.Core.Path.{◌≡◌, sym, ◌∙◌}
use Prim.Native.Nat.{◌≤◌, ◌<◌}
use native.Mathlib.Omega.{arith}
use borrow.Author.Rules.{rules}
use Rattle.laws.specs.Refusal.{number, refused_with}
use Rattle.laws.proofs.Told.{number-some}
use Rattle.geometry.specs.TagMemory.{groups}
use Rattle.geometry.proofs.Places.{groups-most}
use Rattle.prediction.proofs.Refusals.{is-ready, refused-before, refused-6, reached-0}
use Rattle.prediction.proofs.Runs.group.Goals as goal

pub returns-in_err-runs-clause-told : goal.returns-in_err-runs-clause-told
returns-in_err-runs-clause-told c =
    let told : refused_with c.from_residual.result ≡ number c.in_err-runs.field-0.0 = search rules in
    let some = number-some c.in_err-runs.field-0.0 in
    told ∙ c.in_err-runs.ensures.told ∙ sym (refused-before _ _ _ _ _ _ (λ q. omega (arith, some, c.in_err-runs.ensures.told)))

pub returns-then-groups-g-clause-told : goal.returns-then-groups-g-clause-told
returns-then-groups-g-clause-told c =
    let a = c.args in
    let past : groups a.n ≤ a.g = rw (← c.in_ok-runs.ensures.same.0) (omega (arith, c.groups.ensures)) in
    sym (refused-6 _ _ _ _ _ _ (is-ready _ _ _ _ (sym c.in_ok-runs.ensures.told)) past)

pub overflow_cast-result : goal.overflow_cast-result
overflow_cast-result c = omega (arith, c.groups.ensures, groups-most c.in_ok-runs.runs.n 262144 c.in_ok-runs.runs.few)

pub returns-clause-told : goal.returns-clause-told
returns-clause-told c =
    let a = c.args in
    let there : a.g < groups a.n = rw (← c.in_ok-runs.ensures.same.0) (omega (arith, c.groups.ensures)) in
    sym (reached-0 _ _ _ _ _ _ (is-ready _ _ _ _ (sym c.in_ok-runs.ensures.told)) there)
