-- The refusals before it, then 6; past them n, c and the lengths are as they are to be.
use mathlib.Core.Path.{◌≡◌, sym, ◌∙◌}
use Prim.Native.Nat.{◌≤◌, ◌<◌}
use native.Mathlib.Omega.{arith}
use borrow.Author.Rules.{rules}
use Rattle.laws.specs.Refusal.{number, refused_with}
use Rattle.laws.proofs.Told.{number-some}
use Rattle.geometry.proofs.Places.{groups-most}
use Rattle.prediction.specs.Runs.{runs}
use Rattle.prediction.proofs.RunsOf.{runs-most}
use Rattle.prediction.proofs.Refusals.{is-ready, refused-before, refused-6, reached-0}
use Rattle.prediction.proofs.Runs.run.Goals as goal

pub returns-in_err-runs-clause-told : goal.returns-in_err-runs-clause-told
returns-in_err-runs-clause-told c =
    let told : refused_with c.from_residual.result ≡ number c.in_err-runs.field-0.0 = search rules in
    let some = number-some c.in_err-runs.field-0.0 in
    told ∙ c.in_err-runs.ensures.told ∙ sym (refused-before _ _ _ _ _ _ (λ q. omega (arith, some, c.in_err-runs.ensures.told)))

pub returns-then-count-r-clause-told : goal.returns-then-count-r-clause-told
returns-then-count-r-clause-told c =
    let a = c.args in
    let past : runs a.n a.c ≤ a.r = rw (← c.in_ok-runs.ensures.same.0, ← c.in_ok-runs.ensures.same.1) (omega (arith, c.count.ensures)) in
    sym (refused-6 _ _ _ _ _ _ (is-ready _ _ _ _ (sym c.in_ok-runs.ensures.told)) past)

pub overflow_cast-result : goal.overflow_cast-result
overflow_cast-result c =
    let runs = c.in_ok-runs.runs in
    omega (arith, c.count.ensures, runs-most runs.n runs.c runs.some, groups-most runs.n 262144 runs.few)

pub returns-clause-told : goal.returns-clause-told
returns-clause-told c =
    let a = c.args in
    let there : a.r < runs a.n a.c = rw (← c.in_ok-runs.ensures.same.0, ← c.in_ok-runs.ensures.same.1) (omega (arith, c.count.ensures)) in
    sym (reached-0 _ _ _ _ _ _ (is-ready _ _ _ _ (sym c.in_ok-runs.ensures.told)) there)
