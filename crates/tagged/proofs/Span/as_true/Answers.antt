-- 1 or 2, else 6.
use mathlib.Core.Path.{◌≡◌, sym, ◌∙◌}
use native.Mathlib.Omega.{arith}
use borrow.Author.Rules.{rules}
use Rattle.laws.specs.Refusal.{number, refused_with}
use Rattle.laws.proofs.Told.{number-some}
use Rattle.tagged.proofs.Refusals.{misfit-as-true, sized-then}
use Rattle.tagged.proofs.Span.as_true.Goals as goal

pub returns-in_err-new-clause-told : goal.returns-in_err-new-clause-told
returns-in_err-new-clause-told c =
    let some = number-some c.in_err-new.field-0.0 in
    let told : refused_with c.from_residual.result ≡ number c.in_err-new.field-0.0 = search rules in
    told ∙ c.in_err-new.ensures.told ∙ sym (misfit-as-true _ _ _ _ (omega (arith, some, c.in_err-new.ensures.told)))

pub returns-clause-told : goal.returns-clause-told
returns-clause-told c =
    let ok = c.in_ok-new.ensures in
    c.span.ensures.told ∙ rw (ok.same.0) (sym (sized-then _ _ _ _ (sym ok.told)))
