-- The group and the leaves, or why not.
use mathlib.Core.Path.{◌≡◌, sym, ◌∙◌}
use borrow.Author.Rules.{rules}
use Rattle.laws.specs.Refusal.{number}
use Rattle.laws.proofs.Told.{number-some}
use Rattle.tagged.specs.Tagged.{told, refused}
use Rattle.tagged.proofs.Refusals.{between-no, told-said}
use Rattle.tagged.proofs.between.Goals as goal

pub returns-in_err-span : goal.returns-in_err-span
returns-in_err-span c =
    let some = number-some c.in_err-span.field-0.0 in
    let no : told c.from_residual.result ≡ refused (number c.in_err-span.field-0.0) = search rules in
    no ∙ sym (between-no _ _ _ _ _ c.in_err-span.ensures.told some)

pub returns : goal.returns
returns c =
    let ok = c.in_ok-span.ensures in
    told-said _ _ _ _ _ (rw (ok.same.0, ok.same.1, ok.same.2, ok.same.3) at c.lowest.ensures) (sym ok.told) _ (rw (ok.same.0, ok.same.1, ok.same.2, ok.same.3) at c.leaves.ensures)
