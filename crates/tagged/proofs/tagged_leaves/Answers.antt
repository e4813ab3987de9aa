-- The leaves, or why not.
use mathlib.Core.Path.{◌≡◌, ap, ◌∙◌}
use Prim.Native.Nat.{◌+◌}
use borrow.Author.Rules.{rules}
use Rattle.laws.specs.Refusal.{number, given}
use Rattle.laws.proofs.Told.{number-some}
use Rattle.tagged.specs.Tagged.{leaves_number}
use Rattle.tagged.proofs.Refusals.{leaves-refused, leaves-found}
use Rattle.tagged.proofs.tagged_leaves.Goals as goal

pub returns-in_err-between-clause-told : goal.returns-in_err-between-clause-told
returns-in_err-between-clause-told c =
    let some = number-some c.in_err-between.field-0.0 in
    let told : given c.from_residual.result ≡ 4294967296 + number c.in_err-between.field-0.0 = search rules in
    told ∙ leaves-refused _ some ∙ ap leaves_number c.in_err-between.ensures

pub returns-clause-told : goal.returns-clause-told
returns-clause-told c = leaves-found _ _ ∙ ap leaves_number c.in_ok-between.ensures
