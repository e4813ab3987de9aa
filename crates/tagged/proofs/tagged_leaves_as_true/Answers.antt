-- The leaves, or why not.
use mathlib.Core.Path.{◌≡◌, sym, ◌∙◌}
use Prim.Native.Nat.{◌+◌}
use borrow.Author.Rules.{rules}
use Rattle.laws.specs.Refusal.{number, given}
use Rattle.laws.proofs.Told.{number-some}
use Rattle.tagged.proofs.Refusals.{leaves-no, leaves-is}
use Rattle.tagged.proofs.tagged_leaves_as_true.Goals as goal

pub returns-in_err-as_true-clause-told : goal.returns-in_err-as_true-clause-told
returns-in_err-as_true-clause-told c =
    let some = number-some c.in_err-as_true.field-0.0 in
    let told : given c.from_residual.result ≡ 4294967296 + number c.in_err-as_true.field-0.0 = search rules in
    told ∙ sym (leaves-no _ _ _ _ _ c.in_err-as_true.ensures.told some)

pub returns-clause-told : goal.returns-clause-told
returns-clause-told c =
    let ok = c.in_ok-as_true.ensures in
    (rw (ok.same.0, ok.same.1, ok.same.2, ok.same.3) at c.leaves.ensures) ∙ sym (leaves-is _ _ _ _ (sym ok.told))
