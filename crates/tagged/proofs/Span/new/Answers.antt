-- 1 or 2, else 3, else 6.
use mathlib.Core.Path.{◌≡◌, sym, ◌∙◌}
use native.Mathlib.Omega.{arith}
use borrow.Author.Rules.{rules}
use Rattle.laws.specs.Refusal.{number, refused_with}
use Rattle.laws.proofs.Told.{number-some}
use Rattle.tagged.proofs.Refusals.{misfit-then, untrue-3, true-then}
use Rattle.tagged.proofs.Span.new.Goals as goal

pub returns-in_err-memory-clause-told : goal.returns-in_err-memory-clause-told
returns-in_err-memory-clause-told c =
    let some = number-some c.in_err-memory.field-0.0 in
    let told : refused_with c.from_residual.result ≡ number c.in_err-memory.field-0.0 = search rules in
    told ∙ c.in_err-memory.ensures.told ∙ sym (misfit-then _ _ _ _ (omega (arith, some, c.in_err-memory.ensures.told)))

pub returns-then-not-is_true-clause-told : goal.returns-then-not-is_true-clause-told
returns-then-not-is_true-clause-told c =
    let ok = c.in_ok-memory.ensures in
    sym (untrue-3 _ _ _ _ (sym ok.told) (sym (rw ok.same.0 at c.if-not-is_true.ensures)))

pub returns-clause-told : goal.returns-clause-told
returns-clause-told c =
    let ok = c.in_ok-memory.ensures in
    c.span.ensures.told ∙ rw (ok.same.0) (sym (true-then _ _ _ _ (sym ok.told) (sym (rw ok.same.0 at c.if-not-is_true.ensures))))
