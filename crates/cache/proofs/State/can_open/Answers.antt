-- `can_open` meets its contract: 1 or 2, else what comes after them.
use mathlib.Core.Path.{sym, ap, ◌∙◌}
use Rattle.std.proofs.lemmas.Result.{err_from_is_err_and}
use Rattle.geometry.specs.declared.Shape.{Shape}
use Rattle.memory.specs.True.{is_true}
use Rattle.cache.proofs.Refusals.{open-unready, open-not-true, open-free}
use Rattle.cache.proofs.State.can_open.Goals as goal

pub returns-in_err-shape-clause-no : goal.returns-in_err-shape-clause-no
returns-in_err-shape-clause-no c =
    let a = c.args in
    let p = err_from_is_err_and c.from_residual.result c.from_residual.ensures.1 in
    rw (p.1, p.2) (open-unready a.n a.t a.l a.bytes.now a.memory.now _ c.in_err-shape.ensures.no)

pub returns-then-not-is_true-clause-no : goal.returns-then-not-is_true-clause-no
returns-then-not-is_true-clause-no c =
    let a = c.args in
    open-not-true a.n a.t a.l a.bytes.now a.memory.now (sym c.in_ok-shape.ensures.no)
    (ap (λ (z : Shape). is_true z.n a.memory.now) (sym c.in_ok-shape.ensures.shape) ∙ sym c.is_true.ensures ∙ c.if-not-is_true.true)

pub returns-clause-no : goal.returns-clause-no
returns-clause-no c =
    let a = c.args in
    open-free a.n a.t a.l a.bytes.now a.memory.now (sym c.in_ok-shape.ensures.no)
    (ap (λ (z : Shape). is_true z.n a.memory.now) (sym c.in_ok-shape.ensures.shape) ∙ sym c.is_true.ensures ∙ c.if-not-is_true.false)
