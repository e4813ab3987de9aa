-- `ready` meets its contract, way by way: numbers in the limits fit their fields.
use mathlib.Core.Path.{sym, ap, ◌∙◌}
use native.Mathlib.Omega.{arith}
use Rattle.geometry.specs.declared.Shape.{Shape}
use Rattle.geometry.specs.Shape.{shape_of}
use Rattle.rules.specs.State.{lengths_right}
use Rattle.rules.proofs.Whole.{t-most}
use Rattle.whole.proofs.Tests.{limits-start}
use Rattle.cache.proofs.Refusals.{n-few, unready-1, unready-2, unready-0}
use Rattle.cache.proofs.State.ready.Goals as goal

pub returns-then-not-limits-clause-no : goal.returns-then-not-limits-clause-no
returns-then-not-limits-clause-no c =
    let a = c.args in
    sym (unready-1 a.n a.t a.l a.bytes.now a.memory.now (limits-start a.n a.t a.l ∙ sym c.limits.ensures ∙ c.if-not-limits.true))

pub overflow_cast-n : goal.overflow_cast-n
overflow_cast-n c =
    let a = c.args in
    omega (arith, n-few a.n a.t a.l (limits-start a.n a.t a.l ∙ sym c.limits.ensures ∙ c.if-not-limits.false))

pub overflow_cast-t : goal.overflow_cast-t
overflow_cast-t c =
    let a = c.args in
    omega (arith, t-most (shape_of a.n a.t a.l) (limits-start a.n a.t a.l ∙ sym c.limits.ensures ∙ c.if-not-limits.false))

pub returns-then-not-lengths_right-clause-no : goal.returns-then-not-lengths_right-clause-no
returns-then-not-lengths_right-clause-no c =
    let a = c.args in
    sym (unready-2 a.n a.t a.l a.bytes.now a.memory.now (limits-start a.n a.t a.l ∙ sym c.limits.ensures ∙ c.if-not-limits.false)
    (ap (λ (z : Shape). lengths_right z a.bytes.now a.memory.now) (sym c.start-shape.ensures) ∙ sym c.lengths_right.ensures ∙ c.if-not-lengths_right.true))

pub returns-clause-no : goal.returns-clause-no
returns-clause-no c =
    let a = c.args in
    sym (unready-0 a.n a.t a.l a.bytes.now a.memory.now (limits-start a.n a.t a.l ∙ sym c.limits.ensures ∙ c.if-not-limits.false)
    (ap (λ (z : Shape). lengths_right z a.bytes.now a.memory.now) (sym c.start-shape.ensures) ∙ sym c.lengths_right.ensures ∙ c.if-not-lengths_right.false))
