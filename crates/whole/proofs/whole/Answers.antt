-- `whole` meets its contract: outside the limits, or with a row too short, it is false.
use mathlib.Core.Path.{◌≡◌, sym, ◌∙◌}
use native.Mathlib.Omega.{arith}
use Rattle.geometry.specs.Shape.{top_of}
use Rattle.rules.proofs.Whole.{t-most}
use Rattle.whole.specs.Parts.{limits_of}
use Rattle.whole.proofs.Tests.{limits-are, whole-limits, whole-short}
use Rattle.whole.proofs.whole.Goals as goal

pub returns-then-not-limits : goal.returns-then-not-limits
returns-then-not-limits c =
    let a = c.args in
    let e : c.limits.result ≡ limits_of (top_of a.shape) a.shape.n a.shape.t a.shape.l = cc in
    sym (whole-limits a.shape a.lines.now a.trackers.now (limits-are a.shape ∙ sym e ∙ c.if-not-limits.true))

pub returns-then-lines-shape : goal.returns-then-lines-shape
returns-then-lines-shape c =
    let a = c.args in
    sym (whole-short a.shape a.lines.now a.trackers.now (omega arith))

pub invariant_of-whole : goal.invariant_of-whole
invariant_of-whole c =
    let a = c.args in
    let e : c.limits.result ≡ limits_of (top_of a.shape) a.shape.n a.shape.t a.shape.l = cc in
    let h = limits-are a.shape ∙ sym e ∙ c.if-not-limits.false in
    record { in_limits = h; lined = omega arith; tracked = omega (arith, t-most a.shape h) }
