-- `loose_from` meets its contract: a line that no tracker holds, or none of the row's, and past the row none is held.
use mathlib.Core.Path.{sym, ◌∙◌}
use native.Mathlib.Omega.{arith}
use Rattle.line.proofs.Find.{loose_from-below, loose_from-miss, loose_from-hit, loose_from-past, loose_from-far}
use Rattle.line.proofs.loose_from.Goals as goal

pub returns-then-end-from : goal.returns-then-end-from
returns-then-end-from c = omega (arith, loose_from-far c.args.lines.now c.args.from c.args.l (omega arith))

pub loop-i-init : goal.loop-i-init
loop-i-init c = loose_from-below c.args.lines.now c.args.from c.args.from (omega arith)

pub loop-i-preserved : goal.loop-i-preserved
loop-i-preserved c = loose_from-miss c.args.lines.now c.args.from c.loop-i.i c.loop-i.invariant (sym c.held.ensures ∙ c.if-not-held.false)

pub returns-then-not-held : goal.returns-then-not-held
returns-then-not-held c = sym (loose_from-hit c.args.lines.now c.args.from c.loop-i.i c.args.l (omega arith) c.loop-i.invariant (sym c.held.ensures ∙ c.if-not-held.true) (omega arith))

pub returns : goal.returns
returns c = omega (arith, loose_from-past c.args.lines.now c.args.from c.args.l c.loop-i.i (omega arith) (omega arith) c.loop-i.invariant)
