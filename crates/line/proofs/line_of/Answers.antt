-- `line_of` meets its contract: a line that has the block, or none of the row's, and past the row every line is free.
use mathlib.Core.Path.{sym, ◌∙◌}
use native.Mathlib.Omega.{arith}
use Rattle.line.proofs.Find.{line_of-zero, line_of-miss, line_of-hit, line_of-past}
use Rattle.line.proofs.line_of.Goals as goal

pub loop-i-init : goal.loop-i-init
loop-i-init c = line_of-zero c.args.lines.now c.args.b

pub returns-then-has : goal.returns-then-has
returns-then-has c = sym (line_of-hit c.args.lines.now c.args.b c.loop-i.i c.args.l c.loop-i.invariant (sym c.has.ensures ∙ c.if-has.true) (omega arith))

pub loop-i-preserved : goal.loop-i-preserved
loop-i-preserved c = line_of-miss c.args.lines.now c.args.b c.loop-i.i c.loop-i.invariant (sym c.has.ensures ∙ c.if-has.false)

pub returns : goal.returns
returns c = sym (line_of-past c.args.lines.now c.args.b c.args.l c.loop-i.i (omega arith) c.loop-i.invariant)
