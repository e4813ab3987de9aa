-- `lowest_free` meets its contract: a free line, or none of the row's, and past the row every line is free.
use mathlib.Core.Path.{sym}
use native.Mathlib.Omega.{arith}
use Rattle.line.proofs.Words.{used-is}
use Rattle.line.proofs.Find.{lowest_free-zero, lowest_free-miss, lowest_free-hit, lowest_free-past}
use Rattle.line.proofs.lowest_free.Goals as goal

pub loop-i-init : goal.loop-i-init
loop-i-init c = lowest_free-zero c.args.lines.now

pub returns-then-lines-i-eq0 : goal.returns-then-lines-i-eq0
returns-then-lines-i-eq0 c = sym (lowest_free-hit c.args.lines.now c.loop-i.i c.args.l c.loop-i.invariant (omega arith) (omega arith))

pub loop-i-preserved : goal.loop-i-preserved
loop-i-preserved c = lowest_free-miss c.args.lines.now c.loop-i.i c.loop-i.invariant (used-is _ (omega arith))

pub returns : goal.returns
returns c = omega (arith, lowest_free-past c.args.lines.now c.args.l c.loop-i.i (omega arith) c.loop-i.invariant)
