-- `after` meets its contract: by whether a line comes after line i.
use mathlib.Core.Path.{sym}
use native.Mathlib.Omega.{arith}
use Rattle.line.proofs.Find.{after_next, after_last}
use Rattle.line.proofs.after.Goals as goal

pub returns-then-i-saturating_sub : goal.returns-then-i-saturating_sub
returns-then-i-saturating_sub c = sym (after_next c.args.l c.args.i (omega arith))

pub returns-else-i-saturating_sub : goal.returns-else-i-saturating_sub
returns-else-i-saturating_sub c = sym (after_last c.args.l c.args.i (omega arith))
