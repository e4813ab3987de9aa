-- `find` meets its contract: two levels, or more.
use native.Mathlib.Omega.{arith}
use Rattle.own.proofs.Ways.{own_of-1, own_of-2}
use Rattle.own.proofs.find.Goals as goal

pub returns-then-top-le1 : goal.returns-then-top-le1
returns-then-top-le1 c =
    let a = c.args in
    own_of-1 a.shape a.g _ (omega (arith, c.top.ensures)) c.line_over.ensures

pub returns-else-top-le1 : goal.returns-else-top-le1
returns-else-top-le1 c =
    let a = c.args in
    own_of-2 a.shape a.g _ (omega (arith, c.top.ensures)) c.line_over.ensures c.line_over-else-top-le1.ensures
