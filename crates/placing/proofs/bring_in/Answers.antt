-- `bring_in` meets its contract: a line has the block, or it is fetched.
use mathlib.Core.Path.{refl}
use native.Mathlib.Omega.{arith}
use Rattle.placing.proofs.Ways.{bring_in-found, bring_in-fetched}
use Rattle.placing.proofs.bring_in.Goals as goal

pub returns-then-i-shape-clause-left : goal.returns-then-i-shape-clause-left
returns-then-i-shape-clause-left c =
    rw c.at.ensures (bring_in-found _ _ _ _ _ _ c.line_of-i.ensures (omega arith) refl)

pub returns-clause-left : goal.returns-clause-left
returns-clause-left c =
    let a = c.args in
    rw (bring_in-fetched a.shape a.lines.now a.bytes.now a.memory.now a.b (omega (arith, c.line_of-i.ensures))) c.fetch.ensures.left
