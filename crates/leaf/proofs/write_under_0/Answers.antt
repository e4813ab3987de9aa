-- `write_under_0` meets its contract: a law for each way out.
use native.Mathlib.Omega.{arith}
use Rattle.outcome.proofs.Rule.{by-rule}
use Rattle.leaf.proofs.Ways.{write_under0-same, write_under0-none, write_under0-on}
use Rattle.leaf.proofs.write_under_0.Goals as goal

pub returns-then-t-eq0 : goal.returns-then-t-eq0
returns-then-t-eq0 c =
    let a = c.args in
    by-rule (write_under0-same a.own a.shape a.t a.lines.now a.bytes.now a.memory.now c.requires _ c.none.ensures (omega arith) c.let_go.ensures) (c.ends_same.ensures _ _ _)

pub returns-in_default : goal.returns-in_default
returns-in_default c =
    let a = c.args in
    by-rule (write_under0-none a.own a.shape a.t a.lines.now a.bytes.now a.memory.now c.requires _ _ (omega (arith, c.if-t-eq0.false)) c.leaf_of-leaf.ensures c.new_leaf-new.ensures _ _ _ _ _ _ c.in_default.ensures.left (omega arith)) (c.refuses.ensures _ _ _)

pub returns : goal.returns
returns c =
    let a = c.args in
    by-rule (write_under0-on a.own a.shape a.t a.lines.now a.bytes.now a.memory.now c.requires _ _ (omega (arith, c.if-t-eq0.false)) c.leaf_of-leaf.ensures c.new_leaf-new.ensures _ _ _ _ _ _ c.in-Some.ensures.left c.in-Some.ensures.line) (c.goes.ensures _ _ _)
