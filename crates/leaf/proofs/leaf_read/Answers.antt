-- `leaf_read` meets its contract: a law for each way out.
use native.Mathlib.Omega.{arith}
use Rattle.outcome.proofs.Rule.{by-rule}
use Rattle.leaf.proofs.Ways.{leaf_read-none, leaf_read-ends}
use Rattle.leaf.proofs.leaf_read.Goals as goal

pub returns-in_default : goal.returns-in_default
returns-in_default c =
    let a = c.args in
    by-rule (leaf_read-none a.own a.shape _ a.t a.lines.now a.bytes.now a.memory.now c.requires.0 c.leaf_of.ensures _ _ _ _ _ _ c.in_default.ensures.left (omega arith)) (c.refuses.ensures _ _ _)

pub returns : goal.returns
returns c =
    let a = c.args in
    by-rule (leaf_read-ends a.own a.shape _ a.t a.lines.now a.bytes.now a.memory.now c.requires.0 c.leaf_of.ensures _ _ _ _ _ _ c.in-Some.ensures.left _ c.in-Some.ensures.line c.group_in-v.ensures _ c.let_go.ensures) (c.ends_read.ensures _ _ _)
