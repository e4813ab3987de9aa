-- `write_under_1` meets its contract: a law for each way out.
use native.Mathlib.Omega.{arith}
use Rattle.outcome.proofs.Rule.{by-rule}
use Rattle.leaf.proofs.Ways.{write_under1-none, write_under1-same, write_under1-put}
use Rattle.leaf.proofs.write_under_1.Goals as goal

pub returns-in_default : goal.returns-in_default
returns-in_default c =
    let a = c.args in
    by-rule (write_under1-none a.own a.shape _ a.t a.lines.now a.bytes.now a.memory.now c.requires.0 c.leaf_of.ensures _ _ _ _ _ _ c.in_default.ensures.left (omega arith)) (c.refuses.ensures _ _ _)

pub returns-then-group_in-t : goal.returns-then-group_in-t
returns-then-group_in-t c =
    let a = c.args in
    by-rule (write_under1-same a.own a.shape _ a.t a.lines.now a.bytes.now a.memory.now c.requires.0 c.leaf_of.ensures _ _ _ _ _ _ c.in-Some.ensures.left _ c.in-Some.ensures.line c.group_in.ensures _ c.let_go.ensures (omega arith)) (c.ends_same.ensures _ _ _)

pub returns : goal.returns
returns c =
    let a = c.args in
    by-rule (write_under1-put a.own a.shape _ a.t a.lines.now a.bytes.now a.memory.now c.requires.0 c.leaf_of.ensures _ _ _ _ _ _ c.in-Some.ensures.left _ c.in-Some.ensures.line c.group_in.ensures (omega arith)) (c.put_in.ensures _)
