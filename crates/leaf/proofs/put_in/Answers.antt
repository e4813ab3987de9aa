-- `put_in` meets its contract: all 64 bytes are zero, or not.
use Rattle.outcome.proofs.Rule.{by-rule}
use Rattle.leaf.proofs.Ways.{put_in-clears, put_in-ends}
use Rattle.leaf.proofs.put_in.Goals as goal

pub returns-then-all_zero : goal.returns-then-all_zero
returns-then-all_zero c =
    let a = c.args in
    λ m. by-rule (put_in-clears a.own _ _ _ _ _ _ _ _ m c.byte_of.ensures c.put_group.ensures _ c.all_zero.ensures c.if-all_zero.true) (c.goes.ensures _ _ m)

pub returns : goal.returns
returns c =
    let a = c.args in
    λ m. by-rule (put_in-ends a.own _ _ _ _ _ _ _ _ m c.byte_of.ensures c.put_group.ensures _ c.all_zero.ensures _ _ _ c.if-all_zero.false c.leaf_of.ensures c.word.ensures c.let_go.ensures) (c.ends_done.ensures _ _ m)
