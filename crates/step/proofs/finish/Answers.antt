-- `finish` meets its contract: the top block is in no line, or the bit, the line's word and the ending.
use native.Mathlib.Omega.{arith}
use Rattle.own.proofs.Ways.{owns-found}
use Rattle.outcome.proofs.Rule.{by-rule}
use Rattle.step.proofs.Ways.{finish-none, finish-is}
use Rattle.step.proofs.finish.Goals as goal

pub returns-then-shape-j : goal.returns-then-shape-j
returns-then-shape-j c =
    let a = c.args in
    let o = owns-found a.shape a.t.group a.lines.now c.find-own.ensures c.requires.0 in
    λ m. by-rule (finish-none a.shape a.set a.d c.at-j.result a.t a.lines.now a.bytes.now m c.find-own.result o (rw c.top.ensures at c.at-j.ensures) c.requires.1 (omega arith))
    (c.refuses.ensures _ _ m)

pub returns : goal.returns
returns c =
    let a = c.args in
    let o = owns-found a.shape a.t.group a.lines.now c.find-own.ensures c.requires.0 in
    λ m. by-rule (finish-is a.shape a.set a.d c.at-j.result a.t a.lines.now a.bytes.now m c.find-own.result o (rw c.top.ensures at c.at-j.ensures) c.requires.1
    (omega arith) c.none.ensures c.change.ensures c.let_go.ensures c.put_bit.ensures)
    (c.ends_done.ensures _ _ m)
