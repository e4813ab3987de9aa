-- `text::Line::whole` meets its contract: its four pieces, one after another, are no longer than the room.
use native.Mathlib.Omega.{arith}
use Rattle.tracker.specs.Answer.{says}
use Rattle.wording.proofs.Numbers.{length-decimal, places-64}
use Rattle.text.proofs.Writes.{room-after}
use Rattle.text.proofs.Lines.{line-is}
use Rattle.text.proofs.Line.whole.Goals as goal

pub decimal-requires : goal.decimal-requires
decimal-requires c = omega (arith, places-64 c.args.k (omega arith))

pub put-requires : goal.put-requires
put-requires c =
    let k = c.args.k in
    let d = c.decimal in
    room-after c.args.self.now d.new.self _ 1 (omega (arith, length-decimal k, places-64 k (omega arith))) d.ensures

pub answer-requires : goal.answer-requires
answer-requires c =
    let k = c.args.k in
    let d = c.decimal in
    let s = c.put in
    let r = room-after c.args.self.now d.new.self _ 41 (omega (arith, length-decimal k, places-64 k (omega arith))) d.ensures in
    room-after d.new.self s.new.self _ 40 (omega (arith, r)) s.ensures

pub put-requires-2 : goal.put-requires-2
put-requires-2 c =
    let k = c.args.k in
    let d = c.decimal in
    let s = c.put in
    let w = c.answer in
    let r = room-after c.args.self.now d.new.self _ 42 (omega (arith, length-decimal k, places-64 k (omega arith))) d.ensures in
    let q = room-after d.new.self s.new.self _ 41 (omega (arith, r)) s.ensures in
    room-after s.new.self w.new.self _ 1 (omega (arith, w.ensures.1, q)) w.ensures.0

pub returns : goal.returns
returns c =
    let a = c.args in
    line-is a.self.now c.decimal.new.self c.put.new.self c.answer.new.self c.put-2.new.self a.k (says a.answer) a.transfers c.requires (omega arith)
    c.decimal.ensures c.put.ensures c.answer.ensures c.put-2.ensures
