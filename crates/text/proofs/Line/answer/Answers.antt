-- `text::Line::answer` meets its contract: what is said, then what it gains.
use native.Mathlib.Omega.{arith}
use Rattle.text.proofs.Writes.{room-after}
use Rattle.text.proofs.Lines.{answer-is}
use Rattle.text.proofs.Line.answer.Goals as goal

pub gains-requires : goal.gains-requires
gains-requires c =
    let e = c.said.ensures in
    room-after c.args.self.now c.said.new.self _ 15 (omega (arith, e.1)) e.0

pub returns : goal.returns
returns c =
    answer-is c.args.self.now c.said.new.self c.gains.new.self c.args.answer c.args.transfers c.requires c.said.ensures c.gains.ensures
