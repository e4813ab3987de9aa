-- `text::Line::counted` meets its contract: the word, then the number.
use native.Mathlib.Omega.{arith}
use Rattle.wording.specs.Text.{places, decimal}
use Rattle.text.proofs.Writes.{room-after, puts-then}
use Rattle.text.proofs.Line.counted.Goals as goal

pub decimal-requires : goal.decimal-requires
decimal-requires c =
    room-after c.args.self.now c.put.new.self c.args.word.now (places c.args.k) (omega arith) c.put.ensures

pub returns : goal.returns
returns c =
    let a = c.args in
    puts-then a.self.now c.put.new.self c.decimal.new.self a.word.now (decimal a.k) (omega arith) c.put.ensures c.decimal.ensures
