-- `text::Line::read` meets its contract: its three pieces, one after another.
use native.Mathlib.Omega.{arith}
use Prim.Native.Nat.{◌+◌}
use Rattle.wording.specs.Text.{places}
use Rattle.wording.proofs.Numbers.{length_digits}
use Rattle.text.proofs.Writes.{room-after}
use Rattle.text.proofs.Lines.{read_is}
use Rattle.text.proofs.Line.read.Goals as goal

pub digits-requires : goal.digits-requires
digits-requires c =
    (omega arith, omega arith, room-after c.args.self.now c.put.new.self _ 8 (omega arith) c.put.ensures)

pub counted-requires : goal.counted-requires
counted-requires c =
    let a = c.args in
    let r = room-after a.self.now c.put.new.self _ (15 + places a.k) (omega arith) c.put.ensures in
    room-after c.put.new.self c.digits.new.self _ (7 + places a.k) (omega (arith, length_digits 16 8 a.v, r)) c.digits.ensures

pub returns : goal.returns
returns c =
    let a = c.args in
    read_is a.self.now c.put.new.self c.digits.new.self c.counted.new.self a.v a.k c.requires c.put.ensures c.digits.ensures c.counted.ensures
