-- `text::Line::transfers` meets its contract: two words, each with its number.
use native.Mathlib.Omega.{arith}
use Prim.Native.Nat.{◌+◌}
use Rattle.wording.specs.Text.{places}
use Rattle.wording.proofs.Numbers.{length-decimal, places-8}
use Rattle.text.proofs.Writes.{room-after}
use Rattle.text.proofs.Lines.{transfers-is}
use Rattle.text.proofs.Line.transfers.Goals as goal

pub counted-requires : goal.counted-requires
counted-requires c = omega (arith, places-8 c.from.result (omega arith))

pub counted-requires-2 : goal.counted-requires-2
counted-requires-2 c =
    let i = c.from.result in
    let o = c.from-2.result in
    room-after c.args.self.now c.counted.new.self _ (5 + places o)
    (omega (arith, length-decimal i, places-8 i (omega arith), places-8 o (omega arith)))
    c.counted.ensures

pub returns : goal.returns
returns c =
    let a = c.args in
    let e = c.counted.ensures in
    let f = c.counted-2.ensures in
    transfers-is a.self.now c.counted.new.self c.counted-2.new.self a.transfers c.from.result c.from-2.result c.requires (c.from.ensures, omega arith) (c.from-2.ensures, omega arith) e f
