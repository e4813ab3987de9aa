-- `text::Line::put` meets its contract: the text stands in place of the bytes there.
use mathlib.Core.Path.{refl}
use native.Mathlib.Omega.{arith}
use lib.ListN.{length}
use Rattle.laws.proofs.Put.{splice-is}
use Rattle.text.proofs.Line.put.Goals as goal

pub returns : goal.returns
returns c =
    let s = c.args.self.now in
    (splice-is s.out.now s.at (length c.args.text.now) (omega arith) c.copy_from_slice.ensures.after c.copy_from_slice.ensures.len, refl, refl)
