-- `fill` meets its contract: the line's word, and its bytes where the line bytes have it.
use native.Mathlib.Omega.{arith}
use Rattle.placing.proofs.Ways.{filled-past, filled_in}
use Rattle.placing.proofs.fill.Goals as goal

pub returns-else-i-bytes : goal.returns-else-i-bytes
returns-else-i-bytes c =
    let a = c.args in
    λ m. filled-past a.i a.b a.changed a.lines.now a.bytes.now a.block.now m c.word.ensures (omega arith)

pub returns-then-i-bytes : goal.returns-then-i-bytes
returns-then-i-bytes c =
    let a = c.args in
    λ m. filled_in a.i a.b a.changed a.lines.now a.bytes.now a.block.now m c.word.ensures c.write_block.ensures
