-- A block goes from its part of the row into memory's part, by the law of a part that comes back; where either is not there, nowhere.
use mathlib.Core.Path.{◌∙◌}
use native.Mathlib.Omega.{arith}
use Rattle.laws.proofs.Put.{part-is, put_w-is}
use Rattle.block.proofs.Blocks.{copy-none, copy-fits, copy-not}
use Rattle.block.proofs.copy_block.Goals as goal
use Rattle.block.proofs.copy_block.Goals.{else-has-via-then-has+else-has-2, else-has-via-else-has}

pub returns-then-has-2 : goal.returns-then-has-2
returns-then-has-2 c =
    let a = c.args in
    let call = c.copy in
    put_w-is a.memory.now a.at 64 (omega arith) (call.ensures ∙ part-is a.row.now a.from 64) call.auto.to
    ∙ copy-fits a.memory.now a.at a.row.now a.from (omega arith)

pub returns-else-has : goal.returns-else-has
returns-else-has c =
    let a = c.args in
    elim c.else-has.branch [
      | else-has-via-then-has+else-has-2 w ↦ copy-not a.memory.now a.at a.row.now a.from (omega arith) (grind arith)
      | else-has-via-else-has w ↦ copy-none a.memory.now a.at a.row.now a.from (grind arith)
    ]
