-- `writing::close_block` meets its contract: the front, zeros and the check, one after the other, over the records that stand in the row.
use mathlib.Core.Logic.{⊎_elim}
use mathlib.Core.Path.{sym}
use native.Mathlib.Omega.{arith}
use Rattle.form.proofs.Records.{closed-short, closed-full}
use Rattle.writing.proofs.Blocks.{close-law}
use Rattle.writing.proofs.close_block.Goals as goal

pub returns-then-row-ne-BLOCK : goal.returns-then-row-ne-BLOCK
returns-then-row-ne-BLOCK c = ⊎_elim (λ h. sym (closed-short 65536 _ _ _ h)) (λ h. sym (closed-full 65536 _ _ _ (omega arith))) c.then-row-ne-BLOCK.either

pub returns : goal.returns
returns c = cc (close-law 65536 c.args.row.now c.args.j c.args.count (omega arith) (omega arith))
