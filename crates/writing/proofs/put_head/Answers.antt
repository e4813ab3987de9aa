-- `writing::put_head` meets its contract: six writes one after the other, and the check.
use mathlib.Core.Path.{sym}
use Rattle.form.specs.Encode.{version2}
use Rattle.form.proofs.Records.{headed-short}
use Rattle.writing.proofs.Blocks.{head-law-2}
use Rattle.writing.proofs.put_head.Goals as goal

pub returns-then-row-ne-BLOCK : goal.returns-then-row-ne-BLOCK
returns-then-row-ne-BLOCK c = sym (headed-short version2 _ _ _ c.if-row-ne-BLOCK.true)

pub returns : goal.returns
returns c = cc (head-law-2 c.args.row.now c.args.n c.args.m c.if-row-ne-BLOCK.false)
