-- `writing::put_record` meets its contract: the leaf number, then its 64 bytes.
use mathlib.Core.Path.{sym}
use native.Mathlib.Omega.{arith}
use Rattle.laws.proofs.Put.{put_w-not}
use Rattle.writing.proofs.Blocks.{record-law}
use Rattle.writing.proofs.put_record.Goals as goal

pub returns-then-row-lt-RECORD : goal.returns-then-row-lt-RECORD
returns-then-row-lt-RECORD c = sym (put_w-not 68 _ c.args.at _ (omega arith))

pub returns : goal.returns
returns c = cc (record-law c.args.row.now c.args.at c.args.leaf c.args.content.now (omega arith))
