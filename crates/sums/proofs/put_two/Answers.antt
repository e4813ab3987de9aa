-- `sums::put_two` meets its contract: its bytes are put in their place where they fit.
use Rattle.std.proofs.Common.{sym, ◌∙◌, arith}
use Rattle.laws.specs.Bytes.{bytes}
use Rattle.laws.proofs.Put.{put_w-is, put_w-not}
use Rattle.sums.proofs.put_two.Goals as goal
use Rattle.sums.proofs.put_two.Goals.{then-row-lt2-via-then-row-lt2, then-row-lt2-via-else-row-lt2+then-row-at}

pub returns-then-row-lt2 : goal.returns-then-row-lt2
returns-then-row-lt2 c = sym (put_w-not 2 _ c.args.at _ (elim c.then-row-lt2.branch [ then-row-lt2-via-then-row-lt2 w ↦ omega arith | then-row-lt2-via-else-row-lt2+then-row-at w ↦ omega arith ]))

pub returns : goal.returns
unfolding bytes
returns c = put_w-is c.args.row.now c.args.at 2 (omega arith) (c.copy_from_slice.ensures.after ∙ c.to_le_bytes.ensures) c.copy_from_slice.ensures.len
