-- `sums::seal` meets its contract: both sums in their places are the check.
use Rattle.std.proofs.Common.{sym, arith}
use Rattle.sums.specs.Check.{with_check}
use Rattle.laws.proofs.Put.{put_w-not}
use Rattle.sums.proofs.Right.{both-put}
use Rattle.sums.proofs.seal.Goals as goal

pub returns-then-block-lt-BLOCK : goal.returns-then-block-lt-BLOCK
unfolding with_check
returns-then-block-lt-BLOCK c = sym (put_w-not 4 _ 508 _ (omega arith))

pub returns : goal.returns
returns c = cc (both-put 65536 c.args.block.now (omega arith))
