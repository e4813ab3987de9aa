-- A block that fits goes into the lent part, by the law of a part that comes back; one that does not, nowhere.
use mathlib.Core.Path.{sym}
use native.Mathlib.Omega.{arith}
use Rattle.laws.proofs.Put.{put_w-not, put_w-is}
use Rattle.block.proofs.write_block.Goals as goal

pub returns-then-has : goal.returns-then-has
returns-then-has c =
    put_w-is c.args.memory.now c.args.at 64 (omega arith) c.copy.ensures c.copy.auto.to

pub returns-else-has : goal.returns-else-has
returns-else-has c = sym (put_w-not 64 _ c.args.at _ (grind arith))
