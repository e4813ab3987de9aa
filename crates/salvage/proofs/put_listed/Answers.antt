-- `salvage::put_listed` meets its contract: a store of one entry, or nothing.
use mathlib.Core.Path.{sym}
use native.Mathlib.Omega.{arith}
use Rattle.laws.proofs.Put.{put_w-not}
use Rattle.salvage.proofs.Walk.{entry_set}
use Rattle.salvage.proofs.put_listed.Goals as goal

pub returns-then-at-list : goal.returns-then-at-list
returns-then-at-list c = entry_set _ _ _ (omega arith)

pub returns-else-at-list : goal.returns-else-at-list
returns-else-at-list c = sym (put_w-not 1 _ _ _ (omega arith))
