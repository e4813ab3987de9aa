-- `salvage::Progress::over` meets its contract: the blocks before block j are taken.
use mathlib.Core.Path.{sym, ◌∙◌}
use Prim.Native.Nat.{◌*◌}
use native.Mathlib.Omega.{arith}
use Rattle.laws.proofs.Put.{part-is}
use Rattle.damaged.proofs.Taken.{blocks-none, blocks_more, used-few}
use Rattle.salvage.proofs.Walk.{at-start, used-is}
use Rattle.salvage.proofs.Progress.over.Goals as goal

pub loop-j-init : goal.loop-j-init
loop-j-init c = let a = c.args in
    record { of = c.leaves_in.ensures; few = omega arith; has = rw (blocks-none a.image.now) (at-start a.output.now a.list.now) }

pub take_block-requires : goal.take_block-requires
take_block-requires c = let m = c.args.image.now in
    let L = c.loop-j in
    ((λ s. rw (part-is m (512 * L.j) 512) (used-few m L.j (sym (used-is m L.j c.version_in-version.ensures c.used-sound.ensures) ∙ s))), omega (arith, L.invariant.few))

pub loop-j-preserved : goal.loop-j-preserved
loop-j-preserved c = let m = c.args.image.now in
    let L = c.loop-j in
    let v = L.invariant in
    let r = c.take_block.ensures in
    let e = blocks_more m L.j (omega arith) v.of (used-is m L.j c.version_in-version.ensures c.used-sound.ensures) (part-is m (512 * L.j) 512) in
    record { of = r.1.same ∙ v.of; few = omega (arith, v.few, r.0); has = rw (← e) (r.1.takes _ _ _ v.has) }
