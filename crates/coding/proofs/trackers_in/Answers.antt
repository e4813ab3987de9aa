-- `trackers_in` meets its contract. The invariant: the first x trackers are those of the first x places.
use mathlib.Core.Path.{◌≡◌, refl, ◌∙◌}
use lib.ListN.{replicate}
use Rattle.coding.specs.Words.{trackers_to}
use Rattle.coding.proofs.Turns.{coding, tracker-read, trackers-read}
use native.Mathlib.Omega.{arith}
use Rattle.coding.proofs.trackers_in.Goals as goal

pub loop-x-init : goal.loop-x-init
unfolding trackers_to
loop-x-init c = refl

pub tracker_in-requires : goal.tracker_in-requires
tracker_in-requires c =
    let q = coding c.args.words.now c.requires in (omega (arith, q.size, c.loop-x-test.true), q.trackers c.loop-x.x c.loop-x-test.true)

pub loop-x-preserved : goal.loop-x-preserved
loop-x-preserved c =
    rw (c.loop-x.invariant, c.tracker_in.ensures) (tracker-read c.args.words.now (replicate 8 c.rest-trackers.result) c.loop-x.x c.loop-x-test.true)

pub returns : goal.returns
returns c =
    let e : c.loop-x.x ≡ 8 = omega arith in
    rw e at c.loop-x.invariant ∙ trackers-read c.args.words.now (replicate 8 c.rest-trackers.result) 8 (omega arith)
