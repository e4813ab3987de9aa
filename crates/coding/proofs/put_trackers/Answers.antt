-- `put_trackers` meets its contract. The invariant: the words of the first x trackers are written.
use borrow.Author.Rules.{rules}
use mathlib.Core.Path.{◌≡◌, sym, ◌∙◌}
use lib.ListN.{length}
use Rattle.laws.proofs.Writes.{splice-none}
use Rattle.coding.specs.Words.{trackers_coded}
use Rattle.coding.proofs.Turns.{tracker-written, trackers-written}
use native.Mathlib.Omega.{arith}
use Rattle.coding.proofs.put_trackers.Goals as goal

pub loop-x-init : goal.loop-x-init
unfolding trackers_coded
loop-x-init c = sym (splice-none c.args.words.now 68)

pub loop-x-preserved : goal.loop-x-preserved
loop-x-preserved c =
    let a = c.args in
    let k : length a.trackers ≡ 8 = search rules in
    c.put_tracker.ensures ∙ rw c.loop-x.invariant (tracker-written a.words.now a.trackers c.requires k c.loop-x.x (omega arith))

pub returns : goal.returns
returns c =
    let a = c.args in
    let k : length a.trackers ≡ 8 = search rules in
    (c.loop-x.invariant ∙ trackers-written a.words.now a.trackers c.requires k c.loop-x.x (omega arith), k)
