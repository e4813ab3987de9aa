-- `codes_trackers` meets its contract. The invariant: the words of the first x trackers code them.
use mathlib.Core.Path.{◌≡◌, sym, ◌∙◌}
use Rattle.laws.proofs.Scan.{all-zero, all_more, all-fails}
use native.Mathlib.Omega.{arith}
use Rattle.coding.proofs.codes_trackers.Goals as goal

pub loop-x-init : goal.loop-x-init
loop-x-init c = all-zero _

pub loop-x-preserved : goal.loop-x-preserved
loop-x-preserved c = all_more _ c.loop-x.x c.loop-x.invariant (sym c.codes_tracker.ensures ∙ c.if-not-codes_tracker.false)

pub returns-then-not-codes_tracker : goal.returns-then-not-codes_tracker
returns-then-not-codes_tracker c =
    sym (all-fails _ 8 c.loop-x.x (omega arith) (sym c.codes_tracker.ensures ∙ c.if-not-codes_tracker.true))

pub returns : goal.returns
returns c =
    let e : c.loop-x.x ≡ 8 = omega arith in sym (rw e at c.loop-x.invariant)
