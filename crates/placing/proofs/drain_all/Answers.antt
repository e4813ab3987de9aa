-- `drain_all` meets its contract: the loop's invariant says that the first i lines are drained.
use mathlib.Core.Path.{sym, ◌∙◌}
use borrow.Author.Rules.{rules}
use native.Mathlib.Omega.{arith}
use Rattle.placing.proofs.Ways.{draining-none, draining-more, draining-clean, draining-all}
use Rattle.placing.proofs.drain_all.Goals as goal
use Rattle.placing.proofs.drain_all.Goals.{then-changed, else-changed}

pub loop-i-init : goal.loop-i-init
loop-i-init c = draining-none _ _ c.none-copies.ensures

pub loop-i-preserved : goal.loop-i-preserved
loop-i-preserved c =
    let d = c.loop-i.invariant in
    elim c.if-changed.branch [
      | then-changed w ↦
          rw (w.copies-is, w.lines-is, w.memory-is)
          (draining-more _ d (omega arith) w.cleaned.ensures w.write_back.ensures.0 w.write_back.ensures.1 w.plus-copies.ensures (search rules))
      | else-changed w ↦
          rw (w.copies-is, w.lines-is, w.memory-is) (draining-clean d (omega arith) (sym c.changed.ensures ∙ w.if-changed.false))
    ]

pub returns : goal.returns
returns c = draining-all _ _ _ _ _ _ c.loop-i.invariant (omega arith)
