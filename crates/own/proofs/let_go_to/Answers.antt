-- `let_go_to` meets its contract: level by level.
use mathlib.Core.Path.{sym}
use Rattle.rules.proofs.Ways.{let_go-0}
use Rattle.own.specs.Own.{line_on}
use Rattle.own.proofs.Ways.{let_go-more}
use Rattle.own.proofs.let_go_to.Goals as goal

pub loop-e-init : goal.loop-e-init
loop-e-init c =
    let a = c.args in
    sym (let_go-0 a.phase (line_on a.own) a.lines.now)

pub loop-e-preserved : goal.loop-e-preserved
loop-e-preserved c =
    let a = c.args in
    let_go-more a.phase (line_on a.own) c.loop-e.e a.lines.now c.loop-e.invariant c.let_go_at.ensures
