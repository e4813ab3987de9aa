-- `open` meets its contract: refused, or the state begins.
use mathlib.Core.Path.{sym, ◌∙◌}
use Rattle.rules.proofs.Begun.{open-accepted}
use Rattle.cache.proofs.Refusals.{open-no}
use Rattle.cache.proofs.State.open.Goals as goal

pub returns-in-Ok : goal.returns-in-Ok
returns-in-Ok c =
    let a = c.args in
    c.accept.ensures _ _ ∙ rw (c.begin.ensures, c.in-Ok.ensures.shape) (sym (open-accepted a.n a.t a.l a.bytes.now a.memory.now (sym c.in-Ok.ensures.no)))

pub returns-in-Err : goal.returns-in-Err
returns-in-Err c =
    let a = c.args in
    c.none.ensures _ _ ∙ sym (open-no a.n a.t a.l a.bytes.now a.memory.now c.in-Err.r c.in-Err.ensures.no)
