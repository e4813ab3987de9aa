-- `fresh` meets its contract: refused, or the map is cleared and the state begins.
use mathlib.Core.Path.{sym, ◌∙◌}
use Rattle.laws.proofs.Told.{number-some}
use Rattle.cache.proofs.Refusals.{fresh-refused, fresh-accepted}
use Rattle.cache.proofs.State.fresh.Goals as goal

pub returns-in-Ok : goal.returns-in-Ok
returns-in-Ok c =
    let a = c.args in
    c.accept.ensures _ _ ∙ rw (c.begin.ensures, c.clear_map.ensures, c.in-Ok.ensures.shape) (sym (fresh-accepted a.n a.t a.l a.bytes.now a.memory.now (sym c.in-Ok.ensures.no)))

pub returns-in-Err : goal.returns-in-Err
returns-in-Err c =
    let a = c.args in
    c.none.ensures _ _ ∙ sym (fresh-refused a.n a.t a.l a.bytes.now a.memory.now _ c.in-Err.ensures.no (number-some c.in-Err.r))
