-- `drain` meets its contract: the rows fit, or nothing changes.
use mathlib.Core.Path.{◌≡◌, sym, ◌∙◌}
use mathlib.Core.Bool.{true}
use Rattle.rules.specs.Place.{rows_fit}
use Rattle.placing.proofs.Ways.{fit-lines, fit-bytes, drained_on-fit, drained_on-misfit}
use Rattle.placing.proofs.drain.Goals as goal

pub drain_all-requires : goal.drain_all-requires
drain_all-requires c =
    let a = c.args in
    let f : rows_fit a.shape.l a.lines.now a.bytes.now ≡ true = sym c.rows_fit.ensures ∙ c.if-rows_fit.true in
    (fit-lines _ _ _ f, fit-bytes _ _ _ f)

pub returns-then-rows_fit : goal.returns-then-rows_fit
returns-then-rows_fit c =
    let a = c.args in
    rw (drained_on-fit a.shape a.lines.now a.bytes.now a.memory.now (sym c.rows_fit.ensures ∙ c.if-rows_fit.true)) c.drain_all.ensures

pub returns-else-rows_fit : goal.returns-else-rows_fit
returns-else-rows_fit c =
    drained_on-misfit _ _ _ _ (sym c.rows_fit.ensures ∙ c.if-rows_fit.false) c.none.ensures
