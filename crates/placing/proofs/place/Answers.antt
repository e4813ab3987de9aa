-- `place` meets its contract: a law for each way out.
use mathlib.Core.Path.{◌≡◌, refl, sym, ◌∙◌}
use mathlib.Core.Bool.{true}
use native.Mathlib.Omega.{arith}
use Rattle.rules.specs.Place.{rows_fit}
use Rattle.placing.proofs.Ways.{fit-lines, fit-bytes, placed-misfit, placed-free, placed-none, placed-victim}
use Rattle.placing.proofs.place.Goals as goal

pub returns-then-not-rows_fit-clause-left : goal.returns-then-not-rows_fit-clause-left
returns-then-not-rows_fit-clause-left c =
    placed-misfit _ _ _ _ refl (sym c.rows_fit.ensures ∙ c.if-not-rows_fit.true)

pub returns-then-free-l-clause-left : goal.returns-then-free-l-clause-left
returns-then-free-l-clause-left c =
    rw c.at.ensures (placed-free _ _ _ _ refl _ (sym c.rows_fit.ensures ∙ c.if-not-rows_fit.false) c.lowest_free-free.ensures (omega arith))

pub returns-then-l-i-clause-left : goal.returns-then-l-i-clause-left
returns-then-l-i-clause-left c =
    placed-none _ _ _ _ refl (sym c.rows_fit.ensures ∙ c.if-not-rows_fit.false) (omega (arith, c.lowest_free-free.ensures)) (omega (arith, c.victim-i.ensures))

pub write_back-copies-requires : goal.write_back-copies-requires
write_back-copies-requires c =
    let a = c.args in
    let f : rows_fit a.shape.l a.lines.now a.bytes.now ≡ true = sym c.rows_fit.ensures ∙ c.if-not-rows_fit.false in
    (omega (arith, fit-lines _ _ _ f), omega (arith, fit-bytes _ _ _ f))

pub returns-clause-left : goal.returns-clause-left
returns-clause-left c =
    placed-victim _ _ _ _ _ _ _ _ _ (sym c.rows_fit.ensures ∙ c.if-not-rows_fit.false) (omega (arith, c.lowest_free-free.ensures)) c.victim-i.ensures (omega arith)
    c.after.ensures c.at_hand.ensures c.write_back-copies.ensures.0 c.write_back-copies.ensures.1
