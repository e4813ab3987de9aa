-- `turn` meets its contract: refused where a test fails, else the phase's rule.
use mathlib.Core.Path.{◌≡◌, sym, ◌∙◌}
use mathlib.Core.Bool.{true}
use Rattle.rules.specs.Step.{fit}
use Rattle.placing.specs.Lines.{rows}
use Rattle.outcome.proofs.Rule.{by-rule}
use Rattle.step.proofs.Ways.{fit_n, fit-g, fit-d, fit-l, fit-x, lengths-l, turn-broken, turn-lengths, turn-steps}
use Rattle.step.proofs.turn.Goals as goal

pub returns-then-not-fit : goal.returns-then-not-fit
returns-then-not-fit c =
    by-rule (turn-broken _ _ _ _ (sym (c.fit.ensures _ _) ∙ c.if-not-fit.true)) (c.refuses.ensures _ _ _)

pub returns-then-not-lengths_right : goal.returns-then-not-lengths_right
returns-then-not-lengths_right c =
    by-rule (turn-lengths _ _ _ _ (sym (c.fit.ensures _ _) ∙ c.if-not-fit.false) (sym c.lengths_right.ensures ∙ c.if-not-lengths_right.true)) (c.refuses-then-not-lengths_right.ensures _ _ _)

pub by_phase-requires : goal.by_phase-requires
by_phase-requires c =
    let a = c.args in
    let r = rows a.lines.now a.bytes.now a.memory.now in
    let f : fit a.shape a.x a.t r ≡ true = sym (c.fit.ensures _ _) ∙ c.if-not-fit.false in
    (fit_n _ _ _ r f, fit-g _ _ _ r f, fit-d _ _ _ r f, fit-x _ _ _ r f, fit-l _ _ _ r f, lengths-l a.shape _ a.memory.now (sym c.lengths_right.ensures ∙ c.if-not-lengths_right.false))

pub returns : goal.returns
returns c =
    by-rule (turn-steps _ _ _ _ (sym (c.fit.ensures _ _) ∙ c.if-not-fit.false) (sym c.lengths_right.ensures ∙ c.if-not-lengths_right.false)) c.by_phase.ensures
