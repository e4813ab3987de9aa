-- `by_phase` meets its contract: one rule for each phase.
use native.Mathlib.Omega.{arith}
use Rattle.outcome.proofs.Rule.{by-rule}
use Rattle.placing.proofs.Ways.{rows_fit_lem}
use Rattle.step.proofs.Ways.{top-1, at-phase, at-probe, at_under, at_set, at_clear}
use Rattle.step.proofs.by_phase.Goals as goal

pub finish-requires : goal.finish-requires
finish-requires c =
    let p = c.requires in
    (p.0, top-1 c.args.shape, p.4, p.5)

pub finish-requires-in-Clear : goal.finish-requires-in-Clear
finish-requires-in-Clear c =
    let p = c.requires in
    (p.0, top-1 c.args.shape, p.4, p.5)

pub returns-in-Idle : goal.returns-in-Idle
returns-in-Idle c = by-rule (at-phase _ _ _ _ c.in-Idle.is) (c.refuses.ensures _ _ _)

pub returns-in-Probe : goal.returns-in-Probe
returns-in-Probe c =
    by-rule (at-probe _ _ _ _ c.requires.2 (rows_fit_lem _ _ _ (omega arith) (omega arith)) c.in-Probe.is) (c.probe.ensures _)

pub returns-in-Under : goal.returns-in-Under
returns-in-Under c =
    by-rule (at_under _ _ _ _ c.requires.2 c.requires.0 (rows_fit_lem _ _ _ (omega arith) (omega arith)) c.in-Under.is) c.leaf.ensures

pub returns-in-Set : goal.returns-in-Set
returns-in-Set c =
    by-rule (at_set _ _ _ _ c.requires.2 c.in-Set.is) (c.finish.ensures _)

pub returns-in-Clear : goal.returns-in-Clear
returns-in-Clear c =
    by-rule (at_clear _ _ _ _ c.requires.2 c.in-Clear.is) (c.finish-in-Clear.ensures _)
