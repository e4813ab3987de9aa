-- `run` meets its contract: refused in order, or the calls and the coding of what they leave.
use mathlib.Core.Path.{sym, ◌∙◌}
use Rattle.cache.specs.Seen.{seen}
use Rattle.running.proofs.Ways.{run-2, run-4, run-broken, run_lent, run-does, fit-answers}
use Rattle.running.proofs.run.Goals as goal

pub returns-then-not-lengths_fit : goal.returns-then-not-lengths_fit
returns-then-not-lengths_fit c = let a = c.args in
    (sym (run-2 a.state.now a.bytes.now a.memory.now a.calls.now a.answers.now (sym c.lengths_fit.ensures ∙ c.if-not-lengths_fit.true)))

pub returns-in_default : goal.returns-in_default
returns-in_default c = let a = c.args in
    (sym (run-4 a.state.now a.bytes.now a.memory.now a.calls.now a.answers.now (sym c.lengths_fit.ensures ∙ c.if-not-lengths_fit.false) (sym c.in_default.ensures.0)))

pub returns-then-not-whole : goal.returns-then-not-whole
returns-then-not-whole c = let a = c.args in
    (sym (run-broken a.state.now a.bytes.now a.memory.now a.calls.now a.answers.now (sym c.lengths_fit.ensures ∙ c.if-not-lengths_fit.false) (sym c.in-Some.ensures.0) (seen c.in-Some.s) c.in-Some.ensures.1 (sym c.whole.ensures ∙ c.if-not-whole.true)))

pub returns-then-not-lengths_right : goal.returns-then-not-lengths_right
returns-then-not-lengths_right c = let a = c.args in
    (sym (run_lent a.state.now a.bytes.now a.memory.now a.calls.now a.answers.now (sym c.lengths_fit.ensures ∙ c.if-not-lengths_fit.false) (sym c.in-Some.ensures.0) (seen c.in-Some.s) c.in-Some.ensures.1 (sym c.whole.ensures ∙ c.if-not-whole.false) (sym c.lengths_right.ensures ∙ c.if-not-lengths_right.true)))

pub run_calls-after-requires : goal.run_calls-after-requires
run_calls-after-requires c = let a = c.args in (
  sym c.whole.ensures ∙ c.if-not-whole.false,
  sym c.lengths_right.ensures ∙ c.if-not-lengths_right.false,
  fit-answers a.state.now a.calls.now a.answers.now (sym c.lengths_fit.ensures ∙ c.if-not-lengths_fit.false),
)

pub returns : goal.returns
returns c = let a = c.args in
    run-does a.state.now a.bytes.now a.memory.now a.calls.now a.answers.now (sym c.lengths_fit.ensures ∙ c.if-not-lengths_fit.false) (sym c.in-Some.ensures.0) (seen c.in-Some.s) c.in-Some.ensures.1 (sym c.whole.ensures ∙ c.if-not-whole.false) (sym c.lengths_right.ensures ∙ c.if-not-lengths_right.false)
    _ c.run_calls-after.ensures c.encode.ensures
