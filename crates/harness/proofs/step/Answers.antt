-- `step` meets its contract: the words code a state, then the rules' own step and its answer's words.
use mathlib.Core.Path.{sym, ap}
use Rattle.std.proofs.lemmas.Result.{err_from_is_err_and}
use Rattle.rules.specs.Calls.{Out}
use Rattle.cache.specs.Seen.{seen}
use Rattle.harness.proofs.Named.{step-told}
use Rattle.harness.proofs.Ways.{step-answer, step-no, step-does}
use Rattle.harness.proofs.step.Goals as goal

pub returns-then-answer-ne-ANSWER_WORDS : goal.returns-then-answer-ne-ANSWER_WORDS
returns-then-answer-ne-ANSWER_WORDS c = let a = c.args in
    sym (step-answer a.state.now a.bytes.now a.memory.now a.x a.answer.now c.if-answer-ne-ANSWER_WORDS.true)

pub returns-in_err-s : goal.returns-in_err-s
returns-in_err-s c =
    let a = c.args in
    let p = err_from_is_err_and c.from_residual.result c.from_residual.ensures.1 in rw (p.1, p.2)
    (step-no a.state.now a.bytes.now a.memory.now a.x a.answer.now c.if-answer-ne-ANSWER_WORDS.false c.in_err-s.field-0.0 c.in_err-s.ensures.refusals)

pub leave-requires : goal.leave-requires
leave-requires c =
    let a = c.args in
    rw (ap (λ (o : Out). o.said) c.step-r.ensures) (step-told (seen c.in_ok-s.s) a.bytes.now a.memory.now a.x)

pub returns : goal.returns
returns c = let a = c.args in
    step-does _ (seen c.in_ok-s.s) a.state.now c.in_ok-s.ensures.refusals c.in_ok-s.ensures.state
    a.bytes.now a.memory.now a.x a.answer.now c.if-answer-ne-ANSWER_WORDS.false c.step-r.ensures c.leave.ensures.0 c.leave.ensures.1 c.put_answer.ensures
