-- `drain` meets its contract: the words code a state, then the rules' own call.
use mathlib.Core.Path.{refl, ap, ◌∙◌}
use native.Mathlib.Omega.{arith}
use Rattle.std.proofs.lemmas.Result.{err_from_is_err_and}
use Rattle.rules.specs.Calls.{Out, drain}
use Rattle.tracker.specs.Answer.{says}
use Rattle.cache.specs.Seen.{seen}
use Rattle.harness.proofs.Named.{drain-told}
use Rattle.harness.proofs.Ways.{called-refused, called-does, given-no, given_is}
use Rattle.harness.proofs.drain.Goals as goal

pub returns-in_err-s-clause-told : goal.returns-in_err-s-clause-told
returns-in_err-s-clause-told c =
    let a = c.args in
    let p = err_from_is_err_and c.from_residual.result c.from_residual.ensures.1 in rw (p.1, p.2)
    (called-refused (λ s. drain s a.bytes.now a.memory.now) a.state.now a.bytes.now a.memory.now c.in_err-s.field-0.0 c.in_err-s.ensures.refusals)

pub leave-requires : goal.leave-requires
leave-requires c =
    let a = c.args in
    rw (ap (λ (o : Out). o.said) c.drain-r.ensures) (drain-told (seen c.in_ok-s.s) a.bytes.now a.memory.now)

pub returns-in_err-leave-clause-told : goal.returns-in_err-leave-clause-told
returns-in_err-leave-clause-told c =
    let a = c.args in
    let r = c.drain-r.result in
    let p = err_from_is_err_and c.from_residual-in_err-leave.result c.from_residual-in_err-leave.ensures.1 in rw (p.1, p.2)
    (called-does _ (seen c.in_ok-s.s) a.state.now c.in_ok-s.ensures.refusals c.in_ok-s.ensures.state
    (λ s. drain s a.bytes.now a.memory.now) a.bytes.now a.memory.now c.drain-r.ensures (given-no (says r.answer) r.transfers c.in_err-leave.ensures.0 (omega arith)) c.in_err-leave.ensures.1)

pub returns-clause-told : goal.returns-clause-told
returns-clause-told c =
    let a = c.args in
    let r = c.drain-r.result in
    called-does _ (seen c.in_ok-s.s) a.state.now c.in_ok-s.ensures.refusals c.in_ok-s.ensures.state
    (λ s. drain s a.bytes.now a.memory.now) a.bytes.now a.memory.now c.drain-r.ensures (c.from.ensures ∙ given_is (says r.answer) r.transfers c.in_ok-leave.ensures.0 refl) c.in_ok-leave.ensures.1
