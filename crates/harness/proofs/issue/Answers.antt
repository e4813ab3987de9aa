-- `issue` meets its contract: the words code a state, then the rules' own call.
use mathlib.Core.Path.{ap, ◌∙◌}
use Rattle.std.proofs.lemmas.Result.{err_from_is_err_and}
use Rattle.tracker.specs.declared.Access.{Access}
use Rattle.rules.specs.Calls.{Out, issue}
use Rattle.cache.specs.Seen.{seen}
use Rattle.harness.specs.Calls.{access_of}
use Rattle.harness.proofs.Back.{issue-back}
use Rattle.harness.proofs.Named.{issue-told}
use Rattle.harness.proofs.Ways.{called-refused, called-does, issue-wide, given-none}
use Rattle.harness.proofs.issue.Goals as goal

pub returns-in_err-s : goal.returns-in_err-s
returns-in_err-s c =
    let a = c.args in
    let p = err_from_is_err_and c.from_residual.result c.from_residual.ensures.1 in rw (p.1, p.2)
    (called-refused (λ s. issue s a.bytes.now a.memory.now a.x (access_of a.write a.bottom a.g a.v)) a.state.now a.bytes.now a.memory.now c.in_err-s.field-0.0 c.in_err-s.ensures.refusals)

pub leave-requires : goal.leave-requires
leave-requires c =
    let a = c.args in
    rw (ap (λ (o : Out). o.said) c.issue-r.ensures) (issue-told (seen c.in_ok-s.s) a.bytes.now a.memory.now a.x c.access_of.result)

pub returns : goal.returns
returns c =
    let a = c.args in
    let s = seen c.in_ok-s.s in
    let none = ap (λ (o : Out). o.transfers.back) c.issue-r.ensures ∙ issue-back s a.bytes.now a.memory.now a.x c.access_of.result in
    called-does _ s a.state.now c.in_ok-s.ensures.refusals c.in_ok-s.ensures.state
    (λ s. issue s a.bytes.now a.memory.now a.x (access_of a.write a.bottom a.g a.v)) a.bytes.now a.memory.now
    (c.issue-r.ensures ∙ ap (λ (y : Access). issue s a.bytes.now a.memory.now a.x y) c.access_of.ensures ∙ issue-wide s a.bytes.now a.memory.now a.x a.write a.bottom a.v a.g)
    (c.leave.ensures.0 ∙ given-none _ c.issue-r.result.transfers none) c.leave.ensures.1
