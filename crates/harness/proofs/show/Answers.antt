-- `show` meets its contract: the words code a state, then where that shows the leaf.
use mathlib.Core.Path.{sym, ap, ◌∙◌}
use Rattle.std.proofs.lemmas.Result.{err_from_is_err_and}
use Rattle.rules.specs.State.{State}
use native.Mathlib.Omega.{arith}
use Rattle.laws.specs.Refusal.{refusal}
use Rattle.laws.proofs.Refusals.{unless-0, unless-no}
use Rattle.laws.proofs.Told.{number-some}
use Rattle.rules.specs.Calls.{show_no}
use Rattle.coding.specs.Words.{decoded}
use Rattle.harness.specs.Calls.{shown_at, word_tests}
use Rattle.harness.proofs.Ways.{show-no, show-is}
use Rattle.harness.proofs.show.Goals as goal

pub returns-in_err-state_in-clause-told : goal.returns-in_err-state_in-clause-told
returns-in_err-state_in-clause-told c =
    let a = c.args in
    let p = err_from_is_err_and c.from_residual.result c.from_residual.ensures.1 in rw (p.1, p.2)
    (show-no a.state.now a.bytes.now a.memory.now a.k c.in_err-state_in.field-0.0 c.in_err-state_in.ensures.refusals)

pub returns-clause-told : goal.returns-clause-told
returns-clause-told c =
    let a = c.args in
    c.shown_at.ensures.told ∙ ap (λ (s : State). shown_at s a.bytes.now a.memory.now a.k) c.in_ok-state_in.ensures.state
    ∙ sym (show-is a.state.now a.bytes.now a.memory.now a.k c.in_ok-state_in.ensures.refusals)

pub returns-in_err-state_in-clause-refused : goal.returns-in_err-state_in-clause-refused
returns-in_err-state_in-clause-refused c =
    let a = c.args in
    let e = c.in_err-state_in.ensures.refusals in
    let some = number-some c.in_err-state_in.field-0.0 in
    let p = err_from_is_err_and c.from_residual.result c.from_residual.ensures.1 in rw (p.1, p.2)
    (e ∙ sym (unless-no {c = refusal (word_tests a.state.now)} (show_no (decoded a.state.now) a.bytes.now a.memory.now a.k) (λ c. c) (omega (arith, e, some))))

pub returns-clause-refused : goal.returns-clause-refused
returns-clause-refused c =
    let a = c.args in
    let e = c.in_ok-state_in.ensures.refusals in
    c.shown_at.ensures.refused ∙ ap (λ (s : State). show_no s a.bytes.now a.memory.now a.k) c.in_ok-state_in.ensures.state
    ∙ sym (unless-0 {c = refusal (word_tests a.state.now)} (show_no (decoded a.state.now) a.bytes.now a.memory.now a.k) (λ c. c) (sym e))
