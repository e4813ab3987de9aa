-- `open` meets its contract: two lengths, then the rules' own call.
use mathlib.Core.Path.{ap, ◌∙◌}
use Rattle.std.proofs.lemmas.Result.{err_from_is_err_and}
use Rattle.rules.specs.Calls.{Out, opened}
use Rattle.harness.proofs.Back.{open-back}
use Rattle.harness.proofs.Named.{open-told}
use Rattle.harness.proofs.Ways.{begins-refused, begins-does, given-none}
use Rattle.harness.proofs.open.Goals as goal

pub returns-in_err-n : goal.returns-in_err-n
returns-in_err-n c =
    let a = c.args in
    let p = err_from_is_err_and c.from_residual.result c.from_residual.ensures.1 in rw (p.1, p.2)
    (begins-refused (λ n t l. opened n t l a.bytes.now a.memory.now) a.device.now a.state.now a.bytes.now a.memory.now c.in_err-n.field-0.0 c.in_err-n.ensures.refusals)

pub leave-requires : goal.leave-requires
leave-requires c =
    let a = c.args in
    rw (ap (λ (o : Out). o.said) c.open-r.ensures) (open-told c.in_ok-n.n c.in_ok-n.t c.in_ok-n.l a.bytes.now a.memory.now)

pub returns : goal.returns
returns c =
    let a = c.args in
    let d = c.in_ok-n.ensures.device in
    let q = rw (d.0, d.1, d.2) at c.open-r.ensures in
    let none = ap (λ (o : Out). o.transfers.back) c.open-r.ensures ∙ open-back c.in_ok-n.n c.in_ok-n.t c.in_ok-n.l a.bytes.now a.memory.now in
    begins-does _ (λ n t l. opened n t l a.bytes.now a.memory.now) a.device.now a.state.now a.bytes.now a.memory.now c.in_ok-n.ensures.refusals
    q (c.leave.ensures.0 ∙ given-none _ c.open-r.result.transfers none) c.leave.ensures.1
