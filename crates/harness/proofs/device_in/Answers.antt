-- `device_in` meets its contract: three words, and as many as a state has.
use native.Mathlib.Omega.{arith}
use Rattle.harness.proofs.Ways.{device-2, device-state, device-0}
use Rattle.harness.proofs.device_in.Goals as goal

pub returns-in-len3-clause-refusals : goal.returns-in-len3-clause-refusals
returns-in-len3-clause-refusals c =
    device-0 c.args.device.now c.args.state.now (omega (arith, c.in-len3.len_at_least, c.in-len3.len_below)) c.if-state-eq-STATE_WORDS.true

pub returns-in_default-clause-refusals : goal.returns-in_default-clause-refusals
returns-in_default-clause-refusals c = device-2 c.args.device.now c.args.state.now (λ e. omega (arith, c.in_default.len_below))

pub returns-in_default-2-clause-refusals : goal.returns-in_default-2-clause-refusals
returns-in_default-2-clause-refusals c =
    device-state c.args.device.now c.args.state.now (omega (arith, c.in-len3.len_at_least, c.in-len3.len_below)) c.if-state-eq-STATE_WORDS.false

pub returns-in_default-3-clause-refusals : goal.returns-in_default-3-clause-refusals
returns-in_default-3-clause-refusals c = device-2 c.args.device.now c.args.state.now (λ e. omega (arith, c.in_default.len_at_least))
