-- `asked_in` meets its contract: a law for each form of a call.
use native.Mathlib.Omega.{arith}
use Rattle.running.proofs.Ways.{asked-step, asked-drain, asked-other, asked-wide, asked-issue}
use Rattle.running.proofs.asked_in.Goals as goal

pub returns-in-1 : goal.returns-in-1
returns-in-1 c = λ k. asked-issue k c.args.calls.now c.args.at c.in-1.is (omega (arith, c.if-v-le-MOST_VALUE.true)) c.access_of.ensures

pub returns-in-2 : goal.returns-in-2
returns-in-2 c = λ k. asked-step k c.args.calls.now c.args.at c.in-2.is

pub returns-in-3 : goal.returns-in-3
returns-in-3 c = λ k. asked-drain k c.args.calls.now c.args.at c.in-3.is

pub returns-in_default : goal.returns-in_default
returns-in_default c = λ k. asked-wide k c.args.calls.now c.args.at c.in-1.is (omega (arith, c.if-v-le-MOST_VALUE.false))

pub returns-in_default-2 : goal.returns-in_default-2
returns-in_default-2 c =
    λ k. asked-other k c.args.calls.now c.args.at (λ e. omega arith) (λ e. omega arith) (λ e. omega arith)
