-- `script::find` meets its contract: no byte passed was b.
use native.Mathlib.Omega.{arith}
use Rattle.script.proofs.Laws.{found, found-none}
use Rattle.script.proofs.find.Goals as goal

pub returns-then-x-b : goal.returns-then-x-b
returns-then-x-b c = found _ _ c.loop-i.i (omega arith) c.loop-i.invariant c.if-x-b.true

pub returns : goal.returns
returns c = found-none _ _ (λ k h. c.loop-i.invariant k (omega arith))
