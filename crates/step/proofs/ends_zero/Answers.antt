-- `ends_zero` meets its contract: a write ends "same", a read with 0.
use Rattle.outcome.proofs.Rule.{by-rule}
use Rattle.step.proofs.Ways.{zero-write, zero-read}
use Rattle.step.proofs.ends_zero.Goals as goal

pub returns-then-t : goal.returns-then-t
returns-then-t c = λ ls bs m. by-rule (zero-write c.args.t _ _ _ c.if-t.true) (c.ends_same.ensures ls bs m)

pub returns-else-t : goal.returns-else-t
returns-else-t c = λ ls bs m. by-rule (zero-read c.args.t _ _ _ c.if-t.false) (c.ends_read.ensures ls bs m)
