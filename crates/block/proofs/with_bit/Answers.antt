-- A byte's bit is made v by adding or taking away 2 to the k, where it is not v yet.
use mathlib.Core.Path.{sym, ◌∙◌}
use native.Mathlib.Omega.{arith}
use Rattle.block.proofs.BitsOf.{with_bit-set, with_bit-clear, with_bit-more, with_bit-less, more-fits, less-fits}
use Rattle.block.proofs.with_bit.Goals as goal

pub returns-then-old-eq1 : goal.returns-then-old-eq1
returns-then-old-eq1 c = with_bit-set _ _ _ (sym c.bit_of-old.ensures ∙ c.if-old-eq1.true) c.if-v.true

pub overflow_add-result : goal.overflow_add-result
overflow_add-result c =
    omega (arith, more-fits c.args.x c.args.k (omega arith) c.requires (λ q. c.if-old-eq1.false (c.bit_of-old.ensures ∙ q)))

pub returns-then-v : goal.returns-then-v
returns-then-v c = rw c.power.ensures (with_bit-more _ _ _ c.if-v.true (λ q. c.if-old-eq1.false (c.bit_of-old.ensures ∙ q)))

pub overflow_sub-result : goal.overflow_sub-result
overflow_sub-result c =
    omega (arith, less-fits c.args.x c.args.k (sym c.bit_of-old.ensures ∙ c.if-old-eq1-2.true))

pub returns-then-old-eq1-2 : goal.returns-then-old-eq1-2
returns-then-old-eq1-2 c = rw c.power-then-old-eq1-2.ensures (with_bit-less _ _ _ c.if-v.false (sym c.bit_of-old.ensures ∙ c.if-old-eq1-2.true))

pub returns : goal.returns
returns c = with_bit-clear _ _ _ (λ q. c.if-old-eq1-2.false (c.bit_of-old.ensures ∙ q)) c.if-v.false
