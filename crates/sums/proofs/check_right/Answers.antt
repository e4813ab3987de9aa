-- `sums::check_right` meets its contract, by a law for each way out.
use Rattle.std.proofs.Common.{sym, ◌∙◌, arith, ne_eqb}
use Rattle.sums.specs.Check.{modulus_for}
use Rattle.sums.proofs.Right.{not-long, not_first, by-second}
use Rattle.sums.proofs.check_right.Goals as goal

pub returns-then-block-ne-BLOCK : goal.returns-then-block-ne-BLOCK
returns-then-block-ne-BLOCK c = sym (not-long _ _ c.if-block-ne-BLOCK.true)

pub returns-then-two_at-s : goal.returns-then-two_at-s
returns-then-two_at-s c = let a = c.args in
    cc (by-second (modulus_for a.version) a.block.now (omega arith) (cc))

pub returns-else-two_at-s : goal.returns-else-two_at-s
returns-else-two_at-s c = let differ = c.if-two_at-s.false in
    ne_eqb _ _ differ ∙ sym (not_first _ _ (λ e. differ (c.two_at.ensures ∙ e ∙ sym c.sums_by-s.ensures.0)))
