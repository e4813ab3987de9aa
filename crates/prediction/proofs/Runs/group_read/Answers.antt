-- Under bit 0 zero, under bit 1 the group at its place.
use mathlib.Core.Path.{◌≡◌, sym, ◌∙◌}
use Rattle.prediction.specs.Runs.{run_of, run_bit}
use Rattle.prediction.specs.Calls.{lent}
use Rattle.prediction.proofs.Under.{group_read-0, group_read-1}
use Rattle.prediction.proofs.Runs.group_read.Goals as goal

pub returns-then-run_bit-ne1 : goal.returns-then-run_bit-ne1
unfolding run_of
returns-then-run_bit-ne1 c =
    let a = c.args in
    sym (group_read-0 a.self.c (lent a.tags.now a.bits.now) a.g (λ q. c.if-run_bit-ne1.true (c.run_bit.ensures ∙ q)))

pub returns : goal.returns
unfolding run_of
returns c =
    let a = c.args in
    let one : run_bit a.bits.now (run_of a.self.c a.g) ≡ 1 = sym c.run_bit.ensures ∙ c.if-run_bit-ne1.false in
    cc (group_read-1 a.self.c (lent a.tags.now a.bits.now) a.g one)
