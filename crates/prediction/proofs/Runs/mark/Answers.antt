-- A write of zero leaves the bits; any other sets the bit of the group's run.
use mathlib.Core.Path.{sym}
use Rattle.prediction.specs.Runs.{run_of}
use Rattle.prediction.proofs.Under.{marked-not, marked-is}
use Rattle.prediction.proofs.Runs.mark.Goals as goal

pub returns-then-v-eq0 : goal.returns-then-v-eq0
returns-then-v-eq0 c = sym (marked-not _ _ _ _ c.if-v-eq0.true)

pub returns : goal.returns
unfolding run_of
returns c =
    let a = c.args in
    cc (marked-is a.self.c a.bits.now a.g a.v c.if-v-eq0.false)
