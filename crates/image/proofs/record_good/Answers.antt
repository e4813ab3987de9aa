-- `image::record_good` meets its contract: the tests are put together as in the definition.
use Rattle.std.proofs.Common.{arith}
use Rattle.std.proofs.lemmas.Grind.{common_steps}
use Rattle.std.proofs.lemmas.Bool.Decides.{nat_tests}
use Rattle.laws.specs.Choice.{both, no}
use Rattle.laws.proofs.Choice.{no-not}
use Rattle.form.specs.Test.{good_above}
use Rattle.image.proofs.record_good.Goals as goal

pub returns-then-leaf-n : goal.returns-then-leaf-n
unfolding good_above both no
returns-then-leaf-n c = grind (arith, common_steps, nat_tests, no-not c.all_zero.result)

pub returns-else-leaf-n : goal.returns-else-leaf-n
unfolding good_above both no
returns-else-leaf-n c = grind (arith, common_steps, nat_tests)
