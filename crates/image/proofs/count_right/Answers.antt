-- `image::count_right` meets its contract, one arm of its definition on each way out.
use Rattle.std.proofs.Common.{arith}
use Rattle.std.proofs.lemmas.Grind.{common_steps}
use Rattle.std.proofs.lemmas.Bool.Decides.{nat_tests}
use Rattle.laws.specs.Choice.{both}
use Rattle.form.specs.Test.{count_right}
use Rattle.image.proofs.count_right.Goals as goal

pub returns-in-1-to-7 : goal.returns-in-1-to-7
unfolding count_right both
returns-in-1-to-7 c = grind (arith, common_steps, nat_tests)

pub returns-in_default : goal.returns-in_default
unfolding count_right both
returns-in_default c = grind (arith, common_steps, nat_tests)

pub returns-in_default-2 : goal.returns-in_default-2
unfolding count_right both
returns-in_default-2 c = grind (arith, common_steps, nat_tests)

pub returns-else-last : goal.returns-else-last
unfolding count_right
returns-else-last c = grind (arith, common_steps, nat_tests)
