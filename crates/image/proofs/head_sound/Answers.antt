-- `image::head_sound` meets its contract: each field is read, and the tests are put together as in the definition.
use Rattle.std.proofs.Common.{arith}
use Rattle.std.proofs.lemmas.Grind.{common_steps}
use Rattle.std.proofs.lemmas.Bool.Decides.{nat_tests}
use Rattle.laws.specs.Choice.{both, either}
use Rattle.form.specs.Test.{form_in}
use Rattle.form.proofs.Sound.{head-short, head-by-form}
use Rattle.image.proofs.head_sound.Goals as goal

pub returns-then-in_limits : goal.returns-then-in_limits
unfolding both either
returns-then-in_limits c = grind (arith, common_steps, nat_tests, head-by-form c.args.block.now)

pub returns-else-in_limits : goal.returns-else-in_limits
unfolding both either
returns-else-in_limits c = grind (arith, common_steps, nat_tests, head-by-form c.args.block.now, head-short (form_in c.args.block.now) c.args.block.now)
