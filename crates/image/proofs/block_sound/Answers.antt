-- `image::block_sound` meets its contract, by a law for each way out. A right count is at most 7, so the unused bytes begin in the block.
use Rattle.std.proofs.Common.{arith}
use Rattle.std.proofs.lemmas.Grind.{common_steps}
use Rattle.std.proofs.lemmas.Bool.Decides.{nat_tests}
use Rattle.laws.specs.Choice.{both}
use Rattle.form.specs.Test.{block_sound}
use Rattle.form.proofs.Sound.{count-bounds}
use Rattle.image.proofs.block_sound.Goals as goal

pub returns-then-block-ne-BLOCK : goal.returns-then-block-ne-BLOCK
unfolding block_sound both
returns-then-block-ne-BLOCK c = grind (arith, common_steps, nat_tests)

pub unused_zero-requires : goal.unused_zero-requires
unused_zero-requires c = grind (arith, common_steps, nat_tests, count-bounds c.args.last c.two_at-count.result)

pub returns-then-two_at-eq2 : goal.returns-then-two_at-eq2
unfolding block_sound both
returns-then-two_at-eq2 c = grind (arith, common_steps, nat_tests)

pub returns-else-two_at-eq2 : goal.returns-else-two_at-eq2
unfolding block_sound both
returns-else-two_at-eq2 c = grind (arith, common_steps, nat_tests)
