-- `image::test_blocks` meets its contract: the blocks before block j are tested, one after the other.
use Rattle.std.specs.Option.{is_some, unwrap_or}
use Rattle.form.specs.Test.{form_of}
use Rattle.form.proofs.Rules.{Tested}
use Rattle.image.proofs.test_blocks.Given as goal

abbrev pub invariant-loop-j : goal.invariant-loop-j
invariant-loop-j l = Tested (form_of l.image) l.image (is_some l.kept) (unwrap_or l.kept 0) l.j
