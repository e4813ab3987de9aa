-- `tag_restore` meets its contract: the refusal of restoring, as a number.
use Rattle.std.proofs.Common.{length, ◌∙◌}
use Rattle.model.proofs.Archive.{restored-as}
use Rattle.model.proofs.archive_calls.tag_restore.Goals as goal

pub returns : goal.returns
returns c = (c.given_done.ensures ∙ restored-as c.args.image.now (length c.args.memory.now) c.restore.result c.restore.ensures.0, c.restore.ensures.1)
