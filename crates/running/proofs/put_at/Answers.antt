-- `put_at` meets its contract: the lent part comes back as the answer's words.
use Rattle.tracker.specs.Answer.{says}
use Rattle.coding.specs.Answer.{said_coded}
use Rattle.running.proofs.Ways.{put_in}
use Rattle.running.proofs.put_at.Goals as goal

pub returns : goal.returns
returns c = let a = c.args in
    put_in a.answers.now a.at (said_coded (says a.answer) a.t) c.requires c.put_said.ensures c.put_said.auto.words
