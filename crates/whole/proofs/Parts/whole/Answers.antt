-- `whole` meets its contract: in the limits it is the tests of its parts.
use borrow.Author.Rules.{rules}
use Rattle.laws.specs.Choice.{both}
use Rattle.whole.proofs.Tests.{whole_is}
use Rattle.whole.proofs.Parts.whole.Goals as goal

pub returns-then-lines_whole : goal.returns-then-lines_whole
unfolding both
returns-then-lines_whole c =
    let s = c.args.self.now in
    rw (whole_is s.shape s.lines.now s.trackers.now s.in_limits s.lined s.tracked) (search rules)
