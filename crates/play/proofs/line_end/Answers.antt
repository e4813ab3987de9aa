-- `line_end` meets its contract: the first newline from `at`, or none.
use Rattle.play.proofs.Ways.{end-found, end_none}
use Rattle.play.proofs.line_end.Goals as goal

pub returns-in-Some : goal.returns-in-Some
returns-in-Some c = end-found c.args.input.now c.args.at c.requires c.in-Some.k c.in-Some.ensures

pub returns-in-None : goal.returns-in-None
returns-in-None c = end_none c.args.input.now c.args.at c.requires c.in-None.ensures
