-- `ends_read` meets its contract: the ending carries one turn more.
use Rattle.outcome.proofs.ends_read.Goals as goal

pub returns : goal.returns
returns c = rw c.one_more.ensures at c.ends.ensures
