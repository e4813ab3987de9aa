-- `has` meets its contract: one comparison says that the word is used and which block it has.
use Rattle.line.proofs.Words.{has_key}
use Rattle.line.proofs.has.Goals as goal

pub returns : goal.returns
returns c = rw (c.from.ensures, c.from-2.ensures) (has_key c.args.w c.args.b)
