-- `text::Line::decimal` meets its contract: as many digits as there are places.
use Rattle.wording.proofs.Numbers.{decimal-is}
use Rattle.text.proofs.Line.decimal.Goals as goal

pub returns : goal.returns
returns c = rw (← decimal-is c.count.result c.args.v c.count.ensures) c.digits.ensures
