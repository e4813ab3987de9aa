-- `measure::Tally::add` meets its contract: where a place is no ending, only two numbers can change.
use Rattle.std.proofs.Common.{refl, arith}
use Rattle.measure.proofs.Tallies.{one-or-none, added-plain}
use Rattle.measure.proofs.Tally.add.Goals as goal

pub returns-in_default : goal.returns-in_default
returns-in_default c =
    let e = added-plain c.args.self c.args.pair c.in_default.is (omega arith) (omega arith) (omega arith) (omega arith) (omega arith) (omega arith) (omega arith) in
    rw (e, c.saturating_add-lines.ensures, c.saturating_add-changed.ensures, c.from.ensures, one-or-none c.args.pair.changed) refl
