-- `output::value` meets its contract: a line too short, or a byte that is no hex digit, decides it.
use Rattle.output.proofs.Lines.{value-short, value-parts}
use Rattle.output.proofs.value.Goals as goal

pub returns-in-Some : goal.returns-in-Some
returns-in-Some c =
    let e = c.in-Some.ensures in
    value-parts _ _ _ e.0 (rw e.1 at c.all_hex.ensures)

pub returns-in-None : goal.returns-in-None
returns-in-None c = value-short _ _ c.in-None.ensures
