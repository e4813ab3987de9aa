-- `loose` meets its contract, held or not.
use mathlib.Core.Path.{refl}
use Rattle.own.proofs.loose.Goals as goal

pub returns-then-held : goal.returns-then-held
returns-then-held c =
    rw (← c.held.ensures, c.if-held.true) c.held_by.ensures

pub returns-else-held : goal.returns-else-held
returns-else-held c =
    rw (← c.held.ensures, c.if-held.false) refl
