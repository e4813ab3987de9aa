-- The tail from the first byte of the top blocks comes back as zeros; where there is none, nothing changes.
use mathlib.Core.Path.{sym}
use native.Mathlib.Omega.{arith}
use Rattle.memory.proofs.Clearing.{cleared_of-none, cleared_of-is}
use Rattle.memory.proofs.clear_of.Goals as goal

pub returns-else-at-memory : goal.returns-else-at-memory
returns-else-at-memory c = let a = c.args in sym (cleared_of-none a.top a.n a.memory.now (omega (arith, c.top_place-at.ensures)))

pub returns-then-at-memory : goal.returns-then-at-memory
returns-then-at-memory c =
    let a = c.args in
    cleared_of-is a.top a.n a.memory.now _ c.top_place-at.ensures (omega arith) c.clear.ensures
