-- `fetch` meets its contract: there is no line to take, or the block is placed and filled from memory.
use mathlib.Core.Path.{refl}
use Prim.Native.Nat.{◌<◌}
use native.Mathlib.Omega.{arith}
use Rattle.placing.proofs.Ways.{line-is, placed-lines, fetched-none, fetched-is}
use Rattle.placing.proofs.fetch.Goals as goal

pub returns-in_err-spot-clause-left : goal.returns-in_err-spot-clause-left
returns-in_err-spot-clause-left c =
    rw c.from_residual.ensures (fetched-none _ _ _ _ _ _ _ _ c.in_err-spot.ensures.left (omega arith) refl)

pub fill-requires : goal.fill-requires
fill-requires c =
    let a = c.args in
    let h : c.in_ok-spot.spot.line < a.shape.l = c.in_ok-spot.ensures.line in
    omega (arith, h, placed-lines a.shape a.lines.now a.bytes.now c.in_ok-spot.spot.line (line-is c.in_ok-spot.ensures.left) h)

pub returns-clause-left : goal.returns-clause-left
returns-clause-left c =
    fetched-is _ _ _ _ _ _ _ _ _ _ _ _ _ _ c.in_ok-spot.ensures.left c.in_ok-spot.ensures.line c.block_place.ensures c.read_block-block.ensures (c.fill.ensures _) c.plus.ensures
