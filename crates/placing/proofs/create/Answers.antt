-- `create` meets its contract: the line that has the block is filled, or there is no line to take, or the block is placed.
use mathlib.Core.Path.{refl}
use Prim.Native.Nat.{◌<◌}
use native.Mathlib.Omega.{arith}
use Rattle.line.proofs.Find.{line_of-in}
use Rattle.placing.proofs.Ways.{line-is, placed-lines, create-lined, create-none, create-placed}
use Rattle.placing.proofs.create.Goals as goal

pub fill-requires : goal.fill-requires
fill-requires c =
    let a = c.args in
    omega (arith, c.line_of-i.ensures, line_of-in a.lines.now a.b a.shape.l (omega (arith, c.line_of-i.ensures)))

pub returns-then-i-shape-clause-left : goal.returns-then-i-shape-clause-left
returns-then-i-shape-clause-left c =
    rw c.at.ensures (create-lined _ _ _ _ _ _ _ _ _ c.line_of-i.ensures (omega arith) refl (c.fill.ensures _))

pub returns-in_err-spot-clause-left : goal.returns-in_err-spot-clause-left
returns-in_err-spot-clause-left c =
    rw c.from_residual.ensures (create-none _ _ _ _ _ _ (omega (arith, c.line_of-i.ensures)) _ _ _ _ c.in_err-spot.ensures.left (omega arith) refl)

pub fill-requires-2 : goal.fill-requires-2
fill-requires-2 c =
    let a = c.args in
    let h : c.in_ok-spot.spot.line < a.shape.l = c.in_ok-spot.ensures.line in
    omega (arith, h, placed-lines a.shape a.lines.now a.bytes.now c.in_ok-spot.spot.line (line-is c.in_ok-spot.ensures.left) h)

pub returns-clause-left : goal.returns-clause-left
returns-clause-left c =
    create-placed _ _ _ _ _ _ (omega (arith, c.line_of-i.ensures)) _ _ _ _ c.in_ok-spot.ensures.left _ _ c.in_ok-spot.ensures.line (c.fill-2.ensures _)
