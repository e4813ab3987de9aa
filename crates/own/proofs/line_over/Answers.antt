-- `line_over` meets its contract: there is such a device, or not.
use mathlib.Core.Path.{sym}
use Prim.Native.Nat.{◌<◌}
use native.Mathlib.Omega.{arith}
use Rattle.geometry.proofs.Levels.{block_over-few}
use Rattle.own.proofs.Ways.{limits_of_lem, line_over-in, line_over-none}
use Rattle.own.proofs.line_over.Goals as goal

pub returns-then-not-in_limits_of : goal.returns-then-not-in_limits_of
returns-then-not-in_limits_of c =
    let a = c.args in
    sym (line_over-none a.shape a.g _ a.e (limits_of_lem a.shape c.top.ensures (rw c.from.ensures at c.in_limits_of.ensures) c.if-not-in_limits_of.true))

pub overflow_cast-block_over : goal.overflow_cast-block_over
overflow_cast-block_over c =
    let a = c.args in
    let g-lt : a.g < 4294967296 = omega arith in
    let e-lt : a.e < 256 = omega arith in
    omega (arith, c.block_over.ensures, block_over-few _ a.e a.shape.n a.g (limits_of_lem a.shape c.top.ensures (rw c.from.ensures at c.in_limits_of.ensures) c.if-not-in_limits_of.false) e-lt g-lt)

pub returns : goal.returns
returns c =
    let a = c.args in
    line_over-in a.shape a.g _ a.e (limits_of_lem a.shape c.top.ensures (rw c.from.ensures at c.in_limits_of.ensures) c.if-not-in_limits_of.false) c.block_over.ensures c.line_of.ensures
