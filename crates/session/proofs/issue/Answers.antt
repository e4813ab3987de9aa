use Prim.Native.Nat.{◌<◌}
use native.Mathlib.Omega.{arith}
use Rattle.session.specs.Session.{issued}
use Rattle.session.proofs.issue.Goals as goal

-- src/lib.rt:24:1
pub returns : goal.returns
returns c =
    let l : c.args.access.value < 4294967296 = omega (arith, c.well_formed.1.1.1.1.0) in
    issued _ _ _ l c.issue.ensures
