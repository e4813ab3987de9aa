-- The limits and the length.
use mathlib.Core.Path.{sym}
use native.Mathlib.Omega.{arith}
use Rattle.memory.proofs.Sized.{small, long}
use Rattle.tagged.proofs.Memory.new.Goals as goal

pub overflow_cast-result : goal.overflow_cast-result
overflow_cast-result c = omega (arith, small c.args.n c.args.bytes.now (sym c.in_ok-fits.ensures))

pub invariant_of-result : goal.invariant_of-result
invariant_of-result c =
    let fits = sym c.in_ok-fits.ensures in
    record { few = small c.args.n c.args.bytes.now fits; long = long c.args.n c.args.bytes.now fits }
