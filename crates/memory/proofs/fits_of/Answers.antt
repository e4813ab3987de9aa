-- Each refusal by its law.
use mathlib.Core.Path.{sym, ◌∙◌}
use native.Mathlib.Omega.{arith}
use Rattle.geometry.proofs.Levels.{leaves-most}
use Rattle.memory.proofs.Sized.{sized_of-1, sized_of-2, sized_of-0}
use Rattle.memory.proofs.fits_of.Goals as goal

pub returns-then-not-in_limits_of : goal.returns-then-not-in_limits_of
returns-then-not-in_limits_of c = sym (sized_of-1 _ _ _ (sym c.if-not-in_limits_of.ensures))

pub overflow_cast-n : goal.overflow_cast-n
overflow_cast-n c = omega (arith, leaves-most _ _ (sym c.if-not-in_limits_of.ensures))

pub returns-then-memory-length_of : goal.returns-then-memory-length_of
returns-then-memory-length_of c =
    sym (sized_of-2 _ _ _ (sym c.if-not-in_limits_of.ensures) (λ q. c.if-memory-length_of.true (q ∙ sym c.length_of.ensures)))

pub returns : goal.returns
returns c = sym (sized_of-0 _ _ _ (sym c.if-not-in_limits_of.ensures) (c.if-memory-length_of.false ∙ c.length_of.ensures))
