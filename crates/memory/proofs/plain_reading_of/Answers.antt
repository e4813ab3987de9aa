-- Plain reading: refused as the lent memory does not fit or for its group, else the group.
use mathlib.Core.Path.{◌≡◌, sym, ap, ◌∙◌}
use Prim.Native.Nat.{◌+◌}
use native.Mathlib.Omega.{arith}
use borrow.Author.Rules.{rules}
use Rattle.laws.specs.Refusal.{number, given}
use Rattle.laws.proofs.Told.{number-some}
use Rattle.geometry.proofs.Places.{groups-most}
use Rattle.memory.proofs.Sized.{sized_of-hold, sized_of-small, sized_of-long}
use Rattle.memory.proofs.Reading.{misfit_of, refused_of-6, accepted_of}
use Rattle.memory.proofs.plain_reading_of.Goals as goal

pub returns-in_err-fits_of-clause-told : goal.returns-in_err-fits_of-clause-told
returns-in_err-fits_of-clause-told c =
    let told : given c.from_residual.result ≡ 4294967296 + number c.in_err-fits_of.field-0.0 = search rules in
    let some = number-some c.in_err-fits_of.field-0.0 in
    told ∙ ap (4294967296 +◌) c.in_err-fits_of.ensures ∙ sym (misfit_of _ _ _ _ (omega (arith, some, c.in_err-fits_of.ensures)))

pub overflow_cast-n : goal.overflow_cast-n
overflow_cast-n c = omega (arith, sized_of-small _ _ _ (sym c.in_ok-fits_of.ensures))

pub returns-then-groups-g-clause-told : goal.returns-then-groups-g-clause-told
returns-then-groups-g-clause-told c =
    let fits = sym c.in_ok-fits_of.ensures in
    sym (refused_of-6 _ _ _ _ (sized_of-hold _ _ _ fits).0 (sized_of-long _ _ _ fits) (omega (arith, c.groups.ensures)))

pub overflow_cast-n-2 : goal.overflow_cast-n-2
overflow_cast-n-2 c = omega (arith, sized_of-small _ _ _ (sym c.in_ok-fits_of.ensures))

pub overflow_cast-g : goal.overflow_cast-g
overflow_cast-g c =
    omega (arith, c.groups.ensures, groups-most c.args.n 1048576 (sized_of-small _ _ _ (sym c.in_ok-fits_of.ensures)))

pub returns-clause-told : goal.returns-clause-told
returns-clause-told c =
    let fits = sym c.in_ok-fits_of.ensures in
    c.plain_group_of.ensures ∙ sym (accepted_of _ _ _ _ (sized_of-hold _ _ _ fits).0 (sized_of-long _ _ _ fits) (omega (arith, c.groups.ensures)))
