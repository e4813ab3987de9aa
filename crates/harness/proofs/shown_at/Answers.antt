-- `shown_at` meets its contract: refused, or the place.
use mathlib.Core.Path.{sym}
use Rattle.std.proofs.lemmas.Result.{err_from_is_err_and}
use Rattle.laws.proofs.Told.{number-some}
use Rattle.cache.specs.Seen.{seen}
use Rattle.harness.proofs.Ways.{shown-no}
use Rattle.harness.proofs.shown_at.Goals as goal

pub returns-in_err-can_show-clause-told : goal.returns-in_err-can_show-clause-told
returns-in_err-can_show-clause-told c =
    let a = c.args in
    let p = err_from_is_err_and c.from_residual.result c.from_residual.ensures.1 in rw (p.1, p.2)
    (shown-no (seen a.s) a.bytes.now a.memory.now a.k _ c.in_err-can_show.ensures (number-some _))

pub place_of-requires : goal.place_of-requires
place_of-requires c = sym c.in_ok-can_show.ensures
