-- `can_issue` meets its contract: 4 or 2, else what comes after them.
use mathlib.Core.Path.{◌∙◌}
use Rattle.std.proofs.lemmas.Result.{err_from_is_err_and}
use Rattle.rules.specs.Calls.{issue_no}
use Rattle.cache.specs.Seen.{seen}
use Rattle.cache.proofs.Refusals.{unfit-first, fit-rest}
use Rattle.cache.proofs.State.can_issue.Goals as goal

pub returns-in_err-fits : goal.returns-in_err-fits
unfolding issue_no
returns-in_err-fits c =
    let a = c.args in
    let p = err_from_is_err_and c.from_residual.result c.from_residual.ensures.1 in
    rw (p.1, p.2) (unfit-first (seen a.self) a.bytes.now a.memory.now _ _ c.in_err-fits.ensures)

pub returns : goal.returns
unfolding issue_no
returns c =
    let a = c.args in
    c.can_issue.ensures ∙ fit-rest (seen a.self) a.bytes.now a.memory.now _ c.in_ok-fits.ensures
