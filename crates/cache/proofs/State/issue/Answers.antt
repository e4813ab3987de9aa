-- `issue` meets its contract: refused, or the tracker begins.
use mathlib.Core.Path.{sym, ◌∙◌}
use native.Mathlib.Omega.{arith}
use Rattle.laws.proofs.Told.{number-some}
use Rattle.cache.specs.Seen.{seen}
use Rattle.cache.proofs.Refusals.{issue-in, issue-refused, issue-accepted}
use Rattle.cache.proofs.State.issue.Goals as goal

pub returns-in-Err : goal.returns-in-Err
returns-in-Err c =
    let a = c.args in
    c.refuse.ensures _ _ ∙ sym (issue-refused (seen a.self) a.bytes.now a.memory.now a.x a.access _ c.in-Err.ensures (number-some c.in-Err.r))

pub offset_bounds-self-x : goal.offset_bounds-self-x
offset_bounds-self-x c =
    let a = c.args in
    omega (arith, issue-in (seen a.self) a.bytes.now a.memory.now a.x a.access (sym c.in_default.ensures))

pub bounds-self-x : goal.bounds-self-x
bounds-self-x c =
    let a = c.args in
    issue-in (seen a.self) a.bytes.now a.memory.now a.x a.access (sym c.in_default.ensures)

pub returns : goal.returns
returns c =
    let a = c.args in
    c.accept.ensures _ _ ∙ rw c.begin.ensures (sym (issue-accepted (seen a.self) a.bytes.now a.memory.now a.x a.access (sym c.in_default.ensures)))
