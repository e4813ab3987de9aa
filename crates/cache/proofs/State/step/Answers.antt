-- `step` meets its contract: refused, or the state and the rows are those of the turn.
use mathlib.Core.Path.{sym, ap, ◌∙◌}
use native.Mathlib.Omega.{arith}
use Rattle.laws.proofs.Told.{number-some}
use Rattle.rules.specs.Step.{Turned}
use Rattle.rules.specs.Calls.{stepped}
use Rattle.cache.specs.Seen.{seen}
use Rattle.cache.proofs.Refusals.{step_in, step-refused, step-accepted}
use Rattle.cache.proofs.State.step.Goals as goal

pub returns-in-Err : goal.returns-in-Err
returns-in-Err c =
    let a = c.args in
    c.refuse.ensures _ _ ∙ sym (step-refused (seen a.self) a.bytes.now a.memory.now a.x _ c.in-Err.ensures (number-some c.in-Err.r))

pub overflow_cast-x : goal.overflow_cast-x
overflow_cast-x c =
    let a = c.args in
    omega (arith, step_in (seen a.self) a.bytes.now a.memory.now a.x (sym c.in_default.ensures))

pub offset_bounds-self-k : goal.offset_bounds-self-k
offset_bounds-self-k c =
    let a = c.args in
    omega (arith, step_in (seen a.self) a.bytes.now a.memory.now a.x (sym c.in_default.ensures))

pub bounds-self-k : goal.bounds-self-k
bounds-self-k c =
    let a = c.args in
    step_in (seen a.self) a.bytes.now a.memory.now a.x (sym c.in_default.ensures)

pub offset_bounds-self-k-2 : goal.offset_bounds-self-k-2
offset_bounds-self-k-2 c =
    let a = c.args in
    omega (arith, step_in (seen a.self) a.bytes.now a.memory.now a.x (sym c.in_default.ensures))

pub bounds-self-k-2 : goal.bounds-self-k-2
bounds-self-k-2 c =
    let a = c.args in
    step_in (seen a.self) a.bytes.now a.memory.now a.x (sym c.in_default.ensures)

pub returns : goal.returns
returns c =
    let a = c.args in
    ap (λ (y : Turned). stepped (seen a.self) a.x y) c.turn-r.ensures ∙ sym (step-accepted (seen a.self) a.bytes.now a.memory.now a.x (sym c.in_default.ensures))
