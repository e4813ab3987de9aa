-- `show` meets its contract, way by way.
use mathlib.Core.Path.{sym, ◌∙◌}
use native.Mathlib.Omega.{arith}
use Rattle.whole.proofs.Numbers.{some-is_err, free-is_err}
use Rattle.cache.specs.Seen.{seen}
use Rattle.cache.proofs.Refusals.{show-in, show-refused, show-line, show-memory, show-empty}
use Rattle.cache.proofs.State.show.Goals as goal

pub returns-then-is_err : goal.returns-then-is_err
returns-then-is_err c =
    let a = c.args in
    let p = some-is_err _ c.if-is_err.ensures.value in
    sym (show-refused (seen a.self) a.bytes.now a.memory.now a.k (rw c.can_show.ensures at p))

pub overflow_cast-leaf : goal.overflow_cast-leaf
overflow_cast-leaf c =
    let a = c.args in
    omega (arith, show-in (seen a.self) a.bytes.now a.memory.now a.k (sym c.can_show.ensures ∙ free-is_err _ c.if-is_err.ensures.value))

pub block_in-requires : goal.block_in-requires
block_in-requires c =
    let a = c.args in
    omega (arith, show-in (seen a.self) a.bytes.now a.memory.now a.k (sym c.can_show.ensures ∙ free-is_err _ c.if-is_err.ensures.value))

pub returns-then-i-self : goal.returns-then-i-self
returns-then-i-self c =
    let a = c.args in
    c.block_in.ensures ∙ sym (show-line (seen a.self) a.bytes.now a.memory.now a.k (sym c.can_show.ensures ∙ free-is_err _ c.if-is_err.ensures.value) c.line_of-i.result c.line_of-i.ensures (omega arith))

pub shown_counts-requires : goal.shown_counts-requires
shown_counts-requires c =
    let a = c.args in
    let h = show-in (seen a.self) a.bytes.now a.memory.now a.k (sym c.can_show.ensures ∙ free-is_err _ c.if-is_err.ensures.value) in
    (h.1, h.2)

pub block_in-requires-then-shown_counts : goal.block_in-requires-then-shown_counts
block_in-requires-then-shown_counts c =
    let a = c.args in
    omega (arith, show-in (seen a.self) a.bytes.now a.memory.now a.k (sym c.can_show.ensures ∙ free-is_err _ c.if-is_err.ensures.value))

pub returns-then-shown_counts : goal.returns-then-shown_counts
returns-then-shown_counts c =
    let a = c.args in
    c.block_in-then-shown_counts.ensures
    ∙ sym (show-memory (seen a.self) a.bytes.now a.memory.now a.k (sym c.can_show.ensures ∙ free-is_err _ c.if-is_err.ensures.value) (omega arith) (sym c.shown_counts.ensures ∙ c.if-shown_counts.true))

pub returns : goal.returns
returns c =
    let a = c.args in
    sym (show-empty (seen a.self) a.bytes.now a.memory.now a.k (sym c.can_show.ensures ∙ free-is_err _ c.if-is_err.ensures.value) (omega arith) (sym c.shown_counts.ensures ∙ c.if-shown_counts.false))
