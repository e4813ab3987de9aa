-- `place_of` meets its contract, way by way: in a line; under bit 0; in memory.
use mathlib.Core.Path.{sym, ap, ◌∙◌}
use borrow.Author.Tests.{eqb-true, eqb-false}
use lib.ListN.{length}
use Rattle.cache.specs.Seen.{seen}
use Rattle.cache.proofs.Refusals.{show-in}
use Rattle.harness.proofs.Ways.{shown-line, shown-empty, shown-memory}
use native.Mathlib.Omega.{arith}
use Rattle.harness.proofs.place_of.Goals as goal

pub overflow_cast-k : goal.overflow_cast-k
overflow_cast-k c =
    omega (arith, show-in (seen c.args.s) c.args.bytes.now c.args.memory.now c.args.k c.requires)

pub overflow_mul-result : goal.overflow_mul-result
overflow_mul-result c =
    omega (arith, show-in (seen c.args.s) c.args.bytes.now c.args.memory.now c.args.k c.requires)

pub overflow_add-result : goal.overflow_add-result
overflow_add-result c =
    omega (arith, show-in (seen c.args.s) c.args.bytes.now c.args.memory.now c.args.k c.requires)

pub returns-then-i-l : goal.returns-then-i-l
returns-then-i-l c =
    let a = c.args in
    shown-line (seen a.s) a.bytes.now a.memory.now a.k c.requires c.line_of-i.result c.line_of-i.ensures c.if-i-l.true

pub returns-then-is_empty : goal.returns-then-is_empty
returns-then-is_empty c =
    let a = c.args in
    shown-empty (seen a.s) a.bytes.now a.memory.now a.k c.requires (omega (arith, c.line_of-i.ensures)) (ap length (sym c.show.ensures) ∙ eqb-true _ _ (sym c.if-is_empty.ensures))

pub overflow_mul-result-2 : goal.overflow_mul-result-2
overflow_mul-result-2 c =
    omega (arith, show-in (seen c.args.s) c.args.bytes.now c.args.memory.now c.args.k c.requires)

pub overflow_add-result-2 : goal.overflow_add-result-2
overflow_add-result-2 c =
    omega (arith, show-in (seen c.args.s) c.args.bytes.now c.args.memory.now c.args.k c.requires)

pub overflow_add-result-3 : goal.overflow_add-result-3
overflow_add-result-3 c =
    omega (arith, show-in (seen c.args.s) c.args.bytes.now c.args.memory.now c.args.k c.requires)

pub returns : goal.returns
returns c =
    let a = c.args in
    shown-memory (seen a.s) a.bytes.now a.memory.now a.k c.requires (omega (arith, c.line_of-i.ensures)) (λ q. eqb-false _ _ (sym c.if-is_empty.ensures) (ap length c.show.ensures ∙ q))
