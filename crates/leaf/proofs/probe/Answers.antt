-- `probe` meets its contract: a law for each way out.
use mathlib.Core.Path.{◌≡◌, sym, ◌∙◌}
use mathlib.Core.Bool.{true}
use native.Mathlib.Omega.{arith}
use borrow.Author.Tests.{not-true, not-false}
use Rattle.rules.specs.Place.{rows_fit}
use Rattle.placing.proofs.Ways.{fit-bytes}
use Rattle.outcome.proofs.Rule.{by-rule}
use Rattle.leaf.proofs.Ways.{probe_on-misfit, probe_on-fit, probe-none, probe-reads, probe-equal, probe-differs}
use Rattle.leaf.proofs.probe.Goals as goal

pub returns-then-not-rows_fit : goal.returns-then-not-rows_fit
returns-then-not-rows_fit c =
    λ m. by-rule (probe_on-misfit _ _ _ (sym c.rows_fit.ensures ∙ c.if-not-rows_fit.true)) (c.refuses.ensures _ _ m)

pub returns-then-shape-i : goal.returns-then-shape-i
returns-then-shape-i c =
    λ m. by-rule (probe_on-fit _ _ _ (sym c.rows_fit.ensures ∙ c.if-not-rows_fit.false) ∙ probe-none _ _ _ _ _ _ c.none-none.ensures c.top.ensures c.after_probe-next.ensures c.leaf_of.ensures c.line_of-i.ensures (omega arith)) (c.goes.ensures _ _ m)

pub group_in-v-requires : goal.group_in-v-requires
group_in-v-requires c =
    let a = c.args in
    let f : rows_fit a.shape.l a.lines.now a.bytes.now ≡ true = sym c.rows_fit.ensures ∙ c.if-not-rows_fit.false in
    omega (arith, fit-bytes _ _ _ f)

pub returns-then-not-t : goal.returns-then-not-t
returns-then-not-t c =
    λ m. by-rule (probe_on-fit _ _ _ (sym c.rows_fit.ensures ∙ c.if-not-rows_fit.false) ∙ probe-reads _ _ _ _ _ _ c.none-none.ensures c.top.ensures c.after_probe-next.ensures c.leaf_of.ensures c.line_of-i.ensures _ (omega arith) c.group_in-v.ensures (not-true _ c.if-not-t.true)) (c.ends_read.ensures _ _ m)

pub returns-then-v-t : goal.returns-then-v-t
returns-then-v-t c =
    λ m. by-rule (probe_on-fit _ _ _ (sym c.rows_fit.ensures ∙ c.if-not-rows_fit.false) ∙ probe-equal _ _ _ _ _ _ c.none-none.ensures c.top.ensures c.after_probe-next.ensures c.leaf_of.ensures c.line_of-i.ensures _ (omega arith) c.group_in-v.ensures (not-false _ c.if-not-t.false) (omega arith)) (c.ends_same.ensures _ _ m)

pub returns : goal.returns
returns c =
    λ m. by-rule (probe_on-fit _ _ _ (sym c.rows_fit.ensures ∙ c.if-not-rows_fit.false) ∙ probe-differs _ _ _ _ _ _ c.none-none.ensures c.top.ensures c.after_probe-next.ensures c.leaf_of.ensures c.line_of-i.ensures _ (omega arith) c.group_in-v.ensures (not-false _ c.if-not-t.false) (omega arith)) (c.goes-2.ensures _ _ m)
