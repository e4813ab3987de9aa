-- `leaf` meets its contract: a law for each way out.
use mathlib.Core.Path.{◌≡◌, sym, ◌∙◌}
use mathlib.Core.Bool.{true}
use native.Mathlib.Omega.{arith}
use lib.Dec.{ltb}
use borrow.Author.Tests.{not-true, not-false}
use Rattle.laws.specs.Choice.{both}
use Rattle.rules.specs.Place.{rows_fit}
use Rattle.placing.specs.Lines.{rows}
use Rattle.outcome.proofs.Rule.{by-rule}
use Rattle.leaf.proofs.Ways.{in_lines, in_bytes, leaf_on-out, is-own, leaf_on-read, leaf_on-0, leaf_on-1}
use Rattle.leaf.proofs.leaf.Goals as goal

pub returns-then-not-in_rows : goal.returns-then-not-in_rows
returns-then-not-in_rows c =
    let a = c.args in
    by-rule (leaf_on-out a.shape _ a.t (rows a.lines.now a.bytes.now a.memory.now) c.find-own.ensures (sym c.in_rows.ensures ∙ c.if-not-in_rows.true)) (c.refuses.ensures _ _ _)

pub leaf_read-requires : goal.leaf_read-requires
leaf_read-requires c =
    let a = c.args in
    let f : both (ltb c.find-own.result.one a.shape.l) (rows_fit a.shape.l a.lines.now a.bytes.now) ≡ true = sym c.in_rows.ensures ∙ c.if-not-in_rows.false in
    (is-own a.shape _ a.t (rows a.lines.now a.bytes.now a.memory.now) c.find-own.ensures f, in_lines _ _ _ _ f, in_bytes _ _ _ _ f)

pub returns-then-not-t : goal.returns-then-not-t
returns-then-not-t c =
    let a = c.args in
    by-rule (leaf_on-read a.shape _ a.t (rows a.lines.now a.bytes.now a.memory.now) c.find-own.ensures (sym c.in_rows.ensures ∙ c.if-not-in_rows.false) (not-true _ c.if-not-t.true)) c.leaf_read.ensures

pub write_under_0-requires : goal.write_under_0-requires
write_under_0-requires c =
    let a = c.args in
    let f : both (ltb c.find-own.result.one a.shape.l) (rows_fit a.shape.l a.lines.now a.bytes.now) ≡ true = sym c.in_rows.ensures ∙ c.if-not-in_rows.false in
    is-own a.shape _ a.t (rows a.lines.now a.bytes.now a.memory.now) c.find-own.ensures f

pub returns-then-bit_in-eq0 : goal.returns-then-bit_in-eq0
returns-then-bit_in-eq0 c =
    let a = c.args in
    by-rule (leaf_on-0 a.shape _ a.t (rows a.lines.now a.bytes.now a.memory.now) c.find-own.ensures (sym c.in_rows.ensures ∙ c.if-not-in_rows.false) _ c.bit_in.ensures (not-false _ c.if-not-t.false) (omega (arith, c.if-bit_in-eq0.true))) c.write_under_0.ensures

pub write_under_1-requires : goal.write_under_1-requires
write_under_1-requires c =
    let a = c.args in
    let f : both (ltb c.find-own.result.one a.shape.l) (rows_fit a.shape.l a.lines.now a.bytes.now) ≡ true = sym c.in_rows.ensures ∙ c.if-not-in_rows.false in
    (is-own a.shape _ a.t (rows a.lines.now a.bytes.now a.memory.now) c.find-own.ensures f, in_lines _ _ _ _ f, in_bytes _ _ _ _ f)

pub returns : goal.returns
returns c =
    let a = c.args in
    by-rule (leaf_on-1 a.shape _ a.t (rows a.lines.now a.bytes.now a.memory.now) c.find-own.ensures (sym c.in_rows.ensures ∙ c.if-not-in_rows.false) _ c.bit_in.ensures (not-false _ c.if-not-t.false) (omega (arith, c.if-bit_in-eq0.false))) c.write_under_1.ensures
