-- `top` meets its contract: a law for each way out.
use mathlib.Core.Path.{refl, sym, ◌∙◌}
use Prim.Native.Nat.{suc}
use native.Mathlib.Omega.{arith}
use Rattle.geometry.specs.Shape.{top_of}
use Rattle.geometry.specs.TagMemory.{index}
use Rattle.geometry.proofs.Levels.{index-lt, block_on-lt, blocks_of-most}
use Rattle.own.proofs.Ways.{owns-found}
use Rattle.outcome.proofs.Rule.{by-rule}
use Rattle.step.proofs.Ways.{top-waits, top-lined, top-none, top-fetched}
use Rattle.step.proofs.top.Goals as goal

pub returns-then-held : goal.returns-then-held
returns-then-held c =
    let a = c.args in
    let o = owns-found a.shape a.t.group a.lines.now c.find-own.ensures c.requires.0 in
    by-rule (top-waits a.shape a.x c.at-i.result a.t a.lines.now a.bytes.now a.memory.now c.find-own.result o (rw c.top.ensures at c.at-i.ensures) (omega arith)
    (sym c.held.ensures ∙ c.if-held.true)) (c.waits.ensures _ _ _)

pub returns-then-i-shape : goal.returns-then-i-shape
returns-then-i-shape c =
    let a = c.args in
    let o = owns-found a.shape a.t.group a.lines.now c.find-own.ensures c.requires.0 in
    by-rule (top-lined a.shape a.x c.at-i.result a.t a.lines.now a.bytes.now a.memory.now c.find-own.result o (rw c.top.ensures at c.at-i.ensures) (omega arith)
    (sym c.held.ensures ∙ c.if-held.false) refl c.below_top-below.ensures) (rw c.at.ensures at (c.descend.ensures a.memory.now))

pub overflow_cast-b : goal.overflow_cast-b
overflow_cast-b c =
    let a = c.args in
    let n = a.shape.n in
    let g = a.t.group in
    let top = top_of a.shape in
    let there = block_on-lt n top (suc top) (index top g) (omega arith) (index-lt top n g c.requires.1) in
    omega (arith, rw c.top-2.ensures at c.block_over-b.ensures, there, blocks_of-most top n c.requires.0)

pub returns-in_default : goal.returns-in_default
returns-in_default c =
    let a = c.args in
    let o = owns-found a.shape a.t.group a.lines.now c.find-own.ensures c.requires.0 in
    by-rule (top-none a.shape a.x c.at-i.result a.t a.lines.now a.bytes.now a.memory.now c.find-own.result o (rw c.top.ensures at c.at-i.ensures) (omega arith)
    _ (rw c.top-2.ensures at c.block_over-b.ensures) _ _ _ _ _ _ c.in_default.ensures.left (omega arith)) (c.refuses.ensures _ _ _)

pub returns : goal.returns
returns c =
    let a = c.args in
    let o = owns-found a.shape a.t.group a.lines.now c.find-own.ensures c.requires.0 in
    by-rule (top-fetched a.shape a.x c.at-i.result a.t a.lines.now a.bytes.now a.memory.now c.find-own.result o (rw c.top.ensures at c.at-i.ensures) (omega arith)
    _ (rw c.top-2.ensures at c.block_over-b.ensures) _ _ _ _ _ _ c.in-Some.ensures.left c.in-Some.ensures.line c.below_top-below.ensures) (c.descend-2.ensures _)
