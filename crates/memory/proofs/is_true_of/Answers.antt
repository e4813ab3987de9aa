-- The true test, a level at a time from the leaves up: before each turn every bit over the levels passed is good.
use mathlib.Core.Path.{refl, sym, ◌∙◌}
use Prim.Native.Nat.{◌≤◌}
use native.Mathlib.Omega.{arith}
use Rattle.geometry.proofs.Places.{map_blocks-most}
use Rattle.geometry.proofs.Levels.{base-few, base_more, count_most, count-more}
use Rattle.memory.proofs.Truth.{levels-more, levels-all, levels-fail}
use Rattle.memory.proofs.is_true_of.Goals as goal

pub loop-e-init : goal.loop-e-init
loop-e-init c = (refl, refl, λ k l. absurd (omega arith))

pub level_true-requires : goal.level_true-requires
level_true-requires c =
    let a = c.args in
    let l = c.loop-e in
    (omega arith, l.invariant.0, l.invariant.1)

pub returns-then-not-level_true : goal.returns-then-not-level_true
returns-then-not-level_true c =
    let a = c.args in
    let l = c.loop-e in
    sym (levels-fail a.top a.n a.memory.now l.e (omega arith) (sym c.level_true.ensures ∙ c.if-not-level_true.true))

pub overflow_cast-first : goal.overflow_cast-first
overflow_cast-first c =
    let a = c.args in
    let l = c.loop-e in
    let n-most : a.n ≤ 4294967295 = omega arith in
    omega (arith, n-most, l.invariant.1, count_most l.e a.n)

pub overflow_add-first : goal.overflow_add-first
overflow_add-first c =
    let a = c.args in
    let l = c.loop-e in
    let n-most : a.n ≤ 4294967295 = omega arith in
    omega (arith, n-most, l.invariant.0, l.invariant.1, base-few a.n 4294967295 l.e n-most, count_most l.e a.n)

pub overflow_cast-blocks : goal.overflow_cast-blocks
overflow_cast-blocks c =
    let a = c.args in
    let l = c.loop-e in
    let n-most : a.n ≤ 4294967295 = omega arith in
    omega (arith, n-most, c.map_blocks-blocks.ensures, map_blocks-most l.blocks, l.invariant.1, count_most l.e a.n)

pub loop-e-preserved : goal.loop-e-preserved
loop-e-preserved c =
    let a = c.args in
    let l = c.loop-e in (
      base_more a.n l.e l.invariant.0 l.invariant.1,
      count-more a.n l.e l.invariant.1 c.map_blocks-blocks.ensures,
      levels-more a.top a.n a.memory.now l.e l.invariant.2 (sym c.level_true.ensures ∙ c.if-not-level_true.false),
    )

pub returns : goal.returns
returns c =
    let a = c.args in
    let l = c.loop-e in
    sym (levels-all a.top a.n a.memory.now l.e (omega arith) l.invariant.2)
