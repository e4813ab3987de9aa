-- The true test of a level, a block above it at a time: before each turn every bit of the blocks passed is good.
use mathlib.Core.Path.{◌≡◌, sym, ap, ◌∙◌}
use Prim.Native.Nat.{ℕ, suc, ◌+◌, ◌-◌, ◌≤◌}
use native.Mathlib.Omega.{arith}
use Rattle.laws.proofs.Scan.{all-zero}
use Rattle.geometry.specs.TagMemory.{map_blocks, count}
use Rattle.geometry.proofs.Places.{map_blocks-few}
use Rattle.geometry.proofs.Levels.{base-few}
use Rattle.memory.proofs.Truth.{level-none, blocks_more, blocks-fail, blocks-all}
use Rattle.memory.proofs.level_true.Goals as goal

-- the blocks above a level
above : (e n : ℕ) {blocks end : ℕ} → end ≡ map_blocks blocks → blocks ≡ count e n → end ≡ count (suc e) n
above e n p q = p ∙ ap map_blocks q

pub overflow_add-first : goal.overflow_add-first
overflow_add-first c =
    let a = c.args in
    let n-most : a.n ≤ 4294967295 = omega arith in
    let e-most : a.e ≤ 255 = omega arith in
    omega (arith, e-most, c.requires.1, base-few a.n 4294967295 a.e n-most)

pub overflow_mul-first : goal.overflow_mul-first
overflow_mul-first c =
    let a = c.args in
    let n-most : a.n ≤ 4294967295 = omega arith in
    let e-most : a.e ≤ 255 = omega arith in
    omega (arith, e-most, c.requires.1, base-few a.n 4294967295 a.e n-most)

pub returns-then-memory-first : goal.returns-then-memory-first
returns-then-memory-first c =
    let a = c.args in
    sym (level-none (a.top - a.e) (a.top - (a.e + 1)) a.e a.n a.memory.now (omega arith) (omega (arith, c.requires.1, c.requires.2)))

pub overflow_cast-end : goal.overflow_cast-end
overflow_cast-end c = omega (arith, c.map_blocks-end.ensures, map_blocks-few c.args.blocks)

pub loop-j-init : goal.loop-j-init
loop-j-init c = (c.map_blocks-end.ensures, all-zero _)

pub block_true-requires : goal.block_true-requires
block_true-requires c =
    let a = c.args in
    let l = c.loop-j in
    (omega arith, c.requires.1, c.requires.2, omega (arith, map_blocks-few a.blocks), omega arith)

pub returns-then-not-block_true : goal.returns-then-not-block_true
returns-then-not-block_true c =
    let a = c.args in
    let l = c.loop-j in
    sym (blocks-fail (a.top - a.e) a.e a.n a.memory.now l.j (omega (arith, above a.e a.n l.invariant.0 c.requires.2)) (sym c.block_true.ensures ∙ c.if-not-block_true.true))

pub loop-j-preserved : goal.loop-j-preserved
loop-j-preserved c =
    let a = c.args in
    let l = c.loop-j in
    (l.invariant.0, blocks_more (a.top - a.e) a.e a.n a.memory.now l.j l.invariant.1 (sym c.block_true.ensures ∙ c.if-not-block_true.false))

pub returns : goal.returns
returns c =
    let a = c.args in
    let l = c.loop-j in
    sym (blocks-all (a.top - a.e) a.e a.n a.memory.now l.j (omega (arith, above a.e a.n l.invariant.0 c.requires.2)) l.invariant.1)
