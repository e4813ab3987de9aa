-- The true test of a word, from its lowest one upwards: before each turn the bits of `bits` are left, and the others are good.
use mathlib.Core.Path.{◌≡◌, refl, sym, ap, ◌∙◌}
use mathlib.Core.Bool.{true, false, not}
use Prim.Native.Nat.{◌+◌, ◌*◌}
use native.Mathlib.Omega.{arith}
use lib.Count.{count_trailing_zeros}
use Rattle.laws.specs.Bytes.{part, Bytes}
use Rattle.laws.proofs.Put.{part-is}
use Rattle.block.specs.Block.{all_zero}
use Rattle.memory.specs.True.{map_word}
use Rattle.memory.proofs.Truth.{left-all, left-none, some-bit, left-bit, left-fails, left-fewer, fewer, true_bit-past, true_bit-1}
use Rattle.memory.proofs.word_true.Goals as goal

pub loop-bits-init : goal.loop-bits-init
unfolding Bytes map_word
loop-bits-init c =
    let a = c.args in
    left-all a.first a.blocks a.memory.now a.i c.number_at-bits.result (λ x. omega (arith, c.type_inv.memory x)) c.number_at-bits.ensures (omega (arith, c.number_at-bits.type_inv))

pub overflow_add-k : goal.overflow_add-k
overflow_add-k c =
    let a = c.args in
    let l = c.loop-bits in
    omega (arith, (some-bit a.first a.blocks a.memory.now a.i l.bits (32 * a.i + count_trailing_zeros 32 l.bits) l.invariant c.loop-bits-test.true refl).0)

pub returns-then-blocks-k : goal.returns-then-blocks-k
returns-then-blocks-k c =
    let a = c.args in
    let l = c.loop-bits in
    let some = c.loop-bits-test.true in
    let k = 32 * a.i + count_trailing_zeros 32 l.bits in
    let bit = left-bit a.first a.blocks a.memory.now a.i l.bits k l.invariant some refl in
    sym (left-fails a.first a.blocks a.memory.now a.i l.bits k l.invariant some refl (true_bit-past a.first a.blocks a.memory.now k bit c.if-blocks-k.true))

pub returns-then-all_zero : goal.returns-then-all_zero
returns-then-all_zero c =
    let a = c.args in
    let l = c.loop-bits in
    let some = c.loop-bits-test.true in
    let k = 32 * a.i + count_trailing_zeros 32 l.bits in
    let bit = left-bit a.first a.blocks a.memory.now a.i l.bits k l.invariant some refl in
    let z : all_zero (part a.memory.now (64 * (a.first + k)) 64) ≡ true = cc (part-is a.memory.now (64 * (a.first + k)) 64) in
    sym (left-fails a.first a.blocks a.memory.now a.i l.bits k l.invariant some refl (true_bit-1 a.first a.blocks a.memory.now k bit c.if-blocks-k.false ∙ ap not z))

pub loop-bits-smaller : goal.loop-bits-smaller
loop-bits-smaller c =
    let a = c.args in
    let l = c.loop-bits in
    fewer a.first a.blocks a.memory.now a.i l.bits (32 * a.i + count_trailing_zeros 32 l.bits) l.invariant c.loop-bits-test.true refl

pub loop-bits-preserved : goal.loop-bits-preserved
loop-bits-preserved c =
    let a = c.args in
    let l = c.loop-bits in
    let some = c.loop-bits-test.true in
    let k = 32 * a.i + count_trailing_zeros 32 l.bits in
    let bit = left-bit a.first a.blocks a.memory.now a.i l.bits k l.invariant some refl in
    let z : all_zero (part a.memory.now (64 * (a.first + k)) 64) ≡ false = cc (part-is a.memory.now (64 * (a.first + k)) 64) in
    left-fewer a.first a.blocks a.memory.now a.i l.bits k l.invariant some refl (true_bit-1 a.first a.blocks a.memory.now k bit c.if-blocks-k.false ∙ ap not z)

pub returns : goal.returns
returns c =
    let a = c.args in
    let l = c.loop-bits in
    sym (left-none a.first a.blocks a.memory.now a.i l.bits l.invariant (omega arith))
