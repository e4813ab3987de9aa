-- No leaf from k on, up to word i's first, has bit 1.
use mathlib.Core.Path.{◌≡◌, refl, ◌∙◌}
use Prim.Native.Nat.{◌+◌, ◌*◌, ◌/◌, ◌%◌, ◌^◌, ◌<◌, min}
use native.Mathlib.Omega.{arith}
use borrow.Author.Rules.{rules}
use lib.Count.{count_trailing_zeros}
use Rattle.laws.specs.Bytes.{Bytes}
use Rattle.memory.proofs.Words.{none_left, found, none_before, in-it, its-word, whole-word, skip-leaves, hit-leaf, no-leaf}
use Rattle.memory.proofs.next_marked.Goals as goal

pub overflow_add-k : goal.overflow_add-k
unfolding Bytes
overflow_add-k c =
    let a = c.args in
    let w = c.map_word in
    let B : Bytes a.memory.now = λ x. omega (arith, c.type_inv.memory x) in
    let rest = w.result / 2 ^ (a.k % 32) in
    let small : w.result < 4294967296 = omega (arith, w.type_inv) in
    omega (arith, in-it a.n a.memory.now B a.k w.result rest w.ensures small refl c.if-rest-ne0.true)

pub returns-then-rest-ne0 : goal.returns-then-rest-ne0
unfolding Bytes
returns-then-rest-ne0 c =
    let a = c.args in
    let w = c.map_word in
    let B : Bytes a.memory.now = λ x. omega (arith, c.type_inv.memory x) in
    let rest = w.result / 2 ^ (a.k % 32) in
    let small : w.result < 4294967296 = omega (arith, w.type_inv) in
    let some = c.if-rest-ne0.true in
    let r = a.k + count_trailing_zeros 32 rest in
    let e : c.min.result ≡ min a.end r = search rules in
    e ∙ hit-leaf a.n a.memory.now a.k r a.end (omega arith) (none_before a.n a.memory.now B a.k w.result rest w.ensures small refl some) (found a.n a.memory.now B a.k w.result rest w.ensures small refl some)

pub loop-i-init : goal.loop-i-init
unfolding Bytes
loop-i-init c =
    let a = c.args in
    let w = c.map_word in
    let B : Bytes a.memory.now = λ x. omega (arith, c.type_inv.memory x) in
    let rest = w.result / 2 ^ (a.k % 32) in
    let small : w.result < 4294967296 = omega (arith, w.type_inv) in
    skip-leaves a.n a.memory.now a.k _ a.end (omega arith) (λ x f g. none_left a.n a.memory.now B a.k w.result rest w.ensures small refl c.if-rest-ne0.false x f (omega arith))

pub returns-then-word-ne0 : goal.returns-then-word-ne0
unfolding Bytes
returns-then-word-ne0 c =
    let a = c.args in
    let l = c.loop-i in
    let w = c.map_word-word in
    let j = 32 * l.i in
    let B : Bytes a.memory.now = λ x. omega (arith, c.type_inv.memory x) in
    let small : w.result < 4294967296 = omega (arith, w.type_inv) in
    let some = c.if-word-ne0.true in
    let q = its-word a.n a.memory.now l.i w.result w.ensures in
    let h = whole-word l.i w.result in
    let r = j + count_trailing_zeros 32 w.result in
    let e : c.min-then-word-ne0.result ≡ min a.end r = search rules in
    e ∙ hit-leaf a.n a.memory.now j r a.end (omega arith) (none_before a.n a.memory.now B j w.result w.result q small h some) (found a.n a.memory.now B j w.result w.result q small h some) ∙ l.invariant

pub loop-i-preserved : goal.loop-i-preserved
unfolding Bytes
loop-i-preserved c =
    let a = c.args in
    let l = c.loop-i in
    let w = c.map_word-word in
    let j = 32 * l.i in
    let B : Bytes a.memory.now = λ x. omega (arith, c.type_inv.memory x) in
    let small : w.result < 4294967296 = omega (arith, w.type_inv) in
    let q = its-word a.n a.memory.now l.i w.result w.ensures in
    let h = whole-word l.i w.result in
    skip-leaves a.n a.memory.now j _ a.end (omega arith) (λ x f g. none_left a.n a.memory.now B j w.result w.result q small h c.if-word-ne0.false x f (omega arith)) ∙ l.invariant

pub returns : goal.returns
returns c = no-leaf _ _ _ _ (omega arith) ∙ c.loop-i.invariant
