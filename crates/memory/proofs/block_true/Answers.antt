-- The true test of a block, a word at a time: before each turn every bit of the words passed is good.
use mathlib.Core.Path.{◌≡◌, sym, ◌∙◌}
use mathlib.Core.Bool.{true}
use Prim.Native.Nat.{◌+◌, ◌-◌}
use native.Mathlib.Omega.{arith}
use Rattle.laws.proofs.Scan.{all-zero}
use Rattle.memory.specs.PlainReading.{counts}
use Rattle.memory.proofs.Truth.{block-stale, words_more, words-fail, words-all}
use Rattle.memory.proofs.block_true.Goals as goal

pub returns-then-not-counts : goal.returns-then-not-counts
returns-then-not-counts c =
    let a = c.args in
    sym (block-stale (a.top - a.e) (a.top - (a.e + 1)) a.e (a.e + 1) a.n a.memory.now a.j (omega arith) (omega arith) (sym c.counts.ensures ∙ c.if-not-counts.true))

pub loop-i-init : goal.loop-i-init
loop-i-init c = all-zero _

pub returns-then-not-word_true : goal.returns-then-not-word_true
returns-then-not-word_true c =
    let counted : let a = c.args in counts (a.top - (a.e + 1)) (a.e + 1) a.n a.memory.now a.j ≡ true = sym c.counts.ensures ∙ c.if-not-counts.false in
    let a = c.args in
    let l = c.loop-i in
    sym (words-fail (a.top - a.e) (a.top - (a.e + 1)) a.e (a.e + 1) a.n a.memory.now a.j (omega arith) (omega arith) counted a.first a.blocks c.requires.1 c.requires.2 l.i (omega arith) (sym c.word_true.ensures ∙ c.if-not-word_true.true))

pub loop-i-preserved : goal.loop-i-preserved
loop-i-preserved c =
    let counted : let a = c.args in counts (a.top - (a.e + 1)) (a.e + 1) a.n a.memory.now a.j ≡ true = sym c.counts.ensures ∙ c.if-not-counts.false in
    let a = c.args in
    let l = c.loop-i in
    words_more (a.top - a.e) (a.top - (a.e + 1)) a.e (a.e + 1) a.n a.memory.now a.j (omega arith) (omega arith) counted a.first a.blocks c.requires.1 c.requires.2 l.i (omega arith) l.invariant (sym c.word_true.ensures ∙ c.if-not-word_true.false)

pub returns : goal.returns
returns c =
    let a = c.args in
    let l = c.loop-i in
    sym (words-all (a.top - a.e) a.e a.n a.memory.now a.j l.i (omega arith) l.invariant)
