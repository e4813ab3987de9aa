-- `writing::count_marked` meets its contract: m counts the leaves with bit 1 of the words before word i.
use mathlib.Core.Path.{ap, sym, ◌∙◌}
use Prim.Native.Nat.{◌+◌, ◌*◌}
use native.Mathlib.Omega.{arith}
use lib.ListN.{length}
use Rattle.laws.specs.Bytes.{Bytes}
use Rattle.geometry.proofs.Places.{map_blocks-enough}
use Rattle.form.proofs.Records.{below_none, length-below}
use Rattle.writing.proofs.Search.{word_more, all-counted}
use Rattle.writing.proofs.count_marked.Goals as goal

pub loop-i-init : goal.loop-i-init
loop-i-init c = let a = c.args in sym (ap length (below_none a.n a.memory.now))

pub overflow_add-m : goal.overflow_add-m
unfolding Bytes
overflow_add-m c = let a = c.args in
    let l = c.loop-i in
    omega (arith, l.invariant, word_more a.n a.memory.now (λ x. omega (arith, c.type_inv.memory x)) l.i c.map_word.result c.map_word.ensures (omega (arith, c.map_word.type_inv)), length-below a.n a.memory.now (32 * (l.i + 1)))

pub loop-i-preserved : goal.loop-i-preserved
unfolding Bytes
loop-i-preserved c = let a = c.args in
    let l = c.loop-i in
    omega (arith, l.invariant, word_more a.n a.memory.now (λ x. omega (arith, c.type_inv.memory x)) l.i c.map_word.result c.map_word.ensures (omega (arith, c.map_word.type_inv)))

pub returns : goal.returns
returns c =
    let a = c.args in
    let l = c.loop-i in
    l.invariant ∙ ap length (all-counted a.n a.memory.now l.i c.requires.2 (omega arith) (omega (arith, map_blocks-enough a.n)))
