-- `lines_in` meets its contract. The invariant: the first i lines are the first i words of them.
use mathlib.Core.Path.{◌≡◌, refl, sym, ap, ◌∙◌}
use lib.ListN.{replicate}
use Rattle.laws.specs.Bytes.{splice}
use Rattle.laws.proofs.Parts.{part_none}
use Rattle.laws.proofs.Writes.{splice-none}
use Rattle.coding.proofs.Turns.{coding, line_read, lines-read}
use native.Mathlib.Omega.{arith}
use Rattle.coding.proofs.lines_in.Goals as goal

pub loop-i-init : goal.loop-i-init
loop-i-init c = sym (ap (splice (replicate 64 0) 0) (part_none c.args.words.now 4) ∙ splice-none (replicate 64 0) 0)

pub bounds-words-i : goal.bounds-words-i
bounds-words-i c = omega (arith, (coding c.args.words.now c.requires).size)

pub overflow_cast-line : goal.overflow_cast-line
overflow_cast-line c = omega (arith, (coding c.args.words.now c.requires).lines c.loop-i.i c.loop-i-test.true)

pub loop-i-preserved : goal.loop-i-preserved
loop-i-preserved c =
    let w = c.args.words.now in
    let q = (coding w c.requires).size in
    rw c.loop-i.invariant (line_read (replicate 64 0) w refl (omega arith) c.loop-i.i c.loop-i-test.true)

pub returns : goal.returns
returns c =
    let w = c.args.words.now in
    let q = (coding w c.requires).size in
    let e : c.loop-i.i ≡ 64 = omega arith in
    rw e at c.loop-i.invariant ∙ lines-read (replicate 64 0) w refl (omega arith)
