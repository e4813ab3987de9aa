-- `put_lines` meets its contract. The invariant: the first i lines are written.
use borrow.Author.Rules.{rules}
use mathlib.Core.Path.{◌≡◌, sym, ◌∙◌}
use lib.ListN.{length}
use Rattle.laws.proofs.Writes.{splice-none, splice-copy}
use Rattle.coding.proofs.Turns.{lines-written}
use native.Mathlib.Omega.{arith}
use Rattle.coding.proofs.put_lines.Goals as goal

pub loop-i-init : goal.loop-i-init
loop-i-init c = sym (splice-none c.args.words.now 4)

pub loop-i-preserved : goal.loop-i-preserved
loop-i-preserved c =
    let k : length c.args.lines ≡ 64 = search rules in
    rw (c.from.ensures, c.loop-i.invariant) (splice-copy c.args.words.now 4 c.args.lines c.loop-i.i (omega arith) (omega arith))

pub returns : goal.returns
returns c =
    let k : length c.args.lines ≡ 64 = search rules in
    c.loop-i.invariant ∙ lines-written c.args.words.now c.args.lines c.loop-i.i (omega arith)
