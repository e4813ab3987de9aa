-- `salvage::Progress::take_record` meets its contract, by a law for a record that is kept and one for a record that is left out.
use mathlib.Core.Path.{refl, sym, ◌∙◌}
use native.Mathlib.Omega.{arith}
use Rattle.form.specs.Encode.{Record}
use Rattle.form.proofs.Rules.{good-above, good-below}
use Rattle.salvage.proofs.Walk.{took, passed}
use borrow.Author.Rules.{rules}
use Rattle.salvage.proofs.Progress.take_record.Goals as goal

pub overflow_add-self : goal.overflow_add-self
overflow_add-self c = let w = c.args.self.now in
    let good = sym c.record_good.ensures ∙ c.if-record_good.true in
    let kept : Record = record { leaf = c.four_at-leaf.result; content = c.read_block-content.result } in
    omega (arith, w.few, good-above w.n w.low kept good, good-below w.n w.low kept good)

pub invariant_of-self : goal.invariant_of-self
invariant_of-self c = let w = c.args.self.now in
    let good = sym c.record_good.ensures ∙ c.if-record_good.true in
    let kept : Record = record { leaf = c.four_at-leaf.result; content = c.read_block-content.result } in
    record {
      few = omega (arith, w.few, c.from.ensures, good-above w.n w.low kept good);
      below = omega (arith, c.from.ensures, good-below w.n w.low kept good);
    }

pub returns-then-record_good : goal.returns-then-record_good
returns-then-record_good c = let w = c.args.self.now in
    let b = c.args.block.now in
    let good = sym c.record_good.ensures ∙ c.if-record_good.true in (
      omega arith,
      record {
        same = refl;
        takes = rw c.from.ensures (took w.n w.low b.bytes.now c.args.i b.long (search rules) c.four_at-leaf.result c.read_block-content.result c.four_at-leaf.ensures c.read_block-content.ensures b.j w.kept w.listed c.args.output.now c.args.list.now good _ c.put_kept.ensures);
      },
    )

pub returns-else-record_good : goal.returns-else-record_good
returns-else-record_good c = let w = c.args.self.now in
    let b = c.args.block.now in
    let bad = sym c.record_good.ensures ∙ c.if-record_good.false in
    let left = c.leave_out.ensures in
    let g = left.1 c.args.output.now in
    let e = passed w.n w.low b.bytes.now c.args.i b.long (search rules) c.four_at-leaf.result c.read_block-content.result c.four_at-leaf.ensures c.read_block-content.ensures b.j bad in
    (omega (arith, left.0), record { same = g.same; takes = λ o l t h. rw (e t h.low-is) (g.takes o l t h) })
