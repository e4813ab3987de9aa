-- `salvage::Progress::take_block` meets its contract, by a law for a block that is used and one for a block that is not.
use mathlib.Core.Path.{◌≡◌, ◌∙◌}
use native.Mathlib.Omega.{arith}
use Rattle.form.specs.Test.{count_of}
use Rattle.damaged.proofs.Taken.{block-used, block-left}
use Rattle.salvage.proofs.Progress.take_block.Goals as goal

pub returns-then-sound : goal.returns-then-sound
returns-then-sound c = let w = c.args.self.now in
    let b = c.args.block.now in
    let r = c.take_records.ensures in
    let e : c.from-count.result ≡ count_of b.bytes.now = c.from-count.ensures ∙ c.two_at.ensures in
    (omega (arith, r.0, c.requires.0 c.if-sound.true), record { same = r.1.same; takes = λ o l t h. rw (block-used w.n b.j b.bytes.now t c.args.sound c.if-sound.true, ← e) (r.1.takes o l t h) })

pub returns-else-sound : goal.returns-else-sound
returns-else-sound c = let w = c.args.self.now in
    let b = c.args.block.now in
    let r = c.leave_out.ensures in
    let g = r.1 c.args.output.now in
    (omega (arith, r.0), record { same = g.same; takes = λ o l t h. rw (block-left w.n b.j b.bytes.now t c.args.sound c.if-sound.false) (g.takes o l t h) })
