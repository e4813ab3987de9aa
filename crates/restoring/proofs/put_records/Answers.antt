-- `restoring::put_records` meets its contract: p records are in place over zeros.
use Rattle.std.proofs.Common.{◌∙◌, arith}
use Rattle.form.specs.Calls.{records_in}
use Rattle.restoring.proofs.Filling.{zeros-filled, filled_more, filled-all}
use Rattle.restoring.proofs.put_records.Goals as goal

pub loop-p-init : goal.loop-p-init
loop-p-init c = c.fill.ensures.after (λ y h. h) ∙ zeros-filled c.args.n c.args.memory.now (records_in c.args.image.now) c.requires.0

pub loop-p-preserved : goal.loop-p-preserved
loop-p-preserved c = let a = c.args in
    cc (filled_more a.n a.image.now c.loop-p.p (omega arith))

pub returns : goal.returns
returns c = let a = c.args in
    c.loop-p.invariant ∙ filled-all a.n a.image.now c.loop-p.p (omega arith)
