-- `salvage::Progress::leave_out` meets its contract: one entry more.
use mathlib.Core.Path.{refl}
use Rattle.salvage.proofs.Walk.{at_entry}
use Rattle.salvage.proofs.Progress.leave_out.Goals as goal

pub returns : goal.returns
returns c = let w = c.args.self.now in
    (refl, λ output. record { same = refl; takes = λ o l t h. rw c.put_listed.ensures (at_entry o l t w.kept w.low w.listed output c.args.list.now h c.args.entry) })
