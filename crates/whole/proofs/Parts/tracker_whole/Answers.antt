-- `tracker_whole` meets its contract: an idle tracker is whole.
use mathlib.Core.Path.{sym, ◌∙◌}
use Rattle.whole.proofs.Tests.{tracker-idle}
use Rattle.whole.proofs.Parts.tracker_whole.Goals as goal

pub returns-then-is_idle : goal.returns-then-is_idle
returns-then-is_idle c =
    let s = c.args.self.now in
    sym (tracker-idle s.shape s.lines.now s.trackers.now c.args.x (sym c.is_idle.ensures ∙ c.if-is_idle.true))
