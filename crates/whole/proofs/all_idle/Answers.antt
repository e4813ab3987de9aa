-- `all_idle` meets its contract: the chain is a scan.
use mathlib.Core.Path.{refl, ◌∙◌}
use borrow.Author.Rules.{rules}
use borrow.Author.Tests.{tests}
use Rattle.std.proofs.lemmas.Iterator.{YieldsList-from_slice, YieldsList-from_take}
use Rattle.std.proofs.lemmas.Iterator.Search.{all_from_yields_List}
use Rattle.tracker.specs.Tracker.{idle, is_idle}
use Rattle.whole.proofs.Chains.{all-taken}
use Rattle.whole.proofs.all_idle.Goals as goal

pub returns : goal.returns
returns c =
    let a = c.args in
    all_from_yields_List is_idle _ _ c.all.result c.all.ensures.ran (YieldsList-from_take a.t (YieldsList-from_slice a.trackers.now (cc)) (cc)) (λ x b q k. search (rules, tests))
    ∙ all-taken is_idle idle refl a.t a.trackers.now
