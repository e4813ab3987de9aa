-- `meets_none` meets its contract: the chain is a scan.
use mathlib.Core.Path.{◌∙◌}
use mathlib.Core.Bool.{not}
use borrow.Author.Rules.{rules}
use borrow.Author.Tests.{tests}
use Rattle.std.proofs.lemmas.Iterator.{YieldsList-from_slice, YieldsList-from_take}
use Rattle.std.proofs.lemmas.Iterator.Search.{all_from_yields_List}
use Rattle.tracker.specs.declared.Tracker.{Tracker}
use Rattle.tracker.specs.Tracker.{idle}
use Rattle.rules.specs.Calls.{meets, meets_none}
use Rattle.whole.proofs.Chains.{all-taken}
use Rattle.whole.proofs.Tests.{idle_met}
use Rattle.whole.proofs.meets_none.Goals as goal

pub returns : goal.returns
unfolding meets_none
returns c =
    let a = c.args in
    let p = λ (u : Tracker). not (meets a.access u) in
    all_from_yields_List p _ _ c.all.result c.all.ensures.ran (YieldsList-from_take a.t (YieldsList-from_slice a.trackers.now (cc)) (cc)) (λ x b q k. search (rules, tests))
    ∙ all-taken p idle (idle_met a.access) a.t a.trackers.now
