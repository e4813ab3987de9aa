-- `rest_idle` meets its contract: the chain is a scan.
use mathlib.Core.Path.{◌∙◌}
use borrow.Author.Rules.{rules}
use borrow.Author.Tests.{tests}
use Rattle.std.proofs.lemmas.Iterator.{YieldsList-from_slice}
use Rattle.std.proofs.lemmas.Iterator.Adapters.{YieldsList-from_skip}
use Rattle.std.proofs.lemmas.Iterator.Search.{all_from_yields_List}
use Rattle.tracker.specs.Tracker.{idle, is_idle}
use Rattle.whole.proofs.Chains.{all-dropped}
use Rattle.whole.proofs.Parts.rest_idle.Goals as goal

pub returns : goal.returns
returns c =
    let s = c.args.self.now in
    all_from_yields_List is_idle _ _ c.all.result c.all.ensures.ran (YieldsList-from_skip s.shape.t (YieldsList-from_slice s.trackers.now (cc)) (cc)) (λ x b q k. search (rules, tests))
    ∙ all-dropped is_idle idle s.shape.t s.trackers.now
