-- `lines_whole` meets its contract: the chain is a scan.
use mathlib.Core.Path.{refl, ◌∙◌}
use borrow.Author.Rules.{rules}
use borrow.Author.Tests.{tests}
use native.Mathlib.Omega.{arith}
use Rattle.std.proofs.lemmas.Iterator.{YieldsList-from_range}
use Rattle.std.proofs.lemmas.Iterator.Search.{all_from_yields_List}
use Rattle.rules.specs.Whole.{line_whole}
use Rattle.whole.specs.Parts.{state_of}
use Rattle.whole.proofs.Chains.{all-range}
use Rattle.whole.proofs.Parts.lines_whole.Goals as goal

pub returns : goal.returns
returns c =
    let s = c.args.self.now in
    let p = line_whole (state_of s.shape s.lines.now s.trackers.now) in
    all_from_yields_List p _ _ c.all.result c.all.ensures.ran (YieldsList-from_range 0 s.shape.l s.shape.l refl (omega arith)) (λ x b q k. search (rules, tests)) ∙ all-range p s.shape.l
