-- `keeps` meets its contract: the chain is a scan.
use mathlib.Core.Path.{refl, ◌∙◌}
use borrow.Author.Rules.{rules}
use borrow.Author.Tests.{tests}
use native.Mathlib.Omega.{arith}
use Rattle.std.proofs.lemmas.Iterator.{YieldsList-from_range}
use native.Mathlib.Numerals.{add-one}
use Rattle.std.proofs.lemmas.Iterator.Search.{any_from_yields_List}
use Rattle.laws.specs.Choice.{both}
use Rattle.rules.specs.Whole.{keeps}
use Rattle.whole.proofs.Tests.{at_level}
use Rattle.whole.proofs.Chains.{some-range}
use Rattle.whole.proofs.keeps.Goals as goal

pub returns : goal.returns
unfolding keeps both
returns c =
    let a = c.args in
    let p = at_level a.n a.t a.b in
    any_from_yields_List p _ _ c.any.result c.any.ensures.ran (YieldsList-from_range 0 a.top a.top refl (omega arith)) (λ x b q k. search (rules, tests, add-one)) ∙ some-range p a.top
