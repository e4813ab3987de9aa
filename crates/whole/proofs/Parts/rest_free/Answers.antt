-- `rest_free` meets its contract: the chain is a scan.
use mathlib.Core.Path.{◌∙◌}
use Prim.Native.Nat.{ℕ}
use borrow.Author.Rules.{rules}
use borrow.Author.Tests.{tests}
use Rattle.std.proofs.lemmas.Iterator.{YieldsList-from_slice}
use Rattle.std.proofs.lemmas.Iterator.Adapters.{YieldsList-from_skip}
use Rattle.std.proofs.lemmas.Iterator.Search.{all_from_yields_List}
use Rattle.laws.specs.Choice.{no}
use Rattle.line.specs.Word.{used}
use Rattle.whole.proofs.Chains.{all-dropped}
use Rattle.whole.proofs.Parts.rest_free.Goals as goal

pub returns : goal.returns
unfolding no used
returns c =
    let s = c.args.self.now in
    let p = λ (w : ℕ). no (used w) in
    all_from_yields_List p _ _ c.all.result c.all.ensures.ran (YieldsList-from_skip s.shape.l (YieldsList-from_slice s.lines.now (cc)) (cc)) (λ x b q k. search (rules, tests))
    ∙ all-dropped p 0 s.shape.l s.lines.now
