-- `levels_whole` meets its contract: the chain is a scan.
use mathlib.Core.Path.{refl, ◌∙◌}
use borrow.Author.Rules.{rules}
use borrow.Author.Tests.{tests}
use native.Mathlib.Omega.{arith}
use Rattle.std.proofs.lemmas.Iterator.{YieldsList-from_range}
use Prim.Native.Nat.{ℕ, suc}
use native.Mathlib.Numerals.{add-one}
use Rattle.std.proofs.lemmas.Iterator.Search.{all_from_yields_List}
use Rattle.geometry.specs.Shape.{top_of}
use Rattle.rules.specs.Whole.{level_whole}
use Rattle.whole.specs.Parts.{state_of}
use Rattle.whole.proofs.Chains.{all-range}
use Rattle.whole.proofs.Parts.levels_whole.Goals as goal

pub returns : goal.returns
returns c =
    let s = c.args.self.now in
    let p = λ (d : ℕ). level_whole (state_of s.shape s.lines.now s.trackers.now) c.args.x c.args.t (suc d) in
    all_from_yields_List p _ _ c.all.result c.all.ensures.ran (YieldsList-from_range 0 (top_of s.shape) (top_of s.shape) (rw c.top.ensures refl) (omega arith))
    (λ x b q k. search (rules, tests, add-one)) ∙ all-range p (top_of s.shape)
