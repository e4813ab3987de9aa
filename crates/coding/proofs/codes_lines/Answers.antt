-- `codes_lines` meets its contract: its test of each word is the definition's.
use borrow.Author.Rules.{rules}
use mathlib.Core.Path.{◌∙◌}
use lib.Dec.{ltb}
use native.Mathlib.Omega.{arith}
use Rattle.std.proofs.Common.{tests}
use Rattle.std.proofs.lemmas.Iterator.{YieldsList-from_slice}
use Rattle.std.proofs.lemmas.Iterator.Search.{all_from_yields_List}
use Rattle.laws.specs.Bytes.{part}
use Rattle.geometry.specs.TagMemory.{values}
use Rattle.coding.proofs.Turns.{all-part}
use Rattle.coding.proofs.codes_lines.Goals as goal

pub returns : goal.returns
unfolding part
returns c =
    let w = c.args.words.now in
    all_from_yields_List (λ x. ltb x values) _ _ _ c.all.ensures.ran (YieldsList-from_slice (part w 4 64) cc) (λ x b q k. search (rules, tests))
    ∙ all-part (λ x. ltb x values) w 4 64 (omega (arith, c.requires))
