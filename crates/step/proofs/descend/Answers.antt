-- `descend` meets its contract: by the bit and what the access asks.
use mathlib.Core.Path.{◌≡◌, refl, sym, ◌∙◌}
use mathlib.Core.Bool.{false}
use lib.Dec.{eqb}
use borrow.Author.Tests.{ne_eqb}
use Rattle.laws.specs.Choice.{both}
use Rattle.laws.proofs.Choice.{both-false-left, both-false-right}
use Rattle.rules.specs.Step.{asks_zero}
use Rattle.outcome.proofs.Rule.{by-rule}
use Rattle.step.proofs.Ways.{descend-ends, descend-holds}
use Rattle.step.proofs.descend.Goals as goal
use Rattle.step.proofs.descend.Goals.{else-bit_in-eq0-via-then-bit_in-eq0+else-asks_zero, else-bit_in-eq0-via-else-bit_in-eq0}

pub returns-then-asks_zero : goal.returns-then-asks_zero
returns-then-asks_zero c =
    λ m. by-rule (descend-ends _ _ _ _ _ _ c.bit_in.ensures c.if-bit_in-eq0.true (sym c.asks_zero.ensures ∙ c.if-asks_zero.true))
    (c.ends_zero.ensures _ _ m ∙ rw c.let_go.ensures refl)

pub returns : goal.returns
returns c =
    let no : both (eqb c.bit_in.result 0) (asks_zero c.args.t) ≡ false =
    elim c.else-bit_in-eq0.branch [
      | else-bit_in-eq0-via-then-bit_in-eq0+else-asks_zero w ↦ both-false-right _ _ (sym w.asks_zero.ensures ∙ w.if-asks_zero.false)
      | else-bit_in-eq0-via-else-bit_in-eq0 w ↦ both-false-left _ _ (ne_eqb _ _ w.if-bit_in-eq0.false)
    ]
    in
    λ m. by-rule (descend-holds _ _ _ _ _ _ c.bit_in.ensures no) (c.holds.ensures _ m)
