-- `play` meets its contract: nothing is done where the state is not ready, else every line.
use mathlib.Core.Path.{sym, ◌∙◌}
use Rattle.laws.proofs.Choice.{both_left, both_right}
use Rattle.play.proofs.Ways.{plays-not, plays-ready}
use Rattle.play.proofs.play.Goals as goal

pub returns-then-not-is_ready : goal.returns-then-not-is_ready
returns-then-not-is_ready c = rw c.start.ensures (sym (plays-not _ _ _ _ (sym c.is_ready.ensures ∙ c.if-not-is_ready.true)))

pub play_lines-requires : goal.play_lines-requires
play_lines-requires c = let f = sym c.is_ready.ensures ∙ c.if-not-is_ready.false in
    (both_left _ _ f, both_right _ _ f)

pub returns : goal.returns
returns c = c.play_lines.ensures ∙ sym (plays-ready _ _ _ _ (sym c.is_ready.ensures ∙ c.if-not-is_ready.false))
