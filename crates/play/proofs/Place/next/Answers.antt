-- `Place::next` meets its contract: all three tests, or the first that fails.
use mathlib.Core.Path.{sym, ◌∙◌}
use Rattle.play.proofs.Going.{goes, stops_end, stops-full, stops-last}
use Rattle.play.proofs.Place.next.Goals as goal
use Rattle.play.proofs.Place.next.Goals.{else-e-input-via-then-e-input+then-has_room+else-self-lt18446744073709551615, else-e-input-via-then-e-input+else-has_room, else-e-input-via-else-e-input}

pub returns-then-self-lt18446744073709551615 : goal.returns-then-self-lt18446744073709551615
returns-then-self-lt18446744073709551615 c =
    goes _ _ _ _ c.line_end-e.ensures c.if-e-input.true (sym c.if-has_room.ensures) c.if-self-lt18446744073709551615.true

pub returns-else-e-input : goal.returns-else-e-input
returns-else-e-input c = elim c.else-e-input.branch [
  | else-e-input-via-then-e-input+then-has_room+else-self-lt18446744073709551615 w ↦ stops-last _ _ _ w.if-self-lt18446744073709551615.false
  | else-e-input-via-then-e-input+else-has_room w ↦ stops-full _ _ _ (sym w.has_room.ensures ∙ w.if-has_room.false)
  | else-e-input-via-else-e-input w ↦ stops_end _ _ _ _ c.line_end-e.ensures w.if-e-input.false
]
