-- `text::put_line` meets its contract: the line where there is room, else nothing.
use mathlib.Core.Path.{sym}
use Rattle.std.proofs.Common.{rules}
use Rattle.tracker.specs.Answer.{says}
use Rattle.text.proofs.Lines.{room_is, room, no_room}
use Rattle.text.proofs.put_line.Goals as goal

pub whole-requires : goal.whole-requires
whole-requires c = room_is _ _ (sym c.if-has_room.ensures)

pub returns-then-has_room : goal.returns-then-has_room
returns-then-has_room c =
    let a = c.args in
    rw (← room a.out.now a.at a.k (says a.answer) a.transfers (sym c.if-has_room.ensures)) (search rules)

pub returns-else-has_room : goal.returns-else-has_room
returns-else-has_room c =
    let a = c.args in
    no_room a.out.now a.at a.k (says a.answer) a.transfers (sym c.if-has_room.ensures)
