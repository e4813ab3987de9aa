-- `tag_open_reader` meets its contract: two words, and what the opened reader is.
use Rattle.model.proofs.Archive.{opened-2, opened-0, opened-no}
use Rattle.model.proofs.archive_calls.tag_open_reader.Goals as goal

pub returns-then-words-ne2 : goal.returns-then-words-ne2
returns-then-words-ne2 c = rw c.given_done.ensures (opened-2 c.args.image.now c.args.words.now c.if-words-ne2.true)

pub returns-in-Ok : goal.returns-in-Ok
returns-in-Ok c = rw c.copy_from_slice.ensures.after (opened-0 c.args.image.now c.args.words.now c.if-words-ne2.false c.in-Ok.start c.in-Ok.ensures)

pub returns-in-Err : goal.returns-in-Err
returns-in-Err c = rw (c.given_done-in-Err.ensures, c.fill.ensures.after (λ y h. h)) (opened-no c.args.image.now c.args.words.now c.if-words-ne2.false c.in-Err.refusal c.in-Err.ensures)
