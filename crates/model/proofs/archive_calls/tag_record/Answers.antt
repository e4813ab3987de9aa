-- `tag_record` meets its contract: two words, and what the reader finds.
use Rattle.model.proofs.Archive.{record-2, record-end, record_is}
use Rattle.model.proofs.archive_calls.tag_record.Goals as goal

pub returns-then-words-ne2 : goal.returns-then-words-ne2
returns-then-words-ne2 c = rw c.given_done.ensures (record-2 c.args.image.now c.args.p c.args.words.now c.if-words-ne2.true)

pub returns-in_default : goal.returns-in_default
returns-in_default c = record-end c.args.image.now c.args.p c.args.words.now c.if-words-ne2.false c.in_default.ensures

pub returns : goal.returns
returns c = rw c.copy_from_slice.ensures.after (record_is c.args.image.now c.args.p c.args.words.now c.if-words-ne2.false c.in-Some.found c.in-Some.ensures)
