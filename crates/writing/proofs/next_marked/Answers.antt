-- `writing::next_marked` meets its contract: between leaf k and the next with bit 1 there are no records.
use Rattle.writing.proofs.Search.{next-leaf}
use Rattle.writing.proofs.next_marked.Goals as goal

pub returns : goal.returns
returns c = next-leaf _ _ _ _ c.requires.0 c.next_marked.ensures
