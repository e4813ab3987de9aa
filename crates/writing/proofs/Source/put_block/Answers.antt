-- `writing::Source::put_block` meets its contract: the records in their places, then the block is closed over them.
use native.Mathlib.Omega.{arith}
use lib.ListN.{length}
use Rattle.form.specs.Encode.{records_below, records_of}
use Rattle.form.proofs.Records.{records-sized}
use Rattle.writing.proofs.Blocks.{block-law}
use borrow.Author.Rules.{rules}
use Rattle.writing.proofs.Source.put_block.Goals as goal

pub returns : goal.returns
returns c = let a = c.args in
    (cc (block-law a.row.now a.j a.count (records_of a.self.now.n a.self.now.memory.now) (length (records_below a.self.now.n a.self.now.memory.now a.k)) c.requires.0 c.requires.1 (records-sized a.self.now.n a.self.now.memory.now (omega arith)) (omega arith)), search rules, search rules)
