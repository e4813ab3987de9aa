-- `writing::Source::put_image` meets its contract: the head in its lent part, then the record blocks.
use native.Mathlib.Omega.{arith}
use mathlib.Core.Path.{ap, ◌∙◌}
use lib.ListN.{length}
use Rattle.laws.proofs.Put.{part-is, length_part, splice-is}
use Rattle.form.specs.Encode.{version2, head_of, records_of}
use Rattle.form.proofs.Records.{headed-is, records-sized}
use Rattle.writing.proofs.Blocks.{image-law}
use borrow.Author.Rules.{rules}
use Rattle.writing.proofs.Source.put_image.Goals as goal

pub returns : goal.returns
returns c = let a = c.args in
    cc (
      splice-is a.output.now 0 512 {y = c.put_head.new.row} {b = head_of version2 a.self.now.n a.self.now.m} (omega arith)
          (c.put_head.ensures ∙ headed-is version2 _ a.self.now.n a.self.now.m (ap length (part-is a.output.now 0 512) ∙ length_part a.output.now 0 512 (omega arith)))
          c.put_head.auto.row,
      image-law a.output.now (records_of a.self.now.n a.self.now.memory.now) a.self.now.n a.self.now.m (search rules) (records-sized a.self.now.n a.self.now.memory.now (search rules)) (search rules),
    )
