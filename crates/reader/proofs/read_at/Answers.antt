-- `reader::read_at` meets its contract, by a law for each way out.
use Rattle.std.proofs.Common.{◌≡◌, ◌+◌, ◌*◌, ◌/◌, ap, sym, ◌∙◌, arith}
use Rattle.laws.proofs.Put.{part-is}
use Rattle.image.specs.Test.{image_block, count_of, record_at}
use Rattle.reader.proofs.Place.{past-blocks, past-count, is-record}
use Rattle.reader.proofs.read_at.Goals as goal

pub returns-then-whole-number : goal.returns-then-whole-number
returns-then-whole-number c = sym (past-blocks _ _ c.if-whole-number.true)

pub returns-then-count-slot : goal.returns-then-count-slot
returns-then-count-slot c = let a = c.args in
    let e : c.two_at.result ≡ count_of (image_block a.image.now (1 + a.place / 7)) = c.two_at.ensures ∙ ap count_of (part-is a.image.now (512 * (1 + a.place / 7)) 512) in
    sym (past-count a.image.now a.place (omega arith) (omega arith))

pub returns : goal.returns
returns c = let a = c.args in
    let e : c.two_at.result ≡ count_of (image_block a.image.now (1 + a.place / 7)) = c.two_at.ensures ∙ ap count_of (part-is a.image.now (512 * (1 + a.place / 7)) 512) in
    let f : c.from.result ≡ (record_at a.image.now a.place).leaf = cc (part-is a.image.now (512 * (1 + a.place / 7)) 512) in
    rw f (sym (is-record a.image.now a.place (omega arith) (omega arith)))
