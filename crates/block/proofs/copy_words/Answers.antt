-- Four words, one after the other, are sixteen bytes.
use native.Mathlib.Omega.{arith}
use Rattle.laws.specs.Bytes.{Bytes}
use Rattle.block.proofs.Blocks.{words_copied}
use Rattle.block.proofs.copy_words.Goals as goal

pub returns : goal.returns
unfolding Bytes
returns c =
    let args = c.args in
    words_copied args.to.now args.from.now args.at (λ i. grind arith) (omega arith) (omega arith)
    c.word_at-a.ensures c.word_at-b.ensures c.word_at-c.ensures c.word_at-d.ensures
    c.put_word.ensures c.put_word-2.ensures c.put_word-3.ensures c.put_word-4.ensures
