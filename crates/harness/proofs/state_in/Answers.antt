-- `state_in` meets its contract: as many words as a state has, and they code one.
use mathlib.Core.Path.{sym}
use Rattle.harness.proofs.Ways.{words-2, told-words}
use Rattle.harness.proofs.state_in.Goals as goal

pub returns-then-words-ne-STATE_WORDS-clause-refusals : goal.returns-then-words-ne-STATE_WORDS-clause-refusals
returns-then-words-ne-STATE_WORDS-clause-refusals c = sym (words-2 c.args.words.now c.if-words-ne-STATE_WORDS.true)

pub returns-clause-refusals : goal.returns-clause-refusals
returns-clause-refusals c = rw c.ok_or.ensures.value (told-words c.args.words.now c.decode.result c.if-words-ne-STATE_WORDS.false c.decode.ensures.0)
