-- `whole` meets its contract: the words code a state that is whole, or not.
use borrow.Author.Rules.{rules}
use mathlib.Core.Path.{sym}
use Rattle.harness.proofs.Ways.{whole-2, whole-told}
use Rattle.harness.proofs.whole.Goals as goal

pub returns-then-state-ne-STATE_WORDS : goal.returns-then-state-ne-STATE_WORDS
returns-then-state-ne-STATE_WORDS c = sym (whole-2 c.args.state.now c.if-state-ne-STATE_WORDS.true)

pub returns : goal.returns
returns c = whole-told c.args.state.now c.if-state-ne-STATE_WORDS.false c.decode.result c.is_some_and.result c.decode.ensures.0 c.decode.ensures.1 (search rules)
