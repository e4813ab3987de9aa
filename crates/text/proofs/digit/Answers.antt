-- `text::digit` meets its contract: a digit below 10, or above.
use native.Mathlib.Omega.{arith}
use borrow.Author.Tests.{lt-ltb, le-ltb}
use Rattle.wording.specs.Text.{digit_text}
use Rattle.text.proofs.digit.Goals as goal

pub returns-then-d-lt10 : goal.returns-then-d-lt10
unfolding digit_text
returns-then-d-lt10 c = simp (lt-ltb _ 10 c.if-d-lt10.true) (omega arith)

pub returns-else-d-lt10 : goal.returns-else-d-lt10
unfolding digit_text
returns-else-d-lt10 c = simp (le-ltb _ 10 c.if-d-lt10.false) (omega arith)
