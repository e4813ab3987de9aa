-- `word` meets its contract: numbers too large give a free line, and others the sum of the parts.
use mathlib.Core.Path.{◌≡◌, refl, sym, ◌∙◌}
use mathlib.Core.Bool.{Bool, true, false}
use mir.Val.{bool_byte}
use native.Mathlib.Omega.{arith}
use Rattle.laws.specs.Choice.{pick}
use Rattle.line.proofs.Words.{word-is, word-past-block, word-past-holder}
use Rattle.line.proofs.word.Goals as goal
use Rattle.line.proofs.word.Goals.{else-b-lt-BLOCKS-via-then-b-lt-BLOCKS+else-h-lt-MARKS, else-b-lt-BLOCKS-via-else-b-lt-BLOCKS}

mark : (c : Bool) → pick c 1 0 ≡ bool_byte c
mark true = refl
mark false = refl

pub returns-then-h-lt-MARKS : goal.returns-then-h-lt-MARKS
returns-then-h-lt-MARKS c =
    let a = c.args in
    rw (c.from.ensures) (sym (word-is a.b a.c a.h (omega arith) (omega arith) ∙ rw (mark a.c) refl))

pub returns-else-b-lt-BLOCKS : goal.returns-else-b-lt-BLOCKS
returns-else-b-lt-BLOCKS c =
    elim c.else-b-lt-BLOCKS.branch [
      | else-b-lt-BLOCKS-via-then-b-lt-BLOCKS+else-h-lt-MARKS w ↦ sym (word-past-holder _ _ _ (omega arith))
      | else-b-lt-BLOCKS-via-else-b-lt-BLOCKS w ↦ sym (word-past-block _ _ _ (omega arith))
    ]
