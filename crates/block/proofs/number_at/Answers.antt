-- The number of four bytes: a word where they are all there, else its bytes.
use mathlib.Core.Path.{sym, ◌∙◌}
use native.Mathlib.Omega.{arith}
use Rattle.laws.proofs.Value.{number_at-fits, value-4-any, value-past}
use Rattle.block.proofs.number_at.Goals as goal

pub returns-then-row-at : goal.returns-then-row-at
returns-then-row-at c = sym (value-past _ _ 4 c.if-row-at.true)

pub returns-then-row-at-ge-GROUP_LEN : goal.returns-then-row-at-ge-GROUP_LEN
returns-then-row-at-ge-GROUP_LEN c = c.word_at.ensures ∙ number_at-fits 4 _ _ (omega arith)

pub returns : goal.returns
returns c = omega (arith, c.from_le_bytes.ensures, value-4-any c.args.row.now c.args.at)
