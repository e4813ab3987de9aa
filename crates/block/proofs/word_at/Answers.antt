-- A word is its four bytes.
use native.Mathlib.Omega.{arith}
use Rattle.block.proofs.Groups.{group_at-fits}
use Rattle.block.proofs.word_at.Goals as goal

pub returns : goal.returns
returns c = omega (arith, c.from_le_bytes.ensures, group_at-fits c.args.row.now c.args.at (omega arith))
