-- The bits that are 1 in any byte are none exactly if all bytes are zero.
use mathlib.Core.Path.{◌≡◌}
use borrow.Author.Rules.{rules}
use lib.Bits.{bit_or}
use Rattle.std.specs.List.{fold}
use Rattle.block.proofs.Zero.{zero-folded}
use Rattle.block.proofs.all_zero.Goals as goal

pub returns : goal.returns
returns c =
    let e : c.fold.result ≡ fold bit_or 0 c.args.row.now = search rules in
    rw e (zero-folded c.args.row.now)
