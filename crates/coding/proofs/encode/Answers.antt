-- `encode` meets its contract: the parts of the coding, one after the other.
use borrow.Author.Rules.{rules}
use mathlib.Core.Path.{◌≡◌, ◌∙◌}
use borrow.Author.Tests.{eq-eqb}
use lib.ListN.{length}
use Rattle.cache.specs.Seen.{seen}
use Rattle.coding.proofs.Turns.{encoded}
use Rattle.coding.proofs.encode.Goals as goal

pub returns : goal.returns
returns c =
    let lines_long : length c.args.state.lines ≡ 64 = search rules in
    let a = c.args in
    let e = c.if-words-ne-STATE_WORDS.false in
    let q = c.put_trackers.ensures.1 in
    rw (eq-eqb _ _ e) (c.put_trackers.ensures.0 ∙ rw (c.put_lines.ensures, c.put_shape.ensures) (encoded (seen a.state) lines_long q a.words.now e))
