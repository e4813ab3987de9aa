-- `write_back` meets its contract: a clean line is not written, a changed one goes straight to its block's place, one copy.
use mathlib.Core.Path.{◌≡◌, sym, ◌∙◌}
use mathlib.Core.Bool.{true, false}
use native.Mathlib.Omega.{arith}
use lib.ListN.{get_or}
use Rattle.line.specs.Word.{changed}
use Rattle.placing.proofs.Ways.{written-not, written_is, back-not, back_is}
use Rattle.placing.proofs.write_back.Goals as goal

pub returns-then-not-changed : goal.returns-then-not-changed
returns-then-not-changed c =
    let a = c.args in
    let clean : changed (get_or a.lines.now a.i 0) ≡ false = sym c.changed.ensures ∙ c.if-not-changed.true in
    (written-not _ _ _ a.i clean, c.none.ensures ∙ back-not _ a.i clean)

pub returns : goal.returns
returns c =
    let a = c.args in
    let dirty : changed (get_or a.lines.now a.i 0) ≡ true = sym c.changed.ensures ∙ c.if-not-changed.false in (
      written_is a.lines.now a.bytes.now a.memory.now a.i (omega arith) dirty
          c.block_of.ensures c.block_place-at.ensures c.copy_block.ensures,
      back_is a.lines.now a.i dirty,
    )
