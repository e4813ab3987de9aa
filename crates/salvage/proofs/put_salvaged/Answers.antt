-- `salvage::put_salvaged` meets its contract: the head, the walk over the blocks, and the last block closed.
use mathlib.Core.Path.{◌≡◌, ap, ◌∙◌}
use mathlib.Core.List.{List}
use Prim.Native.Nat.{ℕ}
use native.Mathlib.Omega.{arith}
use lib.ListN.{length}
use Rattle.laws.proofs.Put.{part-is, length_part, splice-is}
use Rattle.form.specs.Encode.{version2, Record, head_of}
use Rattle.form.specs.Test.{leaves_in}
use Rattle.form.proofs.Records.{headed-is}
use Rattle.damaged.specs.Taken.{taken}
use Rattle.salvage.specs.Walk.{with_records, last_closed}
use Rattle.salvage.proofs.Output.{new-image, all-entries}
use Rattle.damaged.proofs.Kept.{kept-sized}
use borrow.Author.Rules.{rules}
use Rattle.salvage.proofs.put_salvaged.Goals as goal

pub returns : goal.returns
returns c = let a = c.args in
    let m = a.image.now in
    let o = a.output.now in
    let rs : List Record = (taken m).kept in
    let t = c.over.ensures.1 in
    let e = c.leaves_in.ensures in
    let k : a.kept ≡ length rs = search rules in
    let H = splice-is o 0 512 {y = c.put_head.new.row} {b = head_of version2 (leaves_in m) a.kept} (omega arith)
    (c.put_head.ensures ∙ headed-is version2 _ c.leaves_in.result a.kept (ap length (part-is o 0 512) ∙ length_part o 0 512 (omega arith)) ∙ ap (λ (x : ℕ). head_of version2 x a.kept) e)
    c.put_head.auto.row in (
      c.close_last.ensures ∙ (λ i. last_closed (t.output-is i) (k i)) ∙ ap (λ (x : List ℕ). last_closed (with_records x rs (length rs)) (length rs)) H
          ∙ new-image o rs (leaves_in m) a.kept (kept-sized m (search rules) (search rules)) (search rules) (search rules),
      t.list-is ∙ all-entries a.list.now (taken m).listed (search rules),
    )
