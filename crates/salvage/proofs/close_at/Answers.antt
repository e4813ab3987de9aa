-- `salvage::close_at` meets its contract: the block closed in its lent part, or nothing.
use mathlib.Core.Path.{ap, sym, ◌∙◌}
use mathlib.Core.List.{List}
use Prim.Native.Nat.{ℕ, ◌*◌}
use native.Mathlib.Omega.{arith}
use Rattle.laws.proofs.Put.{part-is, put_w-is, put_w-not}
use Rattle.form.specs.Encode.{closed}
use Rattle.salvage.specs.Walk.{closed_at}
use Rattle.salvage.proofs.close_at.Goals as goal

pub returns-then-output-lt-BLOCK : goal.returns-then-output-lt-BLOCK
unfolding closed_at
returns-then-output-lt-BLOCK c = sym (put_w-not 512 _ _ _ (omega arith))

pub returns : goal.returns
unfolding closed_at
returns c = let a = c.args in
    let k = c.close_block in
    put_w-is a.output.now (512 * a.j) 512 (omega arith) (k.ensures ∙ ap (λ (x : List ℕ). closed 65536 x a.j a.count) (part-is a.output.now (512 * a.j) 512)) k.auto.row
