-- Refused, nothing is touched; else the group is put at its place and its run marked.
use mathlib.Core.Path.{◌≡◌, refl, ap, ◌∙◌}
use Prim.Native.Nat.{ℕ}
use native.Mathlib.Omega.{arith}
use borrow.Author.Rules.{rules}
use Rattle.laws.specs.Refusal.{number, given_done}
use Rattle.laws.proofs.Told.{number-some}
use Rattle.geometry.specs.TagMemory.{group_place}
use Rattle.block.specs.Block.{put_group}
use Rattle.prediction.specs.Calls.{lent, done, refused}
use Rattle.prediction.proofs.Refusals.{write-refused, write-leaves}
use Rattle.prediction.proofs.write.Goals as goal

pub returns-in_err-runs : goal.returns-in_err-runs
returns-in_err-runs c =
    let s = lent c.args.tags.now c.args.bits.now in
    let r = number c.in_err-runs.field-0.0 in
    let some = number-some c.in_err-runs.field-0.0 in
    let told : given_done c.from_residual.result ≡ refused r = search rules in
    ap (λ (x : ℕ). done x s) told ∙ write-refused _ _ s _ c.in_err-runs.ensures.told _ (λ z. omega (arith, some))

pub returns : goal.returns
returns c =
    let a = c.args in
    let ok = c.in_ok-runs.ensures in
    let place = c.group_place.ensures ∙ ap group_place ok.same.2 in
    write-leaves _ _ (lent a.tags.now a.bits.now) _ ok.told _ refl (c.put_group.ensures ∙ ap (λ (x : ℕ). put_group a.tags.now x a.v) place) (rw (ok.same.1, ok.same.2) at c.mark.ensures)
