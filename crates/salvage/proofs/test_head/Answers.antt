-- `salvage::test_head` meets its contract, by a law for each way out.
use mathlib.Core.Path.{refl, sym, ◌∙◌, ap}
use lib.ListN.{length}
use borrow.Author.Rules.{rules}
use borrow.Author.Tests.{eqb-true}
use mathlib.Core.List.{List}
use Prim.Native.Nat.{ℕ}
use Rattle.laws.proofs.Choice.{not-both-ways}
use Rattle.laws.proofs.Put.{part-is}
use Rattle.form.specs.Test.{head_sound, form_in}
use Rattle.salvage.proofs.Walk.{check-is, no_length, part-block, wrong-check, broken-head, sound-head}
use Rattle.salvage.proofs.test_head.Goals as goal
use Rattle.salvage.proofs.test_head.Goals.{then-is_empty-via-then-is_empty, then-is_empty-via-else-is_empty+then-not-is_multiple_of}

pub returns-then-is_empty : goal.returns-then-is_empty
returns-then-is_empty c = let m = c.args.image.now in
    elim c.then-is_empty.branch [
      | then-is_empty-via-then-is_empty w ↦ sym (no_length m (eqb-true (length m) 0 (sym w.if-is_empty.ensures)))
      | then-is_empty-via-else-is_empty+then-not-is_multiple_of w ↦ sym (part-block m (λ e. absurd (not-both-ways (w.if-not-is_multiple_of.ensures.1 e) refl)))
    ]

pub returns-then-not-check_right : goal.returns-then-not-check_right
returns-then-not-check_right c = let m = c.args.image.now in
    sym (wrong-check m (check-is m 0 c.version_in.ensures c.check_right.ensures ∙ c.if-not-check_right.true))

pub returns-then-not-head_sound : goal.returns-then-not-head_sound
returns-then-not-head_sound c = let m = c.args.image.now in
    sym (broken-head m (search rules) (search rules) (check-is m 0 c.version_in.ensures c.check_right.ensures ∙ c.if-not-check_right.false)
    (ap (λ (b : List ℕ). head_sound (form_in b) b) (sym (part-is m 0 512)) ∙ sym c.head_sound.ensures ∙ c.if-not-head_sound.true))

pub returns : goal.returns
returns c = let m = c.args.image.now in
    sym (sound-head m (search rules) (search rules) (check-is m 0 c.version_in.ensures c.check_right.ensures ∙ c.if-not-check_right.false)
    (ap (λ (b : List ℕ). head_sound (form_in b) b) (sym (part-is m 0 512)) ∙ sym c.head_sound.ensures ∙ c.if-not-head_sound.false))
