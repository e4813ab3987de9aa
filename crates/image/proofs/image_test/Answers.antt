-- `image::image_test` meets its contract: a length that is no image's gives 10; else the blocks are tested.
use Rattle.std.proofs.Common.{refl, sym, ◌∙◌, eqb-true}
use Rattle.laws.proofs.Choice.{not-both-ways}
use Rattle.form.specs.Test.{form_of}
use Rattle.form.proofs.Rules.{no-length-10, part-block-10}
use Rattle.image.proofs.image_test.Goals as goal
use Rattle.image.proofs.image_test.Goals.{then-is_empty-via-then-is_empty, then-is_empty-via-else-is_empty+then-not-is_multiple_of}

pub returns-then-is_empty : goal.returns-then-is_empty
returns-then-is_empty c = let m = c.args.image.now in
    elim c.then-is_empty.branch [
      | then-is_empty-via-then-is_empty w ↦ sym (no-length-10 (form_of m) m (eqb-true _ _ (sym c.is_empty.ensures ∙ w.if-is_empty.true)))
      | then-is_empty-via-else-is_empty+then-not-is_multiple_of w ↦ sym (part-block-10 (form_of m) m (λ e. not-both-ways (w.if-not-is_multiple_of.ensures.1 e) refl))
    ]
