-- The test of the blocks as code has it: the leaf number after the last record, or none where a rule was broken.
use Rattle.std.proofs.Common.{◌≡◌, refl, ap, sym, ◌∙◌, ℕ, ◌+◌, ◌<◌, Bool, true, false, eqb, List, Option, Some, None}
use Rattle.std.specs.Bool.{then_some}
use Rattle.std.specs.Option.{is_some, unwrap_or}
use Rattle.laws.specs.Choice.{both}
use Rattle.laws.specs.Scan.{all}
use Rattle.laws.proofs.Choice.{not-both-ways}
use Rattle.sums.specs.Check.{check_right, modulus_for}
use Rattle.form.specs.Encode.{Form}
use Rattle.form.specs.Test.{whole_blocks, image_block, version_in, count_of, leaves_in, record_in, form_of, block_sound, lowest, good_record}
use Rattle.form.proofs.Sound.{form-modulus}
use Rattle.form.proofs.Rules.{Tested, tested-next}

-- a block's check by the version in the head is its check by the image's form
pub checked : (image : List ℕ) (j version : ℕ) (block : List ℕ) {right : Bool} → version ≡ version_in image → block ≡ image_block image j
    → right ≡ check_right (modulus_for version) block → check_right (form_of image).modulus (image_block image j) ≡ right
checked image j version block v b r =
    ap (λ (x : ℕ). check_right x (image_block image j)) (form-modulus (version_in image) ∙ ap modulus_for (sym v)) ∙ ap (check_right (modulus_for version)) (sym b) ∙ sym r

pub is_some-then : (b : Bool) (x : ℕ) → is_some (then_some b x) ≡ b
is_some-then true x = refl
is_some-then false x = refl

pub low-then : (b : Bool) (x : ℕ) → b ≡ true → unwrap_or (then_some b x) 0 ≡ x
low-then true x e = refl
low-then false x e = absurd (not-both-ways {b = false} e refl)

pub first-low : (b : Bool) → ◌≡◌ {A = ℕ} (unwrap_or (then_some b 0) 0) 0
first-low true = refl
first-low false = refl

-- one block more, where the rules were kept so far and where one was broken
module _ (F : Form) (image : List ℕ) (j : ℕ) where
  abbrev Kept : Option ℕ → ℕ → Type 0
  Kept kept i = Tested F image (is_some kept) (unwrap_or kept 0) i

  abbrev block : List ℕ
  block = image_block image j

  abbrev fine : ℕ → Bool
  fine low = both (block_sound (eqb (j + 1) (whole_blocks image)) j block) (all (good_record (leaves_in image) low (record_in block)) (count_of block))

  pub kept_more : (kept next : Option ℕ) (low : ℕ) → Kept kept j → j < whole_blocks image → check_right F.modulus block ≡ true → kept ≡ Some low
      → next ≡ then_some (fine low) (lowest low (record_in block) (count_of block)) → Kept next (j + 1)
  unfolding both
  kept_more kept next low T l c e f =
      let t : Tested F image true low j = rw e at T in
      rw f (tested-next F image true low j t l _ _ c (is_some-then (fine low) _) (λ g. low-then (fine low) _ (sym (is_some-then (fine low) _) ∙ g)))

  pub kept_not : (kept : Option ℕ) → Kept kept j → j < whole_blocks image → check_right F.modulus block ≡ true → kept ≡ None → Kept kept (j + 1)
  unfolding both
  kept_not kept T l c e =
      let t : Tested F image false 0 j = rw e at T in
      rw e (tested-next F image false 0 j t l false 0 c refl (λ g. absurd (not-both-ways {b = false} g refl)))
