-- Each promise of this crate allows one result for one input: the answer, or the lent bytes, equal a definition.
use mathlib.Core.Path.{◌≡◌, sym, ◌∙◌}
use mathlib.Core.Bool.{Bool}
use mathlib.Core.List.{List}
use Prim.Native.Nat.{ℕ}
use lib.ListN.{replicate}
use Rattle.std.specs.Prelude.{Result}
use Rattle.laws.specs.declared.Refusal.{Refusal}
use Rattle.laws.specs.Bytes.{put_w}
use Rattle.laws.specs.Refusal.{refused_with}
use Rattle.laws.proofs.Told.{refused-one}
use Rattle.geometry.proofs.One.{one}
use Rattle.form.specs.Encode.{Record}
use Rattle.form.specs.Test.{form_in, head_sound, count_right, block_sound, good_above, version_in, leaves_in, recorded_in, image_test}

pub head-sound-one : (block : List ℕ) {r s : Bool} → r ≡ head_sound (form_in block) block → s ≡ head_sound (form_in block) block → r ≡ s
head-sound-one block = one

pub count-right-one : (last : Bool) (c : ℕ) {r s : Bool} → r ≡ count_right last c → s ≡ count_right last c → r ≡ s
count-right-one last c = one

pub block-sound-one : (last : Bool) (j : ℕ) (block : List ℕ) {r s : Bool} → r ≡ block_sound last j block → s ≡ block_sound last j block → r ≡ s
block-sound-one last j block = one

pub record-good-one : (n low : ℕ) (a : Record) {r s : Bool} → r ≡ good_above n low a → s ≡ good_above n low a → r ≡ s
record-good-one n low a = one

pub version-in-one : (image : List ℕ) {r s : ℕ} → r ≡ version_in image → s ≡ version_in image → r ≡ s
version-in-one image = one

pub leaves-in-one : (image : List ℕ) {r s : ℕ} → r ≡ leaves_in image → s ≡ leaves_in image → r ≡ s
leaves-in-one image = one

pub recorded-in-one : (image : List ℕ) {r s : ℕ} → r ≡ recorded_in image → s ≡ recorded_in image → r ≡ s
recorded-in-one image = one

pub image-test-one : (image : List ℕ) {r s : Result Unit Refusal} → refused_with r ≡ image_test image → refused_with s ≡ image_test image → r ≡ s
image-test-one image {r} {s} a b = refused-one r s (a ∙ sym b)

pub clear-one : (row : List ℕ) (at count : ℕ) {r s : List ℕ} → r ≡ put_w count row at (replicate count 0) → s ≡ put_w count row at (replicate count 0) → r ≡ s
clear-one row at count = one
