-- Heads, record blocks and images that break one rule and no other, computed: a rule that is left out or too wide fails at a value. Their checks, of which these rules do not speak, are left zero.
use mathlib.Core.Path.{◌≡◌, refl}
use mathlib.Core.Bool.{Bool, true, false}
use mathlib.Core.List.{List, [], ◌∷◌, ◌++◌}
use Prim.Native.Nat.{ℕ}
use lib.ListN.{replicate}
use Rattle.laws.specs.Choice.{both, no}
use Rattle.laws.specs.Bytes.{part, fits, value, bytes, number_at}
use Rattle.laws.specs.Scan.{all}
use Rattle.geometry.specs.TagMemory.{in_limits_of}
use Rattle.block.specs.Block.{all_zero}
use Rattle.form.specs.Encode.{Form, version1, version2, form_for, record_bytes, head_front, head_rest, block_front}
use Rattle.form.specs.Test.{record_at, same, head_sound, count_right, block_sound, sound_at, record_count, good_above, lowest, good_record, length_right, rules_kept, test_by, form_in, form_of, image_test}

-- the head of an image
abbrev head : Form → ℕ → ℕ → List ℕ
head F n m = (head_front F n m ++ head_rest F) ++ replicate 4 0

abbrev head-kept : List ℕ → Bool
head-kept b = head_sound (form_in b) b

-- the bytes of a record of leaf k whose content is zeros but for its first byte
abbrev leaf_with : ℕ → ℕ → List ℕ
leaf_with k x = record_bytes (record { leaf = k; content = x ∷ replicate 63 0 })

-- a block of one record and one of two: the front, the records, the first unused byte, and zeros
abbrev one : List ℕ → ℕ → ℕ → List ℕ
one front content unused = (front ++ leaf_with 2 content) ++ (unused ∷ replicate 435 0)

abbrev two : ℕ → List ℕ
two k = (block_front 1 2 ++ (leaf_with 2 7 ++ leaf_with k 7)) ++ replicate 368 0

-- an image of 4 leaves with m in its head, and a record block
abbrev image : ℕ → List ℕ → List ℕ
image m block = head version2 4 m ++ block

abbrev kept : List ℕ → Bool
kept image = rules_kept (form_of image) image

abbrev good : ℕ → List ℕ → Bool
good m block = all (good_record 4 0 (record_at (image m block))) m

pub record Broken : Type 0 where
  pub no_bytes : image_test [] ≡ 10
  pub no-leaves : head-kept (head version2 0 0) ≡ false
  pub version-three : head-kept (head (record { modulus = 65536; version = 3; after = [] }) 4 0) ≡ false
  pub byte-after-head : head-kept (head (record { modulus = 65536; version = 2; after = 1 ∷ [] }) 4 0) ≡ false
  pub number-below : block_sound true 1 (one (block_front 0 1) 7 0) ≡ false
  pub kind-of-head : block_sound true 1 (one (bytes 4 1 ++ (bytes 2 1 ++ bytes 2 1)) 7 0) ≡ false
  pub byte-unused : block_sound true 1 (one (block_front 1 1) 7 1) ≡ false
  pub no-records : count_right true 0 ≡ false
  pub eight-records : count_right true 8 ≡ false
  pub six-not-last : count_right false 6 ≡ false
  pub empty-record : good 1 (one (block_front 1 1) 0 0) ≡ false
  pub rising-good : good 2 (two 3) ≡ true
  pub leaf-twice : good 2 (two 2) ≡ false
  pub one_kept : kept (image 1 (one (block_front 1 1) 7 0)) ≡ true
  pub m-above : kept (image 2 (one (block_front 1 1) 7 0)) ≡ false

pub broken : Broken
unfolding both no part fits value bytes number_at all in_limits_of all_zero version1 version2 form_for same head_sound count_right block_sound sound_at record_count good_above lowest good_record length_right rules_kept test_by
broken = record {
  no_bytes = refl;
  no-leaves = refl;
  version-three = refl;
  byte-after-head = refl;
  number-below = refl;
  kind-of-head = refl;
  byte-unused = refl;
  no-records = refl;
  eight-records = refl;
  six-not-last = refl;
  empty-record = refl;
  rising-good = refl;
  leaf-twice = refl;
  one_kept = refl;
  m-above = refl;
}
