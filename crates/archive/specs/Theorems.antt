-- What the archive's theorems speak of: good records, and images of true memories.
use Rattle.std.specs.Prelude.{◌≡◌, true, List, [], ◌∷◌, ℕ, zero, suc, ◌+◌, ◌*◌, ◌<◌, length, get_or}
use Rattle.laws.specs.Scan.{all}
use Rattle.geometry.specs.TagMemory.{in_limits, memory_length}
use Rattle.memory.specs.True.{is_true}
use Rattle.form.specs.Encode.{Form, Record, none, Sized, records_of, encode}
use Rattle.laws.specs.Bytes.{splice, Bytes}
use Rattle.sums.specs.Check.{word}
use Rattle.form.specs.Test.{whole_blocks, image_block, good_record, image_test}
use Rattle.reader.specs.Read.{Reading, reading_at}

-- record p of a list
abbrev pub listed : List Record → ℕ → Record
listed rs p = get_or rs p none

-- good records of n leaves: each has 64 bytes, and "Records rise by leaf number and none is empty; .. leaf numbers are below n"
pub record Good (n : ℕ) (rs : List Record) : Type 0 where
  pub sized : Sized rs
  pub each : all (good_record n 0 (listed rs)) (length rs) ≡ true

-- there are n in its limits and bytes that are a true memory of n's length, whose image of a form it is
pub record TrueImage (F : Form) (image : List ℕ) : Type 0 where
  pub n : ℕ
  pub mem : List ℕ
  pub limits : in_limits n ≡ true
  pub is-bytes : Bytes mem
  pub long : length mem ≡ memory_length n
  pub true-memory : is_true n mem ≡ true
  pub same : encode F n (records_of n mem) ≡ image

-- 02: "in version 2 any change inside one word of bytes 0 to 507": the image with word k of block j made the bytes x and y
abbrev pub with_word : List ℕ → ℕ → ℕ → ℕ → ℕ → List ℕ
with_word image j k x y = splice image (512 * j + 2 * k) (x ∷ y ∷ [])

-- ".., the version word excepted, is refused": with 10, and the version word is no exception
abbrev pub WordRefused : List ℕ → Type 0
WordRefused image = (j k x y : ℕ) → j < whole_blocks image → k < 254 → x < 256 → y < 256
    → (x + 256 * y ≡ word (image_block image j) k → ⊥)
    → image_test (with_word image j k x y) ≡ 10

-- "The place p starts at 0 and counts records read": the place after k reads of an image, and what the read after that gives
unfoldable pub place_after : List ℕ → ℕ → ℕ
place_after image zero = 0
place_after image (suc k) = (reading_at image (place_after image k)).next

abbrev pub read_after : List ℕ → ℕ → Reading
read_after image k = reading_at image (place_after image k)
