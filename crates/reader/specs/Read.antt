-- 01 "Archive image": "An image is read one record at a time by a reader that keeps the lent image together with its place."
use Rattle.std.specs.Prelude.{List, [], Bool, true, false, ℕ, ◌+◌, ◌*◌, ◌/◌, ◌%◌, leb, length, Option, Some, None}
use Rattle.laws.specs.Choice.{pick, either}
use Rattle.laws.specs.Bytes.{part}
use Rattle.image.specs.Test.{image_test, whole_blocks, image_block, count_of, record_at}
use Rattle.image.specs.Calls.{opened_image}
use Rattle.reader.specs.declared.Found.{Found}

-- what stands at a place: a record's leaf, where its 64 bytes begin in the image, and the place after it; or, not found, the end
pub record Reading : Type 0 where
  pub found : Bool
  pub leaf : ℕ
  pub start : ℕ
  pub next : ℕ

-- what opening an image gives: the refusal, the length of the reader's image, and its place
pub record Opened : Type 0 where
  pub refusal : ℕ
  pub length : ℕ
  pub place : ℕ

-- "Where the image has no such whole block, or its count there is not above p mod 7"
unfoldable pub at_end : List ℕ → ℕ → Bool
at_end image p = either (leb (whole_blocks image) (1 + p / 7)) (leb (count_of (image_block image (1 + p / 7))) (p % 7))

-- ".. the answer is the end and the reader stays as it was"
abbrev pub the_end : ℕ → Reading
the_end p = record { found = false; leaf = 0; start = 0; next = p }

-- what is found at place p, or the end
abbrev pub reading_of : ℕ → Option Found → Reading
reading_of p None = the_end p
reading_of p (Some f) = record { found = true; leaf = f.leaf; start = f.start; next = f.next }

-- where the 64 bytes of record p begin in the image
abbrev pub content_place : ℕ → ℕ
content_place p = 512 * (1 + p / 7) + (12 + 68 * (p % 7))

-- "the next is record p mod 7 of block 1 + p/7 (whole part)": its leaf, where its bytes begin, and the place after it
abbrev pub the_record : List ℕ → ℕ → Reading
the_record image p = record { found = true; leaf = (record_at image p).leaf; start = content_place p; next = p + 1 }

unfoldable pub reading_at : List ℕ → ℕ → Reading
reading_at image p = pick (at_end image p) (the_end p) (the_record image p)

-- "the 64 bytes" of record p, as a part of the image; at the end an empty one
unfoldable pub content_at : List ℕ → ℕ → List ℕ
content_at image p = pick (at_end image p) [] (part image (content_place p) 64)

-- "opening a reader 10, 11"; "A refused reader has an empty image and place 0"
unfoldable pub opened_reader : List ℕ → Opened
opened_reader image = record { refusal = image_test image; length = length (opened_image image); place = 0 }
