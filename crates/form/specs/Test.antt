-- 01 "Archive image" and "What is refused", 10 and 11: the test of an image, field by field.
use Rattle.std.specs.Prelude.{List, Bool, ℕ, zero, suc, ◌+◌, ◌*◌, ◌/◌, ◌%◌, ◌-◌, length, get_or, eqb, leb, ltb}
use Rattle.laws.specs.Choice.{pick, both, no}
use Rattle.laws.specs.Bytes.{part, number_at}
use Rattle.laws.specs.Scan.{all}
use Rattle.geometry.specs.TagMemory.{in_limits}
use Rattle.block.specs.Block.{all_zero}
use Rattle.sums.specs.Check.{check_right}
use Rattle.form.specs.Encode.{Form, form_for, head_rest, Record}

-- "Blocks of 512 bytes": how many whole ones, and block j
abbrev pub whole_blocks : List ℕ → ℕ
whole_blocks image = length image / 512

abbrev pub image_block : List ℕ → ℕ → List ℕ
image_block image j = part image (512 * j) 512

-- "Bytes 0 to 3: block number from 0. Bytes 4 to 5: kind."
abbrev pub number_of : List ℕ → ℕ
number_of b = number_at 4 b 0

abbrev pub kind_of : List ℕ → ℕ
kind_of b = number_at 2 b 4

-- of block 0: "version 1 in bytes 6 to 7, n in 8 to 11, m .. in 12 to 15"
abbrev pub version_of : List ℕ → ℕ
version_of b = number_at 2 b 6

abbrev pub leaves_of : List ℕ → ℕ
leaves_of b = number_at 4 b 8

abbrev pub recorded_of : List ℕ → ℕ
recorded_of b = number_at 4 b 12

-- of a later block: "its record count in bytes 6 to 7, records from byte 8"
abbrev pub count_of : List ℕ → ℕ
count_of b = number_at 2 b 6

abbrev pub record_in : List ℕ → ℕ → Record
record_in b i = record { leaf = number_at 4 b (8 + 68 * i); content = part b (12 + 68 * i) 64 }

-- "Unused bytes are zero": those from a place up to the check
abbrev pub unused_zero : List ℕ → ℕ → Bool
unused_zero b at = all_zero (part b at (508 - at))

-- two rows have the same bytes
unfoldable pub same : List ℕ → List ℕ → Bool
same a b = both (eqb (length a) (length b)) (all (λ i. eqb (get_or a i 0) (get_or b i 0)) (length a))

-- a sound head of a form: its number, kind, version, n in its limits, what the form has after them and "zeros after"; m apart
unfoldable pub head_sound : Form → List ℕ → Bool
head_sound F b =
    both (eqb (length b) 512)
    (both (eqb (number_of b) 0) (both (eqb (kind_of b) 1) (both (eqb (version_of b) F.version) (both (in_limits (leaves_of b)) (same (part b 16 492) (head_rest F))))))

-- "every block but the last has 7, the last 1 to 7"
unfoldable pub count_right : Bool → ℕ → Bool
count_right last c = pick last (both (leb 1 c) (leb c 7)) (eqb c 7)

-- a sound record block: its number, kind, count and unused bytes
unfoldable pub block_sound : Bool → ℕ → List ℕ → Bool
block_sound last j b =
    both (eqb (length b) 512)
    (both (eqb (number_of b) j) (both (eqb (kind_of b) 2) (both (count_right last (count_of b)) (unused_zero b (8 + 68 * count_of b)))))

-- block j of an image is sound
unfoldable pub sound_at : Form → List ℕ → ℕ → Bool
sound_at F image j =
    pick (eqb j 0) (head_sound F (image_block image j)) (block_sound (eqb (j + 1) (whole_blocks image)) j (image_block image j))

-- the version, n and m in the head of an image
abbrev pub version_in : List ℕ → ℕ
version_in image = version_of (image_block image 0)

abbrev pub leaves_in : List ℕ → ℕ
leaves_in image = leaves_of (image_block image 0)

abbrev pub recorded_in : List ℕ → ℕ
recorded_in image = recorded_of (image_block image 0)

-- the number of records of an image: 7 in every record block but the last, and its count
unfoldable pub record_count : List ℕ → ℕ
record_count image = pick (leb (whole_blocks image) 1) 0 (7 * (whole_blocks image - 2) + count_of (image_block image (whole_blocks image - 1)))

-- record p of an image: "record p mod 7 of block 1 + p/7 (whole part)"
abbrev pub record_at : List ℕ → ℕ → Record
record_at image p = record_in (image_block image (1 + p / 7)) (p % 7)

-- a record above the ones before, which are all below leaf `low`: "Records rise by leaf number and none is empty; .. leaf numbers are below n"
unfoldable pub good_above : ℕ → ℕ → Record → Bool
good_above n low r = both (leb low r.leaf) (both (ltb r.leaf n) (no (all_zero r.content)))

-- the leaf number after that of the record before record p; `low` before the first
unfoldable pub lowest : ℕ → (ℕ → Record) → ℕ → ℕ
lowest low records zero = low
lowest low records (suc p) = (records p).leaf + 1

-- record p of records that begin at leaf `low` is good
unfoldable pub good_record : ℕ → ℕ → (ℕ → Record) → ℕ → Bool
good_record n low records p = good_above n (lowest low records p) (records p)

-- "10: image length 0 or not a multiple of 512, or a wrong check"
unfoldable pub length_right : List ℕ → Bool
length_right image = both (ltb 0 (length image)) (eqb (length image % 512) 0)

unfoldable pub checks_right : Form → List ℕ → Bool
checks_right F image = all (λ j. check_right F.modulus (image_block image j)) (whole_blocks image)

-- "11: checks right, another image rule broken": the other rules, each block sound, "m is the number of records", each record good
unfoldable pub rules_kept : Form → List ℕ → Bool
rules_kept F image =
    both (all (sound_at F image) (whole_blocks image))
    (both (eqb (recorded_in image) (record_count image)) (all (good_record (leaves_in image) 0 (record_at image)) (record_count image)))

-- the test of an image by a form
unfoldable pub test_by : Form → List ℕ → ℕ
test_by F image = pick (both (length_right image) (checks_right F image)) (pick (rules_kept F image) 0 11) 10

-- the form that a head, and the image with it, is tested by
abbrev pub form_in : List ℕ → Form
form_in b = form_for (version_of b)

abbrev pub form_of : List ℕ → Form
form_of image = form_in (image_block image 0)

-- "The image test gives 0, 10 or 11."
abbrev pub image_test : List ℕ → ℕ
image_test image = test_by (form_of image) image
