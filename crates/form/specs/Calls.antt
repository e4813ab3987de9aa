-- 01 "Archive image" and "What is refused": what writing, restoring and opening a reader answer and leave.
use Rattle.std.specs.Prelude.{List, [], ◌∷◌, ◌++◌, ℕ, zero, suc, ◌+◌, length, get_or, replicate, eqb, leb}
use Rattle.laws.specs.Refusal.{Tests, refusal, unless}
use Rattle.laws.specs.Bytes.{splice, put_w}
use Rattle.geometry.specs.TagMemory.{memory_length, block_place, map_place, map_bit_of}
use Rattle.block.specs.Block.{put_bit}
use Rattle.memory.specs.PlainReading.{sized}
use Rattle.memory.specs.True.{is_true}
use Rattle.form.specs.Encode.{Record, none, image_of}
use Rattle.form.specs.Test.{leaves_in, recorded_in, record_at, image_test}

-- "image writing 1, 2, 3, 9". `room` is the length of the lent output.
abbrev pub writing_tests : ℕ → List ℕ → ℕ → Tests
writing_tests n mem room = sized n mem ++ (is_true n mem, 3) ∷ (leb (length (image_of n mem)) room, 9) ∷ []

unfoldable pub writing_refusal : ℕ → List ℕ → ℕ → ℕ
writing_refusal n mem room = refusal (writing_tests n mem room)

-- "Writing gives the image's length", or 4,294,967,296 plus the refusal
unfoldable pub writing_answer : ℕ → List ℕ → ℕ → ℕ
writing_answer n mem room = unless (writing_refusal n mem room) (length (image_of n mem)) (λ c. 4294967296 + c)

-- ".. and leaves output past it unchanged"; refused, "all lent bytes stay as they came"
unfoldable pub written : ℕ → List ℕ → List ℕ → List ℕ
written n mem output = unless (writing_refusal n mem (length output)) (splice output 0 (image_of n mem)) (λ c. output)

-- the first p records by a rule
unfoldable pub records_to : (ℕ → Record) → ℕ → List Record
records_to records zero = []
records_to records (suc p) = records_to records p ++ (records p ∷ [])

-- the records of an image, read one at a time
abbrev pub records_in : List ℕ → List Record
records_in image = records_to (record_at image) (recorded_in image)

-- a memory of n leaves with one recorded leaf and its bit
unfoldable pub put_record : ℕ → List ℕ → Record → List ℕ
put_record n mem r = put_bit (put_w 64 mem (block_place r.leaf) r.content) (map_place n r.leaf) (map_bit_of r.leaf) 1

-- "Restoring fills all of memory: recorded leaves and their bits, zeros elsewhere": after p records of a list
unfoldable pub filled : ℕ → List Record → ℕ → List ℕ
filled n rs zero = replicate (memory_length n) 0
filled n rs (suc p) = put_record n (filled n rs p) (get_or rs p none)

abbrev pub memory_of : ℕ → List Record → List ℕ
memory_of n rs = filled n rs (length rs)

-- "restoring 10, 11, 2": the image test names 10 or 11. `room` is the length of the lent memory.
abbrev pub restoring_tests : List ℕ → ℕ → Tests
restoring_tests image room = (eqb (image_test image) 0, image_test image) ∷ (eqb room (memory_length (leaves_in image)), 2) ∷ []

unfoldable pub restoring_refusal : List ℕ → ℕ → ℕ
restoring_refusal image room = refusal (restoring_tests image room)

-- the lent memory after restoring; refused, it stays as it came
unfoldable pub restored : List ℕ → List ℕ → List ℕ
restored image mem = unless (restoring_refusal image (length mem)) (memory_of (leaves_in image) (records_in image)) (λ c. mem)

-- "opening a reader 10, 11": the image test names the refusal; "A refused reader has an empty image"
unfoldable pub opened_image : List ℕ → List ℕ
opened_image image = unless (image_test image) image (λ c. [])
