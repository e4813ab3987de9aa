-- 02 E8 "Salvage a damaged image": what the call answers and leaves.
use Rattle.std.specs.Prelude.{List, [], ◌∷◌, ◌++◌, ℕ, ◌+◌, length, eqb, leb, Result, Ok, Err}
use Rattle.laws.specs.Choice.{pick, both}
use Rattle.laws.specs.Bytes.{splice}
use Rattle.laws.specs.declared.Refusal.{Refusal}
use Rattle.laws.specs.Refusal.{number, Tests, refusal, unless}
use Rattle.sums.specs.Check.{check_right}
use Rattle.form.specs.Encode.{version2, encode}
use Rattle.form.specs.Test.{image_block, head_sound, form_of, leaves_in, length_right}
use Rattle.damaged.specs.Taken.{taken}
use Rattle.salvage.specs.declared.Salvaged.{Salvaged}

-- "The tool writes a new sound image": the writer's own, of the records kept
abbrev pub new_image : List ℕ → List ℕ
new_image image = encode version2 (leaves_in image) (taken image).kept

-- "10 for a bad length or head check, then 11 for a head rule broken (m apart), then 9 for either output too short"
abbrev pub head_tests : List ℕ → Tests
head_tests image =
    (both (length_right image) (check_right (form_of image).modulus (image_block image 0)), 10) ∷ (head_sound (form_of image) (image_block image 0), 11) ∷ []

abbrev pub room_tests : List ℕ → (room entries : ℕ) → Tests
room_tests image room entries = (both (leb (length (new_image image)) room) (leb (length (taken image).listed) entries), 9) ∷ []

unfoldable pub salvage_refusal : List ℕ → (room entries : ℕ) → ℕ
salvage_refusal image room entries = refusal (head_tests image ++ room_tests image room entries)

-- what a salvage answers: the refusal, 0 if none; the new image's length and the number of entries, 0 where refused
pub record Answer : Type 0 where
  pub refusal : ℕ
  pub length : ℕ
  pub listed : ℕ

abbrev pub told : Result Salvaged Refusal → Answer
told (Ok s) = record { refusal = 0; length = s.length; listed = s.listed }
told (Err r) = record { refusal = number r; length = 0; listed = 0 }

-- what a salvage answers, and the output and the list that it leaves
pub record Left : Type 0 where
  pub answer : Answer
  pub output : List ℕ
  pub list : List ℕ

abbrev pub left : Answer → List ℕ → List ℕ → Left
left a o l = record { answer = a; output = o; list = l }

-- the image's length and the number listed, the image in front of the output and the list in front of the list; of a refusal its number, and all as it came
unfoldable pub salvaging : List ℕ → List ℕ → List ℕ → Left
salvaging image output list =
    unless (salvage_refusal image (length output) (length list))
    (left (record { refusal = 0; length = length (new_image image); listed = length (taken image).listed }) (splice output 0 (new_image image)) (splice list 0 (taken image).listed))
    (λ c. left (record { refusal = c; length = 0; listed = 0 }) output list)

-- for C, the answer as one number: the image's length, or 4,294,967,296 plus the refusal
pub record Numbered : Type 0 where
  pub number : ℕ
  pub output : List ℕ
  pub list : List ℕ

abbrev pub numbered : ℕ → List ℕ → List ℕ → Numbered
numbered r o l = record { number = r; output = o; list = l }

unfoldable pub as_number : Left → Numbered
as_number s = numbered (pick (eqb s.answer.refusal 0) s.answer.length (4294967296 + s.answer.refusal)) s.output s.list

-- the number of entries, or 4,294,967,296 plus the refusal of the head
unfoldable pub listed_number : List ℕ → ℕ
listed_number image = unless (refusal (head_tests image)) (length (taken image).listed) (λ c. 4294967296 + c)
