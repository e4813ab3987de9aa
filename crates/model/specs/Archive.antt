-- Restoring as a number, and a reader and its records as words.
use Rattle.std.specs.Prelude.{List, [], ◌∷◌, ℕ, eqb, length}
use Rattle.laws.specs.Choice.{pick}
use Rattle.laws.specs.Refusal.{unless, refusal}
use Rattle.image.specs.Calls.{restoring_refusal}
use Rattle.coding.specs.Answer.{refused_by}
use Rattle.reader.specs.Read.{reading_at, opened_reader}

-- 0, or 4,294,967,296 plus the refusal
unfoldable pub restoring_answer : List ℕ → ℕ → ℕ
restoring_answer image room = unless (restoring_refusal image room) 0 refused_by

-- an answer in two words; other than two words are 2
unfoldable pub in_two : List ℕ → ℕ × List ℕ → ℕ × List ℕ
in_two words answer = unless (refusal ((eqb (length words) 2, 2) ∷ [])) answer (λ c. (refused_by c, words))

-- "opening a reader 10, 11"; "A refused reader has an empty image and place 0": the two words are its image's length and its place
unfoldable pub reader_opened : List ℕ → List ℕ → ℕ × List ℕ
reader_opened image words = let r = opened_reader image in in_two words (unless r.refusal 0 refused_by, (r.length ∷ r.place ∷ []))

-- "0 at the end, else 1, and the two words of `record` are the leaf number and the place of its 64 bytes"
unfoldable pub record_read : List ℕ → ℕ → List ℕ → ℕ × List ℕ
record_read image p words = let r = reading_at image p in in_two words (pick r.found (1, (r.leaf ∷ r.start ∷ [])) (0, words))
