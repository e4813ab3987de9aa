-- What the reader's calls answer, as the definitions of `Read` have it: "A refused reader has an empty image and place 0".
use Rattle.std.specs.Prelude.{◌≡◌, List, [], true, false, ℕ, Option, Some, None, Result, Ok, Err}
use Rattle.laws.specs.declared.Refusal.{Refusal}
use Rattle.laws.specs.Refusal.{number}
use Rattle.reader.specs.declared.Reader.{Reader}
use Rattle.reader.specs.declared.Record.{Record}
use Rattle.reader.specs.declared.Start.{Start}
use Rattle.reader.specs.Read.{Reading, Opened, reading_at, content_at}

-- the bytes and the place of an opened reader; refused, none and 0
abbrev pub image_of : Result Reader Refusal → List ℕ
image_of (Ok r) = r.image.now
image_of (Err c) = []

abbrev pub place_of : Result Reader Refusal → ℕ
place_of (Ok r) = r.place
place_of (Err c) = 0

-- the same as numbers, with the refusal's
abbrev pub started : Result Start Refusal → Opened
started (Ok s) = record { refusal = 0; length = s.length; place = s.place }
started (Err c) = record { refusal = number c; length = 0; place = 0 }

-- the next record of a reader, or the end, where the reader then has a place
abbrev pub recorded : ℕ → Option Record → Reading
recorded place None = record { found = false; leaf = 0; start = 0; next = place }
recorded place (Some r) = record { found = true; leaf = r.leaf; start = r.start; next = place }

-- its bytes; at the end none
abbrev pub content_of : Option Record → List ℕ
content_of None = []
content_of (Some r) = r.content.now

-- what stands at a reader's place is its next record, and it moves on; at the end "the reader stays as it was"
abbrev pub NextRecord : Reader → Option Record → Reader → Type 0
NextRecord s r t = (recorded t.place r ≡ reading_at s.image.now s.place) × (content_of r ≡ content_at s.image.now s.place) × (t.image ≡ s.image)
