-- What the theorems of a salvage speak of: where a kept record comes from, and what is told of each record and block.
use Rattle.std.specs.Prelude.{◌≡◌, List, true, false, ◌⊎◌, ℕ, ◌+◌, ◌*◌, ◌≤◌, ◌<◌, length, get_or}
use Rattle.form.specs.Encode.{Record, none}
use Rattle.form.specs.Test.{whole_blocks, image_block, count_of, record_in}
use Rattle.damaged.specs.Taken.{Taken, used}

-- "Every leaf in the output is byte for byte one from a sound block": the block, and the record in it
pub record From (image : List ℕ) (r : Record) : Type 0 where
  pub place : ℕ
  pub some : 1 ≤ place
  pub inside : place < whole_blocks image
  pub sound : used image place ≡ true
  pub slot : ℕ
  pub few : slot < count_of (image_block image place)
  pub same : r ≡ record_in (image_block image place) slot

-- a record is kept; a number is listed
abbrev pub Kept : Taken → Record → Type 0
Kept t r = (p : ℕ) × (p < length t.kept) × (get_or t.kept p none ≡ r)

abbrev pub Listed : Taken → ℕ → Type 0
Listed t x = (p : ℕ) × (p < length t.listed) × (get_or t.listed p 0 ≡ x)

-- of all that stands before a place of the list: each record of a sound block is kept or listed, and each block that is not used is listed
pub record Told (image : List ℕ) (place : ℕ) (t : Taken) : Type 0 where
  pub records : (j i : ℕ) → 1 ≤ j → j < whole_blocks image → 8 * j + i < place → used image j ≡ true → i < count_of (image_block image j)
      → Kept t (record_in (image_block image j) i) ⊎ Listed t (8 * j + i)
  pub blocks : (j : ℕ) → 1 ≤ j → j < whole_blocks image → 8 * j + 7 < place → used image j ≡ false → Listed t (8 * j + 7)

-- the list rises, below a place
pub record Rises (place : ℕ) (t : Taken) : Type 0 where
  pub below : (p : ℕ) → p < length t.listed → get_or t.listed p 0 < place
  pub rising : (p q : ℕ) → p < q → q < length t.listed → get_or t.listed p 0 < get_or t.listed q 0
