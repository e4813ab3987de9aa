-- 02 E8 "Salvage a damaged image": the blocks that are used, the records that are taken, and the list.
use Rattle.std.specs.Prelude.{List, [], ◌∷◌, ◌++◌, Bool, ℕ, zero, suc, ◌+◌, ◌*◌, ◌-◌, length, get_or, eqb}
use Rattle.laws.specs.Choice.{pick, both}
use Rattle.sums.specs.Check.{check_right}
use Rattle.form.specs.Encode.{Record, none}
use Rattle.form.specs.Test.{whole_blocks, image_block, count_of, record_in, block_sound, lowest, good_above, form_of, leaves_in}

-- what was taken from the blocks so far: the records kept, and what is listed
pub record Taken : Type 0 where
  pub kept : List Record
  pub listed : List ℕ

-- "the blocks whose check, number, kind, count (7, in the last 1 to 7) and unused bytes are right": the check by the head's version, the number its place
unfoldable pub used : List ℕ → ℕ → Bool
used image j = both (check_right (form_of image).modulus (image_block image j)) (block_sound (eqb (j + 1) (whole_blocks image)) j (image_block image j))

-- "above the last one kept": the leaf number after it; 0 before the first
unfoldable pub above : List Record → ℕ
above rs = lowest 0 (λ p. get_or rs p none) (length rs)

-- "taking each record that is not empty, has a number below n and above the last one kept"; "each record left out, as 8 x block place + 0 to 6": record i of block j
unfoldable pub take_record : ℕ → ℕ → List ℕ → Taken → ℕ → Taken
take_record n j b t i =
    pick (good_above n (above t.kept) (record_in b i))
    (record { kept = t.kept ++ (record_in b i ∷ []); listed = t.listed })
    (record { kept = t.kept; listed = t.listed ++ ((8 * j + i) ∷ []) })

-- the first c records of block j
unfoldable pub take_records : ℕ → ℕ → List ℕ → Taken → ℕ → Taken
take_records n j b t zero = t
take_records n j b t (suc c) = take_record n j b (take_records n j b t c) c

-- block j with its records, where it is used; else "each block not used, as 8 x its place + 7"
unfoldable pub take_block : ℕ → ℕ → Bool → List ℕ → Taken → Taken
take_block n j sound b t = pick sound (take_records n j b t (count_of b)) (record { kept = t.kept; listed = t.listed ++ ((8 * j + 7) ∷ []) })

-- "in input order": blocks 1 to j
unfoldable pub take_blocks : List ℕ → ℕ → Taken
take_blocks image zero = record { kept = []; listed = [] }
take_blocks image (suc j) = take_block (leaves_in image) (suc j) (used image (suc j)) (image_block image (suc j)) (take_blocks image j)

abbrev pub taken : List ℕ → Taken
taken image = take_blocks image (whole_blocks image - 1)
