-- How the walk over the blocks keeps what it took. Nothing here need be believed: `Salvage` says what the call does.
use Rattle.std.specs.Prelude.{◌≡◌, List, [], ◌∷◌, ℕ, zero, suc, ◌+◌, ◌*◌, ◌/◌, ◌%◌, length, get_or, eqb}
use Rattle.laws.specs.Choice.{pick}
use Rattle.laws.specs.Bytes.{part, put_w}
use Rattle.form.specs.Encode.{Record, none, record_bytes, closed}
use Rattle.damaged.specs.Taken.{Taken, above}

-- where record p of an image begins
abbrev pub record_place : ℕ → ℕ
record_place p = 512 * (1 + p / 7) + (8 + 68 * (p % 7))

-- an output with its block j, in which c records stand, closed; as it was, where it has no such block
unfoldable pub closed_at : List ℕ → ℕ → ℕ → List ℕ
closed_at o j c = put_w 512 o (512 * j) (closed 65536 (part o (512 * j) 512) j c)

-- an output with the bytes b of record p in their place, its block closed where they are the seventh
unfoldable pub with_record : List ℕ → ℕ → List ℕ → List ℕ
with_record o p b = pick (eqb (p % 7) 6) (closed_at (put_w 68 o (record_place p) b) (1 + p / 7) 7) (put_w 68 o (record_place p) b)

-- an output with the first p records of a list
unfoldable pub with_records : List ℕ → List Record → ℕ → List ℕ
with_records o rs zero = o
with_records o rs (suc p) = with_record (with_records o rs p) p (record_bytes (get_or rs p none))

-- its last block closed too
unfoldable pub last_closed : List ℕ → ℕ → List ℕ
last_closed o p = pick (eqb (p % 7) 0) o (closed_at o (1 + p / 7) (p % 7))

-- a list with the first k entries of another
unfoldable pub with_entries : List ℕ → List ℕ → ℕ → List ℕ
with_entries l es zero = l
with_entries l es (suc k) = put_w 1 (with_entries l es k) k (get_or es k 0 ∷ [])

-- the numbers, the output and the list that the walk has when it has taken t, from an output o and a list l
pub record At (o l : List ℕ) (t : Taken) (kept low listed : ℕ) (output list : List ℕ) : Type 0 where
  pub kept-is : kept ≡ length t.kept
  pub low-is : low ≡ above t.kept
  pub listed-is : listed ≡ length t.listed
  pub output-is : output ≡ with_records o t.kept (length t.kept)
  pub list-is : list ≡ with_entries l t.listed (length t.listed)
