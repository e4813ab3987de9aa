-- 02 E4: the copies of blocks between memory and the lines, and their sums.
use Rattle.std.specs.Prelude.{List, [], ◌∷◌, ℕ, min, length}
use Rattle.tracker.specs.declared.Transfers.{Transfers}
use Rattle.tracker.specs.Transfers.{most_transfers}

-- block b is fetched from memory into a line, or written back from its line to memory
pub data Copy : Type 0 where
  fetch : (b : ℕ) → Copy
  back : (b : ℕ) → Copy

-- "blocks fetched and blocks written back"
unfoldable pub fetches : List Copy → List ℕ
fetches [] = []
fetches (fetch b ∷ cs) = b ∷ fetches cs
fetches (back b ∷ cs) = fetches cs

unfoldable pub backs : List Copy → List ℕ
backs [] = []
backs (fetch b ∷ cs) = backs cs
backs (back b ∷ cs) = b ∷ backs cs

-- their two sums
unfoldable pub tally : List Copy → Transfers
tally cs = record { fetched = min (length (fetches cs)) most_transfers; back = min (length (backs cs)) most_transfers }
