-- Levels of the row: level 0 has the leaves, a block of level e + 1 stands over w blocks of level e. Which blocks have a tag under them.
use Rattle.std.specs.Prelude.{Bool, ℕ, zero, suc, ◌+◌, ◌*◌, ◌/◌, eqb}
use Rattle.laws.specs.Choice.{both, no}
use Rattle.laws.specs.Scan.{some}

-- some leaf under block k of level e has a tag
unfoldable pub reaches : (w : ℕ) (tag : ℕ → Bool) → ℕ → ℕ → Bool
reaches w tag zero k = tag k
reaches w tag (suc e) k = some (λ i. reaches w tag e (k * w + i)) w

-- some block of level e other than block k, under the same block, has a leaf with a tag
unfoldable pub others : (w : ℕ) (tag : ℕ → Bool) → ℕ → ℕ → Bool
others w tag e k = some (λ i. both (no (eqb (k / w * w + i) k)) (reaches w tag e (k / w * w + i))) w
