-- Scans by a test on numbers: the first below n at which it holds, whether it holds at each or at some, and at how many.
use Rattle.std.specs.Prelude.{Bool, true, ℕ, zero, suc, ◌+◌, ltb, leb}
use Rattle.laws.specs.Choice.{pick, both, no, one}

-- the least i below n at which p holds; n where there is none
unfoldable pub first : (ℕ → Bool) → ℕ → ℕ
first p zero = zero
first p (suc n) = pick (ltb (first p n) n) (first p n) (pick (p n) n (suc n))

-- p holds at each i below n
unfoldable pub all : (ℕ → Bool) → ℕ → Bool
all p zero = true
all p (suc n) = both (all p n) (p n)

-- p holds at some i below n
unfoldable pub some : (ℕ → Bool) → ℕ → Bool
some p n = no (all (λ i. no (p i)) n)

-- at how many i below n does p hold
unfoldable pub count : (ℕ → Bool) → ℕ → ℕ
count p zero = 0
count p (suc n) = count p n + one (p n)

-- p, from a on
abbrev pub from : ℕ → (ℕ → Bool) → ℕ → Bool
from a p i = both (leb a i) (p i)

-- the least i from a on below n at which p holds; n where there is none
unfoldable pub first_from : (ℕ → Bool) → ℕ → ℕ → ℕ
first_from p a n = first (from a p) n

-- at how many i from a on below n does p hold
unfoldable pub count_from : (ℕ → Bool) → ℕ → ℕ → ℕ
count_from p a n = count (from a p) n
