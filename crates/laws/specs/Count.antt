-- A sum and a largest over the places below a number.
use Rattle.std.specs.Prelude.{ℕ, zero, suc, ◌+◌, max}

-- the sum of f over the places below n
unfoldable pub sum : (ℕ → ℕ) → ℕ → ℕ
sum f zero = 0
sum f (suc n) = sum f n + f n

-- the largest f of a place below n; 0 where there is none
unfoldable pub largest : (ℕ → ℕ) → ℕ → ℕ
largest f zero = 0
largest f (suc n) = max (largest f n) (f n)
