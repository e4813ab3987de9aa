-- The bits of a number, bit 0 lowest.
use Rattle.std.specs.Prelude.{ℕ, zero, suc, ◌+◌, ◌*◌, ◌/◌, ◌%◌}

-- bit k of x
unfoldable pub bit_of : ℕ → ℕ → ℕ
bit_of x zero = x % 2
bit_of x (suc k) = bit_of (x / 2) k

-- x with bit k made v, 0 or 1
unfoldable pub with_bit : ℕ → ℕ → ℕ → ℕ
with_bit x zero v = x / 2 * 2 + v
with_bit x (suc k) v = with_bit (x / 2) k v * 2 + x % 2
