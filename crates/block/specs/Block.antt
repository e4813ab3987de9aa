-- Groups, bits and zero bytes in any row of bytes: 01 "The tag memory". Reads of what is not there give 0, writes of it change nothing.
use Rattle.std.specs.Prelude.{List, Bool, ℕ, eqb, ltb, length, get_or, set, replicate}
use Rattle.laws.specs.Choice.{pick}
use Rattle.laws.specs.Bytes.{part, fits, put_w, bytes, number_at}
use Rattle.laws.specs.Bits.{bit_of, with_bit}
use Rattle.laws.specs.Scan.{all}

-- the 64 bytes from a place; 64 zero bytes where they are not all there
unfoldable pub block_or0 : List ℕ → ℕ → List ℕ
block_or0 m at = pick (fits m at 64) (part m at 64) (replicate 64 0)

-- the group at a place: "an unsigned 32-bit number .. stored as 4 bytes, low byte first"
abbrev pub group_at : List ℕ → ℕ → ℕ
group_at m at = number_at 4 m at

-- m with group v at a place
abbrev pub put_group : List ℕ → ℕ → ℕ → List ℕ
put_group m at v = put_w 4 m at (bytes 4 v)

-- bit k of the byte at a place, "bit 0 lowest"
unfoldable pub bit_at : List ℕ → ℕ → ℕ → ℕ
bit_at m at k = bit_of (get_or m at 0) k

-- m with bit k of the byte at a place made v; a byte has 8
unfoldable pub put_bit : List ℕ → ℕ → ℕ → ℕ → List ℕ
put_bit m at k v = pick (ltb k 8) (set m at (with_bit (get_or m at 0) k v)) m

-- every byte of m is zero
unfoldable pub all_zero : List ℕ → Bool
all_zero m = all (λ i. eqb (get_or m i 0) 0) (length m)
