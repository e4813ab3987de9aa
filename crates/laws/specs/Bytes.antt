-- Parts of lists of bytes, and numbers as bytes. Total: what does not fit is not written.
use Rattle.std.specs.Prelude.{List, [], ◌∷◌, ◌++◌, Bool, ℕ, zero, suc, ◌+◌, ◌*◌, ◌/◌, ◌%◌, ◌<◌, length, take, drop, get_or, leb}
use Rattle.laws.specs.Choice.{pick}

-- the w bytes of m from `at`; those that m has, where it ends before
unfoldable pub part : List ℕ → ℕ → ℕ → List ℕ
part m at w = take w (drop at m)

-- m with the bytes b in place of those from `at`, which m has
unfoldable pub splice : List ℕ → ℕ → List ℕ → List ℕ
splice m at b = take at m ++ (b ++ drop (at + length b) m)

-- m has w bytes from `at`
unfoldable pub fits : List ℕ → ℕ → ℕ → Bool
fits m at w = leb (at + w) (length m)

-- m with the w bytes b from `at`, where w bytes fit; else m
unfoldable pub put_w : ℕ → List ℕ → ℕ → List ℕ → List ℕ
put_w w m at b = pick (fits m at w) (splice m at b) m

-- a list of bytes as a number, low byte first; a byte that is not there counts 0
unfoldable pub value : List ℕ → ℕ
value [] = 0
value (x ∷ xs) = x + 256 * value xs

-- the w bytes of a number, low byte first
unfoldable pub bytes : ℕ → ℕ → List ℕ
bytes zero v = []
bytes (suc w) v = v % 256 ∷ bytes w (v / 256)

-- the number of w bytes from `at`; 0 where they are not all there
unfoldable pub number_at : ℕ → List ℕ → ℕ → ℕ
number_at w m at = pick (fits m at w) (value (part m at w)) 0

-- every element is below 256
unfoldable pub Bytes : List ℕ → Type 0
Bytes l = (i : ℕ) → get_or l i 0 < 256
