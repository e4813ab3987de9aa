-- Which line: 01 "The cache". Each is a line below L, or L where there is none.
use Rattle.std.specs.Prelude.{List, ℕ, ◌+◌, ltb, leb, get_or}
use Rattle.laws.specs.Choice.{pick, both, no}
use Rattle.laws.specs.Scan.{first}
use Rattle.line.specs.Word.{used, has, held}

-- "the line that has the block"
unfoldable pub line_of : List ℕ → ℕ → ℕ → ℕ
line_of lines l b = first (λ i. has (get_or lines i 0) b) l

-- "the lowest free line"
unfoldable pub lowest_free : List ℕ → ℕ → ℕ
lowest_free lines l = first (λ i. no (used (get_or lines i 0))) l

-- the first line at or after `from` that no tracker holds
unfoldable pub loose_from : List ℕ → ℕ → ℕ → ℕ
loose_from lines l from = first (λ i. both (leb from i) (no (held (get_or lines i 0)))) l

-- "the first line at or after the hand, round the circle, that no tracker holds"
unfoldable pub victim : List ℕ → ℕ → ℕ → ℕ
victim lines l hand = pick (ltb (loose_from lines l hand) l) (loose_from lines l hand) (loose_from lines l 0)

-- "the line after it (after L - 1 comes 0)"
unfoldable pub after : ℕ → ℕ → ℕ
after l i = pick (ltb (i + 1) l) (i + 1) 0
