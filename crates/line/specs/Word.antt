-- A line as one number: 01 "A line is free or holds one block, clean or changed", with the tracker that holds the block, if one does.
-- 0 is free. Of w - 1 the lowest bit says changed, the next seven are the holder's number plus one, or 0, and the rest is the block.
use Rattle.std.specs.Prelude.{Bool, ℕ, ◌+◌, ◌-◌, ◌*◌, ◌/◌, ◌%◌, eqb, ltb}
use Rattle.laws.specs.Choice.{pick, both}

-- "free or holds one block"
unfoldable pub used : ℕ → Bool
used w = ltb 0 w

-- the block that a used line holds
unfoldable pub block_of : ℕ → ℕ
block_of w = (w - 1) / 256

-- "clean or changed"
unfoldable pub changed : ℕ → Bool
changed w = eqb ((w - 1) % 2) 1

-- the marks of a holder: its number plus one, or 0, in seven bits; and the trackers that a line can name
abbrev pub marks : ℕ
marks = 128

abbrev pub holders : ℕ
holders = 127

-- the blocks that a line can have
abbrev pub line_blocks : ℕ
line_blocks = 16777215

-- the number of the tracker that holds the line's block, plus one; 0 for none
unfoldable pub holder : ℕ → ℕ
holder w = (w - 1) / 2 % marks

unfoldable pub held : ℕ → Bool
held w = ltb 0 (holder w)

-- the line has block b
unfoldable pub has : ℕ → ℕ → Bool
has w b = both (used w) (eqb (block_of w) b)

-- the line of block b, changed or clean, with its holder's number plus one or 0; free where a number is too large for it
unfoldable pub word : ℕ → Bool → ℕ → ℕ
word b c h = pick (both (ltb b line_blocks) (ltb h marks)) (1 + pick c 1 0 + 2 * h + 256 * b) 0

-- the same line with another holder, and the same line clean
unfoldable pub held_by : ℕ → ℕ → ℕ
held_by w h = word (block_of w) (changed w) h

unfoldable pub cleaned : ℕ → ℕ
cleaned w = pick (changed w) (w - 1) w
