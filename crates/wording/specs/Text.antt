-- 01 "The replay program": the text of an answer, byte by byte.
use Rattle.std.specs.Prelude.{List, [], ◌∷◌, ◌++◌, Bool, true, false, ℕ, zero, suc, ◌+◌, ◌/◌, ◌%◌, ◌^◌, ◌<◌, ltb}
use Rattle.laws.specs.Choice.{pick}
use Rattle.laws.specs.Bytes.{fits}
use Rattle.wording.specs.Words.{space, newline, ok_word, wait_word, moved_word, no_word, read_word, done_word, same_word, turns_word, in_word, out_word}
use Rattle.tracker.specs.Answer.{Said, ok, wait, moved, read, done, same, no}
use Rattle.tracker.specs.declared.Transfers.{Transfers}

-- a digit's byte, `0` to `9` and `a` to `f`
unfoldable pub digit_text : ℕ → ℕ
digit_text d = pick (ltb d 10) (d + 48) (d + 87)

-- the w digits of v, the highest first
unfoldable pub digits : (base w v : ℕ) → List ℕ
digits base zero v = []
digits base (suc j) v = digit_text (v / base ^ j % base) ∷ digits base j v

-- how many decimal digits v has: 1 below 10, else one more than v / 10 has
unfoldable pub places_by : (small : Bool) (other : ℕ → ℕ) (v : ℕ) → ℕ
places_by true other v = 1
places_by false other v = suc (other (v / 10))

-- with so many divisions
unfoldable pub places_in : (times v : ℕ) → ℕ
places_in zero v = 1
places_in (suc times) v = places_by (ltb v 10) (places_in times) v

-- v of them are enough
unfoldable pub places : ℕ → ℕ
places v = places_in v v

-- a number in decimal
unfoldable pub decimal : ℕ → List ℕ
decimal v = digits 10 (places v) v

-- "V is 8 lower-case hex digits"
unfoldable pub hex : ℕ → List ℕ
hex v = digits 16 8 v

-- ` turns K`
unfoldable pub turns : ℕ → List ℕ
turns k = turns_word ++ decimal k

-- "`ok`, `wait`, `moved`, `read V turns K`, `done turns K`, `same turns K` or `no C`"
unfoldable pub said_text : Said → List ℕ
said_text ok = ok_word
said_text wait = wait_word
said_text moved = moved_word
said_text (read v k) = read_word ++ (hex v ++ turns k)
said_text (done k) = done_word ++ turns k
said_text (same k) = same_word ++ turns k
said_text (no c) = no_word ++ decimal c

-- the numbers that answers carry: turns stay at 65,535, refusals are bytes
abbrev pub Narrow : Said → Type 0
Narrow ok = Unit {0}
Narrow wait = Unit {0}
Narrow moved = Unit {0}
Narrow (read v k) = k < 65536
Narrow (done k) = k < 65536
Narrow (same k) = k < 65536
Narrow (no c) = c < 256

-- ` in I out O`: blocks fetched, blocks written back
unfoldable pub transfers_text : Transfers → List ℕ
transfers_text t = (in_word ++ decimal t.fetched) ++ (out_word ++ decimal t.back)

-- "The replay endings gain ` in I out O`" (02, E4), other answers nothing
unfoldable pub gains : Said → Transfers → List ℕ
gains ok t = []
gains wait t = []
gains moved t = []
gains (read v k) t = transfers_text t
gains (done k) t = transfers_text t
gains (same k) t = transfers_text t
gains (no c) t = []

-- the sums that endings carry stay at 255
abbrev pub Few : Transfers → Type 0
Few t = (t.fetched < 256) × (t.back < 256)

-- "Output: line number, space, then" what is said, and what it gains
unfoldable pub answer_line : ℕ → Said → Transfers → List ℕ
answer_line n said t = decimal n ++ (space ++ (said_text said ++ gains said t))

-- with its newline
unfoldable pub line_text : ℕ → Said → Transfers → List ℕ
line_text n said t = answer_line n said t ++ newline

-- the bytes that are kept free for a line; none is longer
abbrev pub most : ℕ
most = 64

-- what is put into `out` from `at`: the line where there is room for any, else nothing
unfoldable pub line_in : List ℕ → ℕ → ℕ → Said → Transfers → List ℕ
line_in out at k said t = pick (fits out at most) (line_text k said t) []
