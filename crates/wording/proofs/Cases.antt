-- Lines of Case R as 02 has it, and lines at the edges, computed to their bytes.
use mathlib.Core.Path.{◌≡◌, refl}
use mathlib.Core.List.{[], ◌∷◌}
use Prim.Native.Nat.{ℕ}
use Rattle.tracker.specs.Answer.{ok, wait, moved, read, done, same, no}
use Rattle.tracker.specs.declared.Transfers.{Transfers}
use Rattle.wording.specs.Text.{digit_text, digits, places_by, places_in, places, decimal, hex, turns, said_text, transfers_text, gains, answer_line, line_text}

abbrev sums : ℕ → ℕ → Transfers
sums i o = record { fetched = i; back = o }

-- `1 ok`
one_line : line_text 1 ok (sums 0 0) ≡ 49 ∷ 32 ∷ 111 ∷ 107 ∷ 10 ∷ []
unfolding line_text answer_line said_text gains transfers_text turns hex decimal places places_in places_by digits digit_text
one_line = refl

-- `4 moved`
four-line : line_text 4 moved (sums 0 0) ≡ 52 ∷ 32 ∷ 109 ∷ 111 ∷ 118 ∷ 101 ∷ 100 ∷ 10 ∷ []
unfolding line_text answer_line said_text gains transfers_text turns hex decimal places places_in places_by digits digit_text
four-line = refl

-- `7 done turns 3 in 1 out 0`
seven-line : line_text 7 (done 3) (sums 1 0) ≡ 55 ∷ 32 ∷ 100 ∷ 111 ∷ 110 ∷ 101 ∷ 32 ∷ 116 ∷ 117 ∷ 114 ∷ 110 ∷ 115 ∷ 32 ∷ 51 ∷ 32 ∷ 105 ∷ 110 ∷ 32 ∷ 49 ∷ 32 ∷ 111 ∷ 117 ∷ 116 ∷ 32 ∷ 48 ∷ 10 ∷ []
unfolding line_text answer_line said_text gains transfers_text turns hex decimal places places_in places_by digits digit_text
seven-line = refl

-- `12 read 0000000a turns 1 in 0 out 0`
twelve-line : line_text 12 (read 10 1) (sums 0 0) ≡ 49 ∷ 50 ∷ 32 ∷ 114 ∷ 101 ∷ 97 ∷ 100 ∷ 32 ∷ 48 ∷ 48 ∷ 48 ∷ 48 ∷ 48 ∷ 48 ∷ 48 ∷ 97 ∷ 32 ∷ 116 ∷ 117 ∷ 114 ∷ 110 ∷ 115 ∷ 32 ∷ 49 ∷ 32 ∷ 105 ∷ 110 ∷ 32 ∷ 48 ∷ 32 ∷ 111 ∷ 117 ∷ 116 ∷ 32 ∷ 48 ∷ 10 ∷ []
unfolding line_text answer_line said_text gains transfers_text turns hex decimal places places_in places_by digits digit_text
twelve-line = refl

-- `99 same turns 65535 in 2 out 12`
same_line : line_text 99 (same 65535) (sums 2 12) ≡ 57 ∷ 57 ∷ 32 ∷ 115 ∷ 97 ∷ 109 ∷ 101 ∷ 32 ∷ 116 ∷ 117 ∷ 114 ∷ 110 ∷ 115 ∷ 32 ∷ 54 ∷ 53 ∷ 53 ∷ 51 ∷ 53 ∷ 32 ∷ 105 ∷ 110 ∷ 32 ∷ 50 ∷ 32 ∷ 111 ∷ 117 ∷ 116 ∷ 32 ∷ 49 ∷ 50 ∷ 10 ∷ []
unfolding line_text answer_line said_text gains transfers_text turns hex decimal places places_in places_by digits digit_text
same_line = refl

-- `1000000 read 89abcdef turns 10 in 0 out 4`
hex-line : line_text 1000000 (read 2309737967 10) (sums 0 4) ≡ 49 ∷ 48 ∷ 48 ∷ 48 ∷ 48 ∷ 48 ∷ 48 ∷ 32 ∷ 114 ∷ 101 ∷ 97 ∷ 100 ∷ 32 ∷ 56 ∷ 57 ∷ 97 ∷ 98 ∷ 99 ∷ 100 ∷ 101 ∷ 102 ∷ 32 ∷ 116 ∷ 117 ∷ 114 ∷ 110 ∷ 115 ∷ 32 ∷ 49 ∷ 48 ∷ 32 ∷ 105 ∷ 110 ∷ 32 ∷ 48 ∷ 32 ∷ 111 ∷ 117 ∷ 116 ∷ 32 ∷ 52 ∷ 10 ∷ []
unfolding line_text answer_line said_text gains transfers_text turns hex decimal places places_in places_by digits digit_text
hex-line = refl

-- `18446744073709551615 read ffffffff turns 65535 in 255 out 255`
longest-line : line_text 18446744073709551615 (read 4294967295 65535) (sums 255 255) ≡ 49 ∷ 56 ∷ 52 ∷ 52 ∷ 54 ∷ 55 ∷ 52 ∷ 52 ∷ 48 ∷ 55 ∷ 51 ∷ 55 ∷ 48 ∷ 57 ∷ 53 ∷ 53 ∷ 49 ∷ 54 ∷ 49 ∷ 53 ∷ 32 ∷ 114 ∷ 101 ∷ 97 ∷ 100 ∷ 32 ∷ 102 ∷ 102 ∷ 102 ∷ 102 ∷ 102 ∷ 102 ∷ 102 ∷ 102 ∷ 32 ∷ 116 ∷ 117 ∷ 114 ∷ 110 ∷ 115 ∷ 32 ∷ 54 ∷ 53 ∷ 53 ∷ 51 ∷ 53 ∷ 32 ∷ 105 ∷ 110 ∷ 32 ∷ 50 ∷ 53 ∷ 53 ∷ 32 ∷ 111 ∷ 117 ∷ 116 ∷ 32 ∷ 50 ∷ 53 ∷ 53 ∷ 10 ∷ []
unfolding line_text answer_line said_text gains transfers_text turns hex decimal places places_in places_by digits digit_text
longest-line = refl

-- an answer that is no ending gains nothing, whatever was transferred
accepted-line : line_text 14 ok (sums 0 2) ≡ 49 ∷ 52 ∷ 32 ∷ 111 ∷ 107 ∷ 10 ∷ []
unfolding line_text answer_line said_text gains transfers_text turns hex decimal places places_in places_by digits digit_text
accepted-line = refl

wait-line : line_text 5 wait (sums 3 1) ≡ 53 ∷ 32 ∷ 119 ∷ 97 ∷ 105 ∷ 116 ∷ 10 ∷ []
unfolding line_text answer_line said_text gains transfers_text turns hex decimal places places_in places_by digits digit_text
wait-line = refl

moved-line : line_text 6 moved (sums 1 0) ≡ 54 ∷ 32 ∷ 109 ∷ 111 ∷ 118 ∷ 101 ∷ 100 ∷ 10 ∷ []
unfolding line_text answer_line said_text gains transfers_text turns hex decimal places places_in places_by digits digit_text
moved-line = refl

refused-line : line_text 100 (no 12) (sums 1 1) ≡ 49 ∷ 48 ∷ 48 ∷ 32 ∷ 110 ∷ 111 ∷ 32 ∷ 49 ∷ 50 ∷ 10 ∷ []
unfolding line_text answer_line said_text gains transfers_text turns hex decimal places places_in places_by digits digit_text
refused-line = refl
