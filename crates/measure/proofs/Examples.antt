-- Worked examples, computed through the definitions on real bytes: lines of replay and lines that are none, and a sheet of four places.
use Prim.Native.Nat.{ℕ, ◌+◌}
use mathlib.Core.Path.{◌≡◌, refl}
use mathlib.Core.Bool.{true, false}
use mathlib.Core.List.{List, [], ◌∷◌, ◌++◌}
use Rattle.laws.specs.Choice.{both, either}
use Rattle.laws.specs.Scan.{all, first, count}
use Rattle.wording.specs.Words.{ok_word, turns_word, done_word, same_word, read_word, in_word, out_word}
use Rattle.output.specs.Line.{alike_at, has_at, ends_at, digit_of, digit_at, digits_from, number_at, last_of, hex_of, value_at, closes_at, plain_at, reads_at, count_at, number_is, out_of, transfers_at, rest_at, bare, counts, ending_with, ending_of, answer_at, after_number, line_of, is_line}
use Rattle.output.specs.declared.Line.TheVariants.{Ending}
use Rattle.std.specs.Prelude.{Some}
use Rattle.laws.specs.Count.{sum, largest}
use Rattle.measure.specs.Pair.{same_from, same_bytes, other_pair, ending_pair, pair_ending, pair_lines, pair_of, drift_of, other_transfers}
use Rattle.measure.specs.Sheet.{places, pair_at, endings, drifted, farthest, farthest_line, total, changed, blocks, sheet, sheet_of}

-- the record: `7 done turns 3`, `7 same turns 9 in 2 out 1`, `7 read 0000000a turns 2 in 1 out 0`, `7 ok`
abbrev record-lines : List (List ℕ)
record-lines =
    (55 ∷ 32 ∷ done_word ++ turns_word ++ (51 ∷ []))
    ∷ (55 ∷ 32 ∷ same_word ++ turns_word ++ (57 ∷ in_word) ++ (50 ∷ out_word) ++ (49 ∷ []))
    ∷ (55 ∷ 32 ∷ read_word ++ (48 ∷ 48 ∷ 48 ∷ 48 ∷ 48 ∷ 48 ∷ 48 ∷ 97 ∷ turns_word) ++ (50 ∷ in_word) ++ (49 ∷ out_word) ++ (48 ∷ []))
    ∷ (55 ∷ 32 ∷ ok_word)
    ∷ []

-- the replay: `7 done turns 15 in 1 out 0`, `7 same turns 21 in 2 out 3`, `7 read 0000000b turns 2 in 1 out 0`
abbrev replay-lines : List (List ℕ)
replay-lines =
    (55 ∷ 32 ∷ done_word ++ turns_word ++ (49 ∷ 53 ∷ in_word) ++ (49 ∷ out_word) ++ (48 ∷ []))
    ∷ (55 ∷ 32 ∷ same_word ++ turns_word ++ (50 ∷ 49 ∷ in_word) ++ (50 ∷ out_word) ++ (51 ∷ []))
    ∷ (55 ∷ 32 ∷ read_word ++ (48 ∷ 48 ∷ 48 ∷ 48 ∷ 48 ∷ 48 ∷ 48 ∷ 98 ∷ turns_word) ++ (50 ∷ in_word) ++ (49 ∷ out_word) ++ (48 ∷ []))
    ∷ []

-- endings 2, drifted 2, farthest 12 line 1 (line 2 is as far), total 24, changed 4: the first and the second for what follows their counts, the third for its value, the fourth for being alone;
-- of the two endings' blocks, the record tells 2 in and 1 out, the replay 3 and 3
pub four-places :
    sheet_of record-lines replay-lines
    ≡ record { lines = 4; endings = 2; drifted = 2; farthest = 12; line = 1; total = 24; changed = 4; recorded = record { fetched = 2; back = 1 }; replayed = record { fetched = 3; back = 3 } }
unfolding alike_at has_at ends_at digit_of digit_at digits_from number_at last_of hex_of value_at closes_at plain_at reads_at count_at number_is out_of transfers_at rest_at ending_with ending_of answer_at after_number line_of both either all first count sum largest same_from same_bytes other_pair ending_pair pair_ending pair_lines pair_of drift_of places pair_at endings drifted farthest farthest_line total changed blocks sheet sheet_of
four-places = refl

-- `7 done turns 3 in I out O`
abbrev done-line : ℕ → ℕ → List ℕ
done-line i o = 55 ∷ 32 ∷ done_word ++ turns_word ++ (51 ∷ in_word) ++ ((48 + i) ∷ out_word) ++ ((48 + o) ∷ [])

-- with another sum of either, with the same sums, and beside a line that tells none: the transfers differ in the first two, and all but the third are changed
pub transfers-compared :
    (other_transfers (pair_of (done-line 1 0) (done-line 2 0)) ≡ true)
    × (other_transfers (pair_of (done-line 1 0) (done-line 1 1)) ≡ true)
    × (other_transfers (pair_of (done-line 1 0) (done-line 1 0)) ≡ false)
    × (other_transfers (pair_of (55 ∷ 32 ∷ done_word ++ turns_word ++ (51 ∷ [])) (done-line 1 0)) ≡ false)
    × ((pair_of (done-line 1 0) (done-line 2 0)).changed ≡ true)
    × ((pair_of (done-line 1 0) (done-line 1 1)).changed ≡ true)
    × ((pair_of (done-line 1 0) (done-line 1 0)).changed ≡ false)
    × ((pair_of (55 ∷ 32 ∷ done_word ++ turns_word ++ (51 ∷ [])) (done-line 1 0)).changed ≡ true)
unfolding alike_at has_at ends_at digit_of digit_at digits_from number_at last_of hex_of value_at closes_at plain_at reads_at count_at number_is out_of transfers_at rest_at ending_with ending_of answer_at after_number line_of both either all same_from same_bytes other_pair ending_pair pair_ending pair_lines pair_of drift_of other_transfers
transfers-compared = (refl, refl, refl, refl, refl, refl, refl, refl)

-- `7 done turns 65536`, `7 done turns 03` and `7 done turns 3 ` are no lines of replay
pub strays :
    (is_line (line_of (55 ∷ 32 ∷ done_word ++ turns_word ++ (54 ∷ 53 ∷ 53 ∷ 51 ∷ 54 ∷ []))) ≡ false)
    × (is_line (line_of (55 ∷ 32 ∷ done_word ++ turns_word ++ (48 ∷ 51 ∷ []))) ≡ false)
    × (is_line (line_of (55 ∷ 32 ∷ done_word ++ turns_word ++ (51 ∷ 32 ∷ []))) ≡ false)
unfolding alike_at has_at ends_at digit_of digit_at digits_from number_at last_of hex_of value_at closes_at plain_at reads_at count_at number_is out_of transfers_at rest_at ending_with ending_of answer_at after_number line_of is_line both either all
strays = (refl, refl, refl)

-- `7 done turns 65535`: the count stands from place 13 to 18
pub largest-count : line_of (55 ∷ 32 ∷ done_word ++ turns_word ++ (54 ∷ 53 ∷ 53 ∷ 51 ∷ 53 ∷ [])) ≡ Some (Ending (record { at = 13; counts = bare 65535; next = 18 }))
unfolding alike_at has_at ends_at digit_of digit_at digits_from number_at last_of hex_of value_at closes_at plain_at reads_at count_at number_is out_of transfers_at rest_at ending_with ending_of answer_at after_number line_of both either all
largest-count = refl

-- `7 done turns 3 in 1 out 2`: what it carries
pub carried : line_of (done-line 1 2) ≡ Some (Ending (record { at = 13; counts = counts 3 1 2; next = 14 }))
unfolding alike_at has_at ends_at digit_of digit_at digits_from number_at last_of hex_of value_at closes_at plain_at reads_at count_at number_is out_of transfers_at rest_at ending_with ending_of answer_at after_number line_of both either all
carried = refl
