-- What a line of replay's output is: line number, space, then `ok`, `wait`, `moved`, `read V turns K`, `done turns K`, `same turns K` or `no C`.
-- Its words and numbers are those of the text of an answer (text `Words`, `Text`). After the count K of an ending stands ` in I out O` (02, E4), or nothing in a record of before. A line is the list of its bytes, newline apart.
-- K, C, I and O are at most 65,535: a line with a larger one is no line of replay. So is one with a zero before a number, since replay writes none.
use Rattle.std.specs.Prelude.{ℕ, zero, suc, ◌+◌, ◌*◌, ◌-◌, min, List, ◌++◌, Bool, false, length, get_or, ltb, leb, eqb, Option, Some, None, is_some}
use Rattle.laws.specs.Choice.{pick, both, either}
use Rattle.laws.specs.Scan.{all}
use Rattle.tracker.specs.Answer.{Said, ok, wait, moved, read, done, same, no}
use Rattle.tracker.specs.declared.Transfers.{Transfers as Sums}
use Rattle.wording.specs.Words.{space, ok_word, wait_word, moved_word, no_word, turns_word, done_word, same_word, read_word, in_word, out_word}
use Rattle.wording.specs.Text.{places}
use Rattle.output.specs.declared.Number.{Number}
use Rattle.output.specs.declared.Transfers.{Transfers}
use Rattle.output.specs.declared.Counts.{Counts}
use Rattle.output.specs.declared.Line.{Line}
use Rattle.output.specs.declared.Line.TheVariants.{Plain, Ending}

-- ## Bytes at a place

-- n bytes from i in a and from j in b are there, and are the same
unfoldable pub alike_at : List ℕ → ℕ → List ℕ → ℕ → ℕ → Bool
alike_at a i b j n =
    both (both (leb (i + n) (length a)) (leb (j + n) (length b))) (all (λ k. eqb (get_or a (i + k) 0) (get_or b (j + k) 0)) n)

-- the word w stands at a place
unfoldable pub has_at : List ℕ → ℕ → List ℕ → Bool
has_at s at w = alike_at s at w 0 (length w)

-- the place after it, where it stands there
unfoldable pub after_at : List ℕ → ℕ → List ℕ → Option ℕ
after_at s at w = pick (has_at s at w) (Some (at + length w)) None

-- the word w stands at a place, and the line ends with it
unfoldable pub ends_at : List ℕ → ℕ → List ℕ → Bool
ends_at s at w = both (has_at s at w) (eqb (at + length w) (length s))

-- ## Numbers

-- a byte's value as a digit; 10 where it is none
unfoldable pub digit_of : ℕ → ℕ
digit_of b = pick (ltb b 48) 10 (pick (ltb 57 b) 10 (b - 48))

-- that of the byte at a place; 10 past the end
unfoldable pub digit_at : List ℕ → ℕ → ℕ
digit_at s at = pick (ltb at (length s)) (digit_of (get_or s at 0)) 10

-- a number and the place after it
abbrev pub counted : (value next : ℕ) → Number
counted v at = record { value = v; next = at }

-- the digits from a place on, at most f of them, after those that make v: the number, which stays at 65,536 once there, and the place after it
unfoldable pub digits_from : ℕ → List ℕ → ℕ → ℕ → Number
digits_from zero s at v = counted v at
digits_from (suc f) s at v = pick (eqb (digit_at s at) 10) (counted v at) (digits_from f s (at + 1) (min (v * 10 + digit_at s at) 65536))

-- a number at a place: a digit is there, and a zero is the only one
unfoldable pub number_at : List ℕ → ℕ → Option Number
number_at s at =
    pick (eqb (digit_at s at) 10) None
    (pick (both (eqb (digit_at s at) 0) (ltb (digit_at s (at + 1)) 10)) None (Some (digits_from (length s - at) s at 0)))

-- one of at most 65,535
unfoldable pub small_of : Option Number → Option Number
small_of (Some n) = pick (ltb n.value 65536) (Some n) None
small_of None = None

-- a number of at most 65,535, with which a line of that length ends
unfoldable pub last_of : ℕ → Option Number → Bool
last_of len (Some n) = both (ltb n.value 65536) (eqb n.next len)
last_of len None = false

-- a digit of V: 0 to 9, a to f
unfoldable pub hex_of : ℕ → Bool
hex_of b = either (both (leb 48 b) (leb b 57)) (both (leb 97 b) (leb b 102))

-- a value V at a place: 8 of them
unfoldable pub value_at : List ℕ → ℕ → Bool
value_at s at = both (leb (at + 8) (length s)) (all (λ k. hex_of (get_or s (at + k) 0)) 8)

-- ## A line

-- the word w stands at a place, and the line ends with a number after it
unfoldable pub closes_at : List ℕ → ℕ → List ℕ → Bool
closes_at s at w = both (has_at s at w) (last_of (length s) (number_at s (at + length w)))

-- `ok`, `wait`, `moved` or `no C`
unfoldable pub plain_at : List ℕ → ℕ → Bool
plain_at s at =
    either (either (ends_at s at ok_word) (ends_at s at wait_word)) (either (ends_at s at moved_word) (closes_at s at no_word))

-- `read V turns `
unfoldable pub reads_at : List ℕ → ℕ → Bool
reads_at s at = both (has_at s at read_word) (both (value_at s (at + 5)) (has_at s (at + 13) turns_word))

-- where the count of an ending that begins at a place stands; 0 where no ending begins there
unfoldable pub count_at : List ℕ → ℕ → ℕ
count_at s at = pick (either (has_at s at (done_word ++ turns_word)) (has_at s at (same_word ++ turns_word))) (at + 11) (pick (reads_at s at) (at + 20) 0)

-- what a number is; 0 where there is none
unfoldable pub number_is : Option Number → ℕ
number_is (Some n) = n.value
number_is None = 0

-- that number, where the word w stands at a place and the line ends with the number
unfoldable pub closing_at : List ℕ → ℕ → List ℕ → Option ℕ
closing_at s at w = pick (closes_at s at w) (Some (number_is (number_at s (at + length w)))) None

-- I, then ` out O`
unfoldable pub out_of : List ℕ → Option Number → Option Transfers
out_of s (Some n) = pick (both (ltb n.value 65536) (closes_at s n.next out_word)) (Some (record { fetched = n.value; back = number_is (number_at s (n.next + 5)) })) None
out_of s None = None

-- ` in I out O`
unfoldable pub transfers_at : List ℕ → ℕ → Option Transfers
transfers_at s at = pick (has_at s at in_word) (out_of s (number_at s (at + 4))) None

-- transfers that an ending tells
abbrev pub told : Option Transfers → Option (Option Transfers)
told (Some t) = Some (Some t)
told None = None

-- what an ending tells of its transfers after the count: nothing (Some None), ` in I out O`, or what replay never prints (None)
unfoldable pub rest_at : List ℕ → ℕ → Option (Option Transfers)
rest_at s at = pick (eqb at (length s)) (Some None) (told (transfers_at s at))

-- what an ending carries, without transfers and with them
abbrev pub bare : ℕ → Counts
bare k = record { turns = k; transfers = None }

abbrev pub counts : (k i o : ℕ) → Counts
counts k i o = record { turns = k; transfers = Some (record { fetched = i; back = o }) }

-- whether an ending tells transfers, and what they are: 0 and 0 where it tells none
abbrev pub tells : Counts → Bool
tells c = is_some c.transfers

abbrev pub shown : Option Transfers → Transfers
shown (Some t) = t
shown None = record { fetched = 0; back = 0 }

-- an ending whose count k stands at a place, with what follows it
unfoldable pub ending_with : (at k next : ℕ) → Option (Option Transfers) → Option Line
ending_with at k next (Some t) = Some (Ending (record { at = at; counts = record { turns = k; transfers = t }; next = next }))
ending_with at k next None = None

-- an ending whose count stands at a place
unfoldable pub ending_of : List ℕ → ℕ → Option Number → Option Line
ending_of s at (Some n) = pick (ltb n.value 65536) (ending_with at n.value n.next (rest_at s n.next)) None
ending_of s at None = None

-- what stands after the line number and its space
unfoldable pub answer_at : List ℕ → ℕ → Option Line
answer_at s at =
    pick (plain_at s at) (Some Plain) (pick (eqb (count_at s at) 0) None (ending_of s (count_at s at) (number_at s (count_at s at))))

-- the line number, a space and an answer
unfoldable pub after_number : List ℕ → Option Number → Option Line
after_number s (Some n) = pick (has_at s n.next space) (answer_at s (n.next + 1)) None
after_number s None = None

-- a line: no line of replay (None), one that is no ending (Plain), or an ending: the place of its count, what it carries, the place after the count
unfoldable pub line_of : List ℕ → Option Line
line_of s = after_number s (number_at s 0)

-- whether it is a line of replay
unfoldable pub is_line : Option Line → Bool
is_line l = is_some l

-- ## A line that replay prints

-- an ending whose count k stands at a place, and its transfers after it
abbrev pub ending_at : ℕ → ℕ → Sums → Line
ending_at at k t = Ending (record { at = at; counts = counts k t.fetched t.back; next = at + places k })

-- what is read of line n of replay's output: after the number and a space, `done turns ` and `same turns ` are 11 bytes, `read V turns ` is 20
unfoldable pub line_for : ℕ → Said → Sums → Line
line_for n ok t = Plain
line_for n wait t = Plain
line_for n moved t = Plain
line_for n (read v k) t = ending_at (places n + 1 + 20) k t
line_for n (done k) t = ending_at (places n + 1 + 11) k t
line_for n (same k) t = ending_at (places n + 1 + 11) k t
line_for n (no c) t = Plain
