-- One place of the record and of the replay compared: is it an ending of the same kind and value in both, what does it carry in each, and does it differ in any other way?
use Rattle.std.specs.Prelude.{ℕ, ◌+◌, ◌-◌, List, Bool, true, not, length, eqb, Option, Some, None, is_some}
use Rattle.laws.specs.Choice.{pick, both}
use Rattle.output.specs.Line.{alike_at, line_of, bare, tells, shown}
use Rattle.output.specs.declared.Counts.{Counts}
use Rattle.output.specs.declared.Transfers.{Transfers}
use Rattle.output.specs.declared.Line.{Line}
use Rattle.output.specs.declared.Line.TheVariants.{Plain, Ending}
use Rattle.measure.specs.declared.Carried.{Carried}
use Rattle.measure.specs.declared.Pair.{Pair}

-- a from i on and b from j on are the same bytes
unfoldable pub same_from : List ℕ → ℕ → List ℕ → ℕ → Bool
same_from a i b j = both (eqb (length a - i) (length b - j)) (alike_at a i b j (length a - i))

-- the two lines are the same bytes
unfoldable pub same_bytes : List ℕ → List ℕ → Bool
same_bytes a b = same_from a 0 b 0

-- what is carried where nothing is
abbrev pub no_counts : Counts
no_counts = bare 0

-- whether a place is an ending of the same kind and value in both, and what it carries in the record and in the replay
abbrev pub is_ending : Pair → Bool
is_ending p = is_some p.ending

abbrev pub carried : Option Carried → Carried
carried (Some e) = e
carried None = record { recorded = no_counts; replayed = no_counts }

abbrev pub recorded : Pair → Counts
recorded p = (carried p.ending).recorded

abbrev pub replayed : Pair → Counts
replayed p = (carried p.ending).replayed

-- no ending of the same kind and value in both: it is changed unless the bytes are the same, lines of replay or not
unfoldable pub other_pair : List ℕ → List ℕ → Pair
other_pair a b = record { ending = None; changed = not (same_bytes a b) }

-- an ending of the same kind and value in both, which carries k and l: with the same turn count it is changed unless the bytes are the same,
-- with another unless the bytes after the count are
unfoldable pub ending_pair : List ℕ → Counts → ℕ → List ℕ → Counts → ℕ → Pair
ending_pair a k i b l j =
    record {
      ending = Some (record { recorded = k; replayed = l });
      changed = not (pick (eqb k.turns l.turns) (same_bytes a b) (same_from a i b j));
    }

-- the record's line is an ending that carries k, its turn count from `at` to i. The replay's is of the same kind and value exactly if all bytes before its count are the same:
-- line number, kind, value.
unfoldable pub pair_ending : List ℕ → ℕ → Counts → ℕ → List ℕ → Option Line → Pair
pair_ending a at k i b (Some (Ending y)) =
    pick (both (eqb at y.at) (alike_at a 0 b 0 at)) (ending_pair a k i b y.counts y.next) (other_pair a b)
pair_ending a at k i b (Some Plain) = other_pair a b
pair_ending a at k i b None = other_pair a b

unfoldable pub pair_lines : List ℕ → Option Line → List ℕ → Option Line → Pair
pair_lines a (Some (Ending x)) b y = pair_ending a x.at x.counts x.next b y
pair_lines a (Some Plain) b y = other_pair a b
pair_lines a None b y = other_pair a b

-- a line of the record and the line at the same place of the replay
unfoldable pub pair_of : List ℕ → List ℕ → Pair
pair_of a b = pair_lines a (line_of a) b (line_of b)

-- a place where only one of the two has a line
abbrev pub one_pair : Pair
one_pair = record { ending = None; changed = true }

-- how far a pair drifts: the difference of its turn counts, up or down; 0 where it is no ending of the same kind and value
unfoldable pub drift_of : Pair → ℕ
drift_of p = pick (is_ending p) (((recorded p).turns - (replayed p).turns) + ((replayed p).turns - (recorded p).turns)) 0

-- its transfers differ: both tell them, and blocks fetched or blocks written back are others
unfoldable pub other_transfers : Pair → Bool
other_transfers p =
    both (both (tells (recorded p)) (tells (replayed p)))
    (not (both (eqb (shown (recorded p).transfers).fetched (shown (replayed p).transfers).fetched) (eqb (shown (recorded p).transfers).back (shown (replayed p).transfers).back)))

-- where they do, what the record and the replay tell
unfoldable pub differing : Pair → Option (Transfers × Transfers)
differing p = pick (other_transfers p) (Some (shown (recorded p).transfers, shown (replayed p).transfers)) None
