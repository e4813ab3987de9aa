-- The sheet's numbers over two lists of lines, the record's and the replay's, and the tally that takes one place after the other.
-- No sum can wrap: each number stays at 2^64 - 1 once there.
use Rattle.std.specs.Prelude.{ℕ, zero, suc, ◌+◌, min, max, List, [], length, get_or, ltb, eqb}
use Rattle.laws.specs.Choice.{pick, both, one}
use Rattle.laws.specs.Scan.{first, count}
use Rattle.laws.specs.Count.{sum, largest}
use Rattle.measure.specs.Pair.{pair_of, one_pair, is_ending, recorded, replayed, drift_of}
use Rattle.output.specs.Line.{shown}
use Rattle.output.specs.declared.Counts.{Counts}
use Rattle.measure.specs.declared.Pair.{Pair}
use Rattle.measure.specs.declared.Blocks.{Blocks}
use Rattle.measure.specs.declared.Tally.{Tally}

-- a number as a u64 holds it: it stays at 2^64 - 1 once there
abbrev pub stay : ℕ → ℕ
stay x = min x 18446744073709551615

-- ## Two lists of lines

-- how many places there are: those of the longer list
unfoldable pub places : List (List ℕ) → List (List ℕ) → ℕ
places xs ys = max (length xs) (length ys)

-- the pair at a place, counted from 0
unfoldable pub pair_at : List (List ℕ) → List (List ℕ) → ℕ → Pair
pair_at xs ys k = pick (both (ltb k (length xs)) (ltb k (length ys))) (pair_of (get_or xs k []) (get_or ys k [])) one_pair

-- ## The numbers, over the pairs at the places below n

-- endings E: of the same kind and value in both
unfoldable pub endings : (ℕ → Pair) → ℕ → ℕ
endings pair n = count (λ k. is_ending (pair k)) n

-- drifted D: of those, with another count
unfoldable pub drifted : (ℕ → Pair) → ℕ → ℕ
drifted pair n = count (λ k. ltb 0 (drift_of (pair k))) n

-- farthest F: the largest difference, up or down
unfoldable pub farthest : (ℕ → Pair) → ℕ → ℕ
farthest pair n = largest (λ k. drift_of (pair k)) n

-- the first line that has it, counted from 1; 0 where F is 0
unfoldable pub farthest_line : (ℕ → Pair) → ℕ → ℕ
farthest_line pair n = pick (eqb (farthest pair n) 0) 0 (first (λ k. eqb (drift_of (pair k)) (farthest pair n)) n + 1)

-- total S: the sum of the differences, up or down
unfoldable pub total : (ℕ → Pair) → ℕ → ℕ
total pair n = sum (λ k. drift_of (pair k)) n

-- changed C: lines that differ in any other way, or that only one has
unfoldable pub changed : (ℕ → Pair) → ℕ → ℕ
changed pair n = count (λ k. (pair k).changed) n

-- blocks fetched and blocks written back, of what each place carries
unfoldable pub blocks : (ℕ → Counts) → ℕ → Blocks
blocks carried n = record { fetched = stay (sum (λ k. (shown (carried k).transfers).fetched) n); back = stay (sum (λ k. (shown (carried k).transfers).back) n) }

-- the sheet: the number of places, the five, and the blocks of the record's endings and of the replay's
unfoldable pub sheet : (ℕ → Pair) → ℕ → Tally
sheet pair n =
    record {
      lines = stay n;
      endings = stay (endings pair n);
      drifted = stay (drifted pair n);
      farthest = farthest pair n;
      line = stay (farthest_line pair n);
      total = stay (total pair n);
      changed = stay (changed pair n);
      recorded = blocks (λ k. recorded (pair k)) n;
      replayed = blocks (λ k. replayed (pair k)) n;
    }

-- of a record and a replay, each the list of its lines
unfoldable pub sheet_of : List (List ℕ) → List (List ℕ) → Tally
sheet_of xs ys = sheet (pair_at xs ys) (places xs ys)

-- ## The tally

abbrev pub no_blocks : Blocks
no_blocks = record { fetched = 0; back = 0 }

abbrev pub no_tally : Tally
no_tally = record { lines = 0; endings = 0; drifted = 0; farthest = 0; line = 0; total = 0; changed = 0; recorded = no_blocks; replayed = no_blocks }

-- those of one more ending
unfoldable pub plus_blocks : Blocks → Counts → Blocks
plus_blocks b c = record { fetched = stay (b.fetched + (shown c.transfers).fetched); back = stay (b.back + (shown c.transfers).back) }

-- one more place
unfoldable pub added : Tally → Pair → Tally
added t p =
    record {
      lines = stay (t.lines + 1);
      endings = stay (t.endings + one (is_ending p));
      drifted = stay (t.drifted + one (ltb 0 (drift_of p)));
      farthest = max t.farthest (drift_of p);
      line = pick (ltb t.farthest (drift_of p)) (stay (t.lines + 1)) t.line;
      total = stay (t.total + drift_of p);
      changed = stay (t.changed + one p.changed);
      recorded = plus_blocks t.recorded (recorded p);
      replayed = plus_blocks t.replayed (replayed p);
    }

-- one place after the other, n of them
unfoldable pub tallied : (ℕ → Pair) → ℕ → Tally
tallied pair zero = no_tally
tallied pair (suc n) = added (tallied pair n) (pair n)
