-- 02, E13: what is to be shown over any sequence of calls.
use Rattle.std.specs.Prelude.{◌≡◌, ℕ, ◌≤◌, ◌<◌, eqb, ltb, length}
use mathlib.Core.List.{List, [], ◌∷◌, Memᴰ}
use Rattle.laws.specs.Choice.{pick}
use Rattle.geometry.specs.TagMemory.{groups}
use Rattle.prediction.specs.Runs.{run_of, runs, group_in, run_bit}
use Rattle.prediction.specs.Calls.{Lent, Done, lent, done, refused, fresh, read, write, synchronise}

-- a call on the same tags and bits; a written value is a 32-bit number
pub data Call : Type 0 where
  freshens : Call
  reads : (g : ℕ) → Call
  writes : (g v : ℕ) → v < 4294967296 → Call
  synchronises : (r : ℕ) → Call

abbrev pub does : ℕ → ℕ → Lent → Call → Done
does n c s freshens = fresh n c s
does n c s (reads g) = done (read n c s g) s
does n c s (writes g v small) = write n c s g v
does n c s (synchronises r) = synchronise n c s r

-- each call of a sequence with its answer, and what is lent after the last
unfoldable pub told : ℕ → ℕ → Lent → List Call → List (Call × ℕ)
told n c s [] = []
told n c s (call ∷ calls) = (call, (does n c s call).answer) ∷ told n c (does n c s call).lent calls

unfoldable pub after : ℕ → ℕ → Lent → List Call → Lent
after n c s [] = s
after n c s (call ∷ calls) = after n c (does n c s call).lent calls

-- "the flat row": a value for each group, and no bits
abbrev pub Row : Type 0
Row = ℕ → ℕ

abbrev pub zeros : Row
zeros g = 0

abbrev pub put : Row → ℕ → ℕ → Row
put row g v h = pick (eqb h g) v (row h)

abbrev pub row_after : ℕ → Row → Call → Row
row_after n row freshens = zeros
row_after n row (reads g) = row
row_after n row (writes g v small) = pick (ltb g (groups n)) (put row g v) row
row_after n row (synchronises r) = row

-- what a call on the flat row answers: a read the group's value; each of the others 0; a group or a run out of range 6
abbrev pub flat_answer : ℕ → ℕ → Row → Call → ℕ
flat_answer n c row freshens = 0
flat_answer n c row (reads g) = pick (ltb g (groups n)) (row g) (refused 6)
flat_answer n c row (writes g v small) = pick (ltb g (groups n)) 0 (refused 6)
flat_answer n c row (synchronises r) = pick (ltb r (runs n c)) 0 (refused 6)

unfoldable pub flat_told : ℕ → ℕ → Row → List Call → List (Call × ℕ)
flat_told n c row [] = []
flat_told n c row (call ∷ calls) = (call, flat_answer n c row call) ∷ flat_told n c (row_after n row call) calls

-- "Show that reads equal the flat row over any sequence, that a non-zero group never lies under bit 0": of the calls after an accepted fresh
pub record Flatly (n c : ℕ) (s : Lent) (calls : List Call) : Type 0 where
  pub answers : told n c s calls ≡ flat_told n c zeros calls
  pub under : (g : ℕ) → g < groups n → run_bit (after n c s calls).bits (run_of c g) ≡ 0 → group_in (after n c s calls).tags g ≡ 0

-- "once all runs are synchronised, with no write since the first": no write of the sequence is accepted, and of each run a synchronising is
pub record Synchronised (n c : ℕ) (s : Lent) (calls : List Call) : Type 0 where
  pub unwritten : (g v : ℕ) (small : v < 4294967296) → Memᴰ (writes g v small, 0) (told n c s calls) → ⊥
  pub every : (r : ℕ) → r < runs n c → Memᴰ (synchronises r, 0) (told n c s calls)

-- "every bit 1 has one under it"
abbrev pub OneUnder : ℕ → ℕ → Lent → ℕ → Type 0
OneUnder n c s r = (g : ℕ) × (g < groups n) × (run_of c g ≡ r) × (group_in s.tags g ≡ 0 → ⊥)

abbrev pub Tight : ℕ → ℕ → Lent → Type 0
Tight n c s = (r : ℕ) → r < runs n c → run_bit s.bits r ≡ 1 → OneUnder n c s r

-- "without touching the tags": the answer is the same for any tags of the length
abbrev pub Untouched : ℕ → ℕ → List ℕ → ℕ → Type 0
Untouched n c bits g = (tags others : List ℕ) → length tags ≡ length others → read n c (lent tags bits) g ≡ read n c (lent others bits) g

-- bits past the last run's stay as they are in a write and in synchronising
pub record SpareStay (n c : ℕ) (s : Lent) : Type 0 where
  pub written : (g v r : ℕ) → runs n c ≤ r → run_bit (write n c s g v).lent.bits r ≡ run_bit s.bits r
  pub synchronised : (q r : ℕ) → runs n c ≤ r → run_bit (synchronise n c s q).lent.bits r ≡ run_bit s.bits r
