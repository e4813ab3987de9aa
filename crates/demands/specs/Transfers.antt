-- 02 E4: "An ending carries the two sums, equal to the copies its own steps made; together at most 4, and at most 3 for a write that ends by setting a bit."; with a third level "6 and 5". What they count is
-- defined from the copies that each step makes (rules, `copies`), and these by what a step does to lines, bytes and memory.
use Rattle.std.specs.Prelude.{◌≡◌, false, List, [], ◌∷◌, ◌++◌, ℕ, ◌+◌, ◌-◌, ◌*◌, ◌≤◌, length}
use Rattle.geometry.specs.declared.Shape.{Shape}
use Rattle.geometry.specs.Shape.{top_of}
use Rattle.memory.specs.True.{block_at}
use Rattle.tracker.specs.declared.Phase.TheVariants.{Set}
use Rattle.tracker.specs.declared.Answer.{Answer}
use Rattle.tracker.specs.declared.Transfers.{Transfers}
use Rattle.tracker.specs.declared.Tracker.{Tracker}
use Rattle.tracker.specs.Tracker.{is_idle}
use Rattle.tracker.specs.Answer.{ok}
use Rattle.line.specs.Find.{line_of}
use Rattle.rules.specs.State.{tracker_at}
use Rattle.rules.specs.Copies.{Copy, fetches, backs}
use Rattle.rules.specs.Place.{line_bytes, bring_in, drain_copies}
use Rattle.rules.specs.Copied.{copies, backed, Each, most_at}
use Rattle.rules.specs.Calls.{Out}
use Rattle.rules.specs.Run.{Call, steps, drains, Kept, kept, rows_of, does}
use Rattle.cache.specs.declared.State.{State}
use Rattle.cache.specs.declared.Out as cache
use Rattle.cache.specs.Seen.{did}
use Rattle.session.specs.Session.{Starts, Met, Session, kept_of}
use Rattle.circle.specs.Order.{becomes}
use Rattle.circle.specs.LastTurn.{levels_of}
use Rattle.demands.specs.Event.{Event, begins, goes_on, ends, drained, refused, event, TurnOf}
use Rattle.demands.specs.Demand3.{EndOf}

-- the copies of a step of tracker x
abbrev pub step_copies : Kept → ℕ → List Copy
step_copies k x = copies k.state.shape (tracker_at k.state.trackers x) (rows_of k)

-- The copies made for each tracker's access: none where it is issued, and then those of each step that is given to it.
abbrev pub made_by : Kept → Event → (ℕ → List Copy) → ℕ → List Copy
made_by k (begins x a) made = becomes made x []
made_by k (goes_on x) made = becomes made x (made x ++ step_copies k x)
made_by k (ends x b turns) made = becomes made x (made x ++ step_copies k x)
made_by k drained made = made
made_by k refused made = made

unfoldable pub made_from : (ℕ → List Copy) → Kept → List Call → ℕ → List Copy
made_from made k [] = made
made_from made k (c ∷ cs) = made_from (made_by k (event c (does k c).said) made) (kept (does k c)) cs

abbrev pub made : Kept → List Call → ℕ → List Copy
made = made_from (λ x. [])

-- two sums are how many were fetched and how many were written back
pub record Sums (m : Transfers) (cs : List Copy) : Type 0 where
  pub fetched : m.fetched ≡ length (fetches cs)
  pub back : m.back ≡ length (backs cs)

-- what a call did, but for the memory that it left
abbrev pub but_memory : Out → Out
but_memory o = record { said = o.said; state = o.state; bytes = o.bytes; memory = []; transfers = o.transfers }

-- the same with another memory
abbrev pub over : Kept → List ℕ → Kept
over k m = record { state = k.state; bytes = k.bytes; memory = m }

-- block b was in no line; once it is brought in, its line has it as the memory has it
pub record Fetched (k : Kept) (b : ℕ) : Type 0 where
  pub in-no-line : k.state.shape.l ≤ line_of k.state.lines k.state.shape.l b
  pub as-memory : (let o = (bring_in k.state.shape b (rows_of k)).rows in line_bytes o.bytes (line_of o.lines k.state.shape.l b)) ≡ block_at k.memory b

-- What is claimed of a busy tracker, for whose access these copies were made: its sums are theirs, and they are within the device's table of phases.
pub record OfBusy (shape : Shape) (t : Tracker) (cs : List Copy) : Type 0 where
  pub sums : Sums t.transfers cs
  pub within : t.transfers.fetched + t.transfers.back ≤ most_at (top_of shape) t.phase

-- Of a step of tracker x that was not refused: it was given k, these copies were made before for its access, and it did o.
pub record OfStep (k : Kept) (x : ℕ) (before : List Copy) (o : Out) : Type 0 where
  -- An ending's sums are the copies that the steps given to its access made, this step's with them; together at most two for each level, and one less where it sets a bit.
  pub sums : EndOf x (event (steps x) o.said) → Sums o.transfers (before ++ step_copies k x)
  pub most : EndOf x (event (steps x) o.said) → o.transfers.fetched + o.transfers.back ≤ 2 * levels_of k.state.shape
  pub most-set : (d : ℕ) → EndOf x (event (steps x) o.said) → (tracker_at k.state.trackers x).phase ≡ Set d → o.transfers.fetched + o.transfers.back ≤ 2 * levels_of k.state.shape - 1
  -- Its write-backs are all that it writes to the memory.
  pub writes : o.memory ≡ backed k.state.shape.l (rows_of k) k.memory (backs (step_copies k x))
  -- Its fetches are all that it reads of the memory: with any other memory that has these blocks it does the same, with the same copies.
  pub fetched : Each (Fetched k) (fetches (step_copies k x))
  pub reads : (m : List ℕ) → length m ≡ length k.memory → Each (λ b. block_at m b ≡ block_at k.memory b) (fetches (step_copies k x))
      → (but_memory (does (over k m) (steps x)) ≡ but_memory o) × (step_copies (over k m) x ≡ step_copies k x)

-- Of an accepted drain: its sums are its write-backs, which are all that it writes.
pub record OfDrain (k : Kept) (o : Out) : Type 0 where
  pub sums : Sums o.transfers (drain_copies k.state.shape.l (rows_of k))
  pub no-fetch : fetches (drain_copies k.state.shape.l (rows_of k)) ≡ []
  pub writes : o.memory ≡ backed k.state.shape.l (rows_of k) k.memory (backs (drain_copies k.state.shape.l (rows_of k)))

-- Of every session of the code that begins with an accepted fresh or open, and of the call that comes next.
pub record OfSession (before : ℕ → List Copy) (s : State) (b m : List ℕ) : Type 0 where
  -- 01's device has two levels: the two bounds are 4 and 3
  pub levels : levels_of s.shape ≡ 2
  pub busy : (x : ℕ) → is_idle (tracker_at s.trackers x) ≡ false → OfBusy s.shape (tracker_at s.trackers x) (before x)
  pub steps : (x : ℕ) (r : cache.Out) (b' m' : List ℕ) → Met s b m (steps x) r b' m' → TurnOf x (event (steps x) (did r b' m').said) → OfStep (kept_of s b m) x (before x) (did r b' m')
  pub drains : (r : cache.Out) (m' : List ℕ) → Met s b m drains r b m' → (did r b m').said ≡ ok → OfDrain (kept_of s b m) (did r b m')

abbrev pub TransfersAreCopies : Type 0
TransfersAreCopies = (t : ℕ) (s s' : State) (b m b' m' : List ℕ) (cs : List Call) (answers : List Answer) → Starts t s b m → Session s b m cs answers s' b' m'
    → OfSession (made (kept_of s b m) cs) s' b' m'
