-- DEMAND 2. "Start from a fresh or opened tag memory, let nobody else write to it or to the cache's line bytes, and pass on each state as it came back. Then, in any order of
-- issues, steps and drains, the answers are those of a flat row of tags, at first as that memory reads, on which the accesses are done whole, one after another, each at a moment
-- between its issue and its end. Once all trackers are idle and the cache is drained, the memory read by the published two-level map rule shows that row."
use Rattle.std.specs.Prelude.{◌≡◌, List, [], ◌∷◌, ◌++◌, false, ℕ, ◌≤◌, ◌<◌, length}
use Rattle.tracker.specs.declared.Access.{Access}
use Rattle.geometry.specs.TagMemory.{groups}
use Rattle.memory.specs.PlainReading.{plain_reading}
use Rattle.tracker.specs.declared.Answer.{Answer}
use Rattle.rules.specs.Run.{Call}
use Rattle.cache.specs.declared.State.{State}
use Rattle.session.specs.Session.{Starts, Session, said}
use Rattle.demands.specs.Event.{Told, Event, begins, ends, drained, events, event_at, TurnOf, busy_after, AtRest}
use Rattle.demands.specs.Row.{Row, told, row_at}

-- An access that took effect: its tracker, itself as its issue named it, and the numbers of the calls where it was issued, took effect, and ended, if it has.
pub data When : Type 0 where
  not_yet : When
  at : (j : ℕ) → When

pub record Entry : Type 0 where
  pub tracker : ℕ
  pub access : Access
  pub issued : ℕ
  pub moment : ℕ
  pub ending : When

-- the accesses that took effect, in the order in which they did: how many, and each
pub record Log : Type 0 where
  pub count : ℕ
  pub entry : ℕ → Entry

-- the row "at first as that memory reads", after the first p of them
abbrev pub row_of : (n : ℕ) (memory : List ℕ) → Log → ℕ → Row
row_of n memory log = row_at (plain_reading n memory) (λ q. (log.entry q).access)

-- What is claimed of a run with these events, of n leaves, from one memory to the other, and of its log.
pub record OneRow (n : ℕ) (memory : List ℕ) (es : List Event) (memory' : List ℕ) (log : Log) : Type 0 where
  -- each was issued as it stands there, and took effect later, at a turn of its own tracker, one after another
  pub as-issued : (p : ℕ) → p < log.count → event_at es (log.entry p).issued ≡ begins (log.entry p).tracker (log.entry p).access
  pub after-issue : (p : ℕ) → p < log.count → (log.entry p).issued < (log.entry p).moment
  pub at-a-turn : (p : ℕ) → p < log.count → TurnOf (log.entry p).tracker (event_at es (log.entry p).moment)
  pub one_by_one : (p q : ℕ) → p < q → q < log.count → (log.entry p).moment < (log.entry q).moment
  -- it ends no sooner, and is told what the row gave when it was done whole
  pub before-end : (p j : ℕ) → p < log.count → (log.entry p).ending ≡ at j → (log.entry p).moment ≤ j
  pub answered : (p j : ℕ) → p < log.count → (log.entry p).ending ≡ at j
      → (turns : ℕ) × (event_at es j ≡ ends (log.entry p).tracker (told (row_of n memory log p) (log.entry p).access) turns)
  -- each ending is the end of exactly one
  pub each-end : (j x : ℕ) (b : Told) (turns : ℕ) → event_at es j ≡ ends x b turns → (p : ℕ) × (p < log.count) × ((log.entry p).ending ≡ at j)
  pub one_end : (p q j : ℕ) → p < log.count → q < log.count → (log.entry p).ending ≡ at j → (log.entry q).ending ≡ at j → p ≡ q
  -- each accepted issue is that of at most one; of exactly one, which has ended, once its tracker is idle again
  pub one-issue : (p q : ℕ) → p < log.count → q < log.count → (log.entry p).issued ≡ (log.entry q).issued → p ≡ q
  pub each-issue : (i x : ℕ) (a : Access) → event_at es i ≡ begins x a → busy_after es x ≡ false
      → (p j : ℕ) × (p < log.count) × ((log.entry p).issued ≡ i) × ((log.entry p).ending ≡ at j)
  -- after an accepted drain it is at rest; at rest, the published plain reading shows the row
  pub after-drain : (before : List Event) → es ≡ before ++ (drained ∷ []) → AtRest es
  pub at_rest : AtRest es → (g : ℕ) → g < groups n → plain_reading n memory' g ≡ row_of n memory log log.count g

-- an entry with another end
abbrev pub with_end : Entry → When → Entry
with_end e w = record { tracker = e.tracker; access = e.access; issued = e.issued; moment = e.moment; ending = w }

-- The log of a longer run extends that of its first calls: what took effect in these stays, an end too, and the others came later.
pub record Extends (calls : ℕ) (log log' : Log) : Type 0 where
  pub longer : log.count ≤ log'.count
  pub same : (p : ℕ) → p < log.count → log'.entry p ≡ with_end (log.entry p) (log'.entry p).ending
  pub ended : (p j : ℕ) → p < log.count → (log.entry p).ending ≡ at j → (log'.entry p).ending ≡ at j
  pub since : (p : ℕ) → log.count ≤ p → p < log'.count → calls ≤ (log'.entry p).moment

-- Of every session of the code that begins with an accepted fresh or open: its log is a function of its calls.
abbrev pub Demand2 : Type 0
Demand2 = (t : ℕ) (s : State) (b m : List ℕ) → Starts t s b m → (log : List Call → Log)
    × ((s' : State) (b' m' : List ℕ) (cs : List Call) (answers : List Answer) → Session s b m cs answers s' b' m' → OneRow s.shape.n m (events cs (said answers)) m' (log cs))
    × ((s' : State) (b' m' : List ℕ) (cs ds : List Call) (answers : List Answer) → Session s b m (cs ++ ds) answers s' b' m' → Extends (length cs) (log cs) (log (cs ++ ds)))
