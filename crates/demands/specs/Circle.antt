-- Demand 3's runs: "give T trackers one turn each in a fixed circle, passing over idle ones, and issue new work between turns as you like".
use Rattle.std.specs.Prelude.{◌≡◌, Bool, true, false, List, [], ◌∷◌, ℕ, suc, ◌<◌}
use Rattle.tracker.specs.declared.Answer.{Answer}
use Rattle.rules.specs.Run.{Call}
use Rattle.cache.specs.declared.State.{State}
use Rattle.session.specs.Session.{Starts, Session, said}
use Rattle.circle.specs.Order.{next, Order, becomes}
use Rattle.demands.specs.Event.{Event, begins, goes_on, ends, drained, refused, events, TurnOf, busy_after}

-- What a caller notes of a tracker: nothing was issued to it under the circle, and it is busy or not; it is busy with an access of this kind, which was given so many
-- turns; or it is idle again, that access having been answered at the turn `given`, and the answer says `turns`.
pub data Note : Type 0 where
  other : (is_busy : Bool) → Note
  busy : (write bottom : Bool) (given : ℕ) → Note
  answered : (write bottom : Bool) (given turns : ℕ) → Note

abbrev pub is_busy : Note → Bool
is_busy (other b) = b
is_busy (busy write bottom given) = true
is_busy (answered write bottom given turns) = false

-- after a turn of its tracker, in which the access went on, or ended with an answer that says `turns`
abbrev pub went_on : Note → Note
went_on (other b) = other b
went_on (busy write bottom given) = busy write bottom (suc given)
went_on (answered write bottom given turns) = answered write bottom given turns

abbrev pub ended : ℕ → Note → Note
ended turns (other b) = other false
ended turns (busy write bottom given) = answered write bottom (suc given) turns
ended turns (answered write bottom given said) = answered write bottom given said

-- The notes after an event. An access just issued was given no turn; its kind is the issue's. A refused call is no turn.
abbrev pub noted : Event → (ℕ → Note) → ℕ → Note
noted (begins x a) notes = becomes notes x (busy a.write a.bottom 0)
noted (goes_on x) notes = becomes notes x (went_on (notes x))
noted (ends x b turns) notes = becomes notes x (ended turns (notes x))
noted drained notes = notes
noted refused notes = notes

-- it gives nobody a turn
abbrev pub NoTurn : Event → Type 0
NoTurn (begins x a) = Unit {0}
NoTurn (goes_on x) = ⊥
NoTurn (ends x b turns) = ⊥
NoTurn drained = Unit {0}
NoTurn refused = Unit {0}

-- These events take the circle from place i over some number of places to place j, and the notes with it.
pub data Goes (t : ℕ) (o : Order t) : (i : ℕ) (notes : ℕ → Note) → List Event → (places j : ℕ) (notes' : ℕ → Note) → Type 0 where
  stays : {i : ℕ} {notes : ℕ → Note} → Goes t o i notes [] 0 i notes
  -- the tracker at the place is given a turn
  turned : {i j n : ℕ} {notes notes' : ℕ → Note} {es : List Event} (e : Event) → TurnOf (o.tracker i) e
      → Goes t o (next t i) (noted e notes) es n j notes' → Goes t o i notes (e ∷ es) (suc n) j notes'
  -- it is idle: it is passed over
  passed : {i j n : ℕ} {notes notes' : ℕ → Note} {es : List Event} → is_busy (notes (o.tracker i)) ≡ false
      → Goes t o (next t i) notes es n j notes' → Goes t o i notes es (suc n) j notes'
  -- between turns: anything that is no turn
  between : {i j n : ℕ} {notes notes' : ℕ → Note} {es : List Event} (e : Event) → NoTurn e
      → Goes t o i (noted e notes) es n j notes' → Goes t o i notes (e ∷ es) n j notes'

-- "From the same start and under the same premises": a session of the code from an accepted fresh or open of T trackers. At any time the circle begins, in any order of
-- the trackers and at any place; it has come to the state s, the line bytes b, the memory m, the place i and these notes.
pub data UnderTheCircle (t : ℕ) (o : Order t) : State → (b m : List ℕ) (i : ℕ) (notes : ℕ → Note) → Type 0 where
  under : {s0 s1 s : State} {b0 m0 b1 m1 b m : List ℕ} {before cs : List Call} {answers0 answers : List Answer} {i0 places i : ℕ} {notes : ℕ → Note}
      → Starts t s0 b0 m0 → Session s0 b0 m0 before answers0 s1 b1 m1 → i0 < t → Session s1 b1 m1 cs answers s b m
      → Goes t o i0 (λ x. other (busy_after (events before (said answers0)) x)) (events cs (said answers)) places i notes → UnderTheCircle t o s b m i notes
