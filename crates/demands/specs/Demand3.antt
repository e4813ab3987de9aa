-- DEMAND 3, the longest wait: under the circle an access is answered by its turn 2T (top-down read), 2T + 1 (top-down write, bottom-up read) or 2T + 2 (bottom-up write).
-- "The turn count in the answer is the number of turns that access was given, up to 65,535."
use Rattle.std.specs.Prelude.{◌≡◌, ◌⊎◌, Bool, true, false, List, [], ◌∷◌, ℕ, ◌*◌, ◌≤◌, ◌<◌, min}
use Rattle.geometry.specs.declared.Shape.{Shape}
use Rattle.tracker.specs.declared.Answer.{Answer}
use Rattle.tracker.specs.Answer.{says}
use Rattle.rules.specs.Run.{Call, steps}
use Rattle.cache.specs.declared.State.{State}
use Rattle.cache.specs.declared.Out.{Out}
use Rattle.session.specs.Session.{Starts, Met, Session, said}
use Rattle.circle.specs.Order.{Order}
use Rattle.circle.specs.LastTurn.{last_turn}
use Rattle.demands.specs.Event.{Event, begins, goes_on, ends, drained, refused, event, events, TurnOf}
use Rattle.demands.specs.Circle.{Note, other, busy, answered, is_busy, noted, Goes, UnderTheCircle}

-- the answer says the turns that the access was given
abbrev pub Counts : Note → Type 0
Counts (other b) = Unit {0}
Counts (busy write bottom given) = Unit {0}
Counts (answered write bottom given turns) = turns ≡ min given 65535

-- it was answered by its last turn, or was not yet given that turn
abbrev pub InTime : (last : (write bottom : Bool) → ℕ) → Note → Type 0
InTime last (other b) = Unit {0}
InTime last (busy write bottom given) = given < last write bottom
InTime last (answered write bottom given turns) = given ≤ last write bottom

-- the event ends the access of tracker x
abbrev pub EndOf : ℕ → Event → Type 0
EndOf x (begins y a) = ⊥
EndOf x (goes_on y) = ⊥
EndOf x (ends y b turns) = y ≡ x
EndOf x drained = ⊥
EndOf x refused = ⊥

-- there is such an event among these
abbrev pub Among : (Event → Type 0) → List Event → Type 0
Among P [] = ⊥
Among P (e ∷ es) = P e ⊎ Among P es

-- What is claimed where a circle has come to; `last` is the last turn of an access of each kind.
pub record Waits (t : ℕ) (last : (write bottom : Bool) → ℕ) (o : Order t) (s : State) (b m : List ℕ) (i : ℕ) (notes : ℕ → Note) : Type 0 where
  pub in-time : (x : ℕ) → InTime last (notes x)
  pub counts : (x : ℕ) → Counts (notes x)
  -- a busy tracker can be given its turn: its step is not refused
  pub can-go-on : (x : ℕ) → is_busy (notes x) ≡ true → (r : Out) (b' m' : List ℕ) → Met s b m (steps x) r b' m' → TurnOf x (event (steps x) (says r.answer))
  -- in T places each busy tracker has a turn,
  pub has-turns : (x : ℕ) → is_busy (notes x) ≡ true
      → {s' : State} {b' m' : List ℕ} {cs : List Call} {answers : List Answer} {places j : ℕ} {notes' : ℕ → Note} → Session s b m cs answers s' b' m'
      → Goes t o i notes (events cs (said answers)) places j notes' → t ≤ places → Among (TurnOf x) (events cs (said answers))
  -- and in T places for each turn that an access may need, it is answered
  pub is-answered : (x : ℕ) (write bottom : Bool) (given : ℕ) → notes x ≡ busy write bottom given
      → {s' : State} {b' m' : List ℕ} {cs : List Call} {answers : List Answer} {places j : ℕ} {notes' : ℕ → Note} → Session s b m cs answers s' b' m'
      → Goes t o i notes (events cs (said answers)) places j notes' → t * last write bottom ≤ places → Among (EndOf x) (events cs (said answers))

-- for any last turns of a device with a state's shape, as those of its number of levels
abbrev pub LongestWait : (last : Shape → (t : ℕ) (write bottom : Bool) → ℕ) → Type 0
LongestWait last = (t : ℕ) (o : Order t) (s : State) (b m : List ℕ) (i : ℕ) (notes : ℕ → Note) → UnderTheCircle t o s b m i notes → Waits t (last s.shape t) o s b m i notes

abbrev pub Demand3 : Type 0
Demand3 = LongestWait (λ shape. last_turn)

-- The count, in every session from that start and not only under the circle.
unfoldable pub noted_from : (ℕ → Note) → List Event → ℕ → Note
noted_from notes [] = notes
noted_from notes (e ∷ es) = noted_from (noted e notes) es

abbrev pub EveryCount : Type 0
EveryCount = (t : ℕ) (s s' : State) (b m b' m' : List ℕ) (cs : List Call) (answers : List Answer) → Starts t s b m → Session s b m cs answers s' b' m'
    → (x : ℕ) → Counts (noted_from (λ y. other false) (events cs (said answers)) x)
