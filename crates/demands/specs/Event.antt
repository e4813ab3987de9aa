-- What a caller sees of a run, his calls and what they said: what each of them is to the accesses. The demands speak of these events.
use Rattle.std.specs.Prelude.{List, [], ◌∷◌, Bool, true, false, ◌≡◌, ℕ, get_or}
use Rattle.laws.specs.Choice.{pick}
use Rattle.tracker.specs.declared.Access.{Access}
use Rattle.tracker.specs.Answer.{Said}
use Rattle.rules.specs.Run.{Call, issues, steps, drains, lends}
use Rattle.circle.specs.Order.{becomes}

-- what an access is told in the end, but for its turns
pub data Told : Type 0 where
  read : (v : ℕ) → Told
  done : Told
  same : Told

-- A call issues an access to tracker x; it gives x a turn, and the access goes on; it gives x a turn, and the access ends, is told this and that it was given so many
-- turns; it drains; or it is refused.
pub data Event : Type 0 where
  begins : (x : ℕ) (a : Access) → Event
  goes_on : (x : ℕ) → Event
  ends : (x : ℕ) (b : Told) (turns : ℕ) → Event
  drained : Event
  refused : Event

-- by what the call said: `ok`,
abbrev pub accepted : Call → Event
accepted (issues x access) = begins x access
accepted (steps x) = refused
accepted drains = drained
accepted (lends b m c) = accepted c

-- `wait` or `moved`,
abbrev pub given : Call → Event
given (issues x access) = refused
given (steps x) = goes_on x
given drains = refused
given (lends b m c) = given c

-- or an ending
abbrev pub ended : Told → ℕ → Call → Event
ended b turns (issues x access) = refused
ended b turns (steps x) = ends x b turns
ended b turns drains = refused
ended b turns (lends bytes m c) = ended b turns c

abbrev pub event : Call → Said → Event
event c Said.ok = accepted c
event c Said.wait = given c
event c Said.moved = given c
event c (Said.read v turns) = ended (read v) turns c
event c (Said.done turns) = ended done turns c
event c (Said.same turns) = ended same turns c
event c (Said.no r) = refused

-- of a run, in order; event number i, counted from 0
unfoldable pub events : List Call → List Said → List Event
events [] said = []
events (c ∷ cs) [] = []
events (c ∷ cs) (a ∷ said) = event c a ∷ events cs said

abbrev pub event_at : List Event → ℕ → Event
event_at es i = get_or es i refused

-- it is a turn of tracker x
abbrev pub TurnOf : ℕ → Event → Type 0
TurnOf x (begins y a) = ⊥
TurnOf x (goes_on y) = y ≡ x
TurnOf x (ends y b turns) = y ≡ x
TurnOf x drained = ⊥
TurnOf x refused = ⊥

-- Which trackers are busy: from an issue to the ending.
abbrev pub busy_by : Event → (ℕ → Bool) → ℕ → Bool
busy_by (begins x a) busy = becomes busy x true
busy_by (goes_on x) busy = busy
busy_by (ends x b turns) busy = becomes busy x false
busy_by drained busy = busy
busy_by refused busy = busy

unfoldable pub busy_from : (ℕ → Bool) → List Event → ℕ → Bool
busy_from busy [] = busy
busy_from busy (e ∷ es) = busy_from (busy_by e busy) es

abbrev pub busy_after : List Event → ℕ → Bool
busy_after = busy_from (λ x. false)

-- A write was issued since the last drain.
abbrev pub written_by : Event → Bool → Bool
written_by (begins x a) w = pick a.write true w
written_by (goes_on x) w = w
written_by (ends x b turns) w = w
written_by drained w = false
written_by refused w = w

unfoldable pub written_from : Bool → List Event → Bool
written_from w [] = w
written_from w (e ∷ es) = written_from (written_by e w) es

-- "all trackers are idle and the cache is drained": every access has ended, and only reads were issued since the last drain, or since the start
pub record AtRest (es : List Event) : Type 0 where
  pub idle : (x : ℕ) → busy_after es x ≡ false
  pub clean : written_from false es ≡ false
