-- What is noted is so: the notes of a run, from its events alone, are what its trackers hold.
use mathlib.Core.Path.{◌≡◌, refl, sym, ap, ◌∙◌, subst}
use mathlib.Core.Bool.{Bool, true, false}
use mathlib.Core.List.{List, [], ◌∷◌}
use Prim.Native.Nat.{ℕ, zero, suc, ◌<◌, min}
use native.Mathlib.Omega.{arith}
use native.Mathlib.Decide.{ℕ_discrete}
use lib.Dec.{ltb}
use Rattle.laws.proofs.Choice.{not-both-ways, pick-by}
use Rattle.geometry.specs.Shape.{below_top}
use Rattle.tracker.specs.declared.Phase.{Phase}
use Rattle.tracker.specs.declared.Phase.TheVariants.{Idle, Probe, Top, Under, Set, Clear}
use Rattle.tracker.specs.declared.Tracker.{Tracker}
use Rattle.tracker.specs.Tracker.{is_idle, is_idle_at, tick}
use Rattle.tracker.specs.Tracker as Tracker
use Rattle.tracker.specs.Answer.{Said}
use Rattle.rules.specs.Calls.{Out}
use Rattle.rules.specs.Run.{Call, issues, steps, drains, lends, Kept, kept, does, answers}
use Rattle.rules.specs.Run as Run
use Rattle.circle.specs.Table.{Move, waits, to, ends, onward, rule}
use Rattle.circle.specs.Order.{becomes}
use Rattle.circle.proofs.Ending.{Ending}
use Rattle.circle.proofs.Circle.{tracker_in}
use Rattle.circle.proofs.Becomes.{becomes-same, becomes-other}
use Rattle.circle.proofs.ByTable.{Moved}
use Rattle.circle.proofs.Ready.{Ready}
use Rattle.circle.proofs.Calls.{bare, Outcome, outcome, call-keeps}
use Rattle.circle.proofs.Calls as Calls
use Rattle.circle.proofs.Link.{ButHand, but-hand, but-then, Anew, anew-issued, each, move_of, by-table, Same, tick-min}
use Rattle.demands.specs.Event.{Told, Event, goes_on, event, events, TurnOf, busy_by, busy_from}
use Rattle.demands.specs.Event as Events
use Rattle.demands.specs.Circle.{Note, other, busy, answered, is_busy, went_on, ended, noted}
use Rattle.demands.specs.Demand3.{Counts, noted_from}

-- a busy tracker with an access of this kind, which was given so many turns
pub record Holding (t : Tracker) (write bottom : Bool) (given : ℕ) : Type 0 where
  pub is-busy : is_idle t ≡ false
  pub write-is : t.write ≡ write
  pub bottom-is : t.bottom ≡ bottom
  pub counts : t.turns ≡ min given 65535

-- the note of a tracker is so
abbrev pub True : Note → Tracker → Type 0
True (other false) t = is_idle t ≡ true
True (other true) t = is_idle t ≡ false
True (busy write bottom given) t = Holding t write bottom given
True (answered write bottom given turns) t = (is_idle t ≡ true) × (turns ≡ min given 65535)

pub true-counts : (note : Note) (t : Tracker) → True note t → Counts note
true-counts (other b) t h = tt
true-counts (busy write bottom given) t h = tt
true-counts (answered write bottom given turns) t h = h.1

pub true-busy : (note : Note) (t : Tracker) → True note t → is_busy note ≡ true → is_idle t ≡ false
true-busy (other false) t h b = absurd (not-both-ways b refl)
true-busy (other true) t h b = h
true-busy (busy write bottom given) t h b = h.is-busy
true-busy (answered write bottom given turns) t h b = absurd (not-both-ways b refl)

pub true-idle : (note : Note) (t : Tracker) → True note t → is_busy note ≡ false → is_idle t ≡ true
true-idle (other false) t h b = h
true-idle (other true) t h b = absurd (not-both-ways refl b)
true-idle (busy write bottom given) t h b = absurd (not-both-ways refl b)
true-idle (answered write bottom given turns) t h b = h.0

-- What a step of a busy tracker is, and what it leaves: the access goes on, or it ends and the tracker is idle.
pub data Turn (x : ℕ) (t t' : Tracker) (e : Event) : Type 0 where
  went : e ≡ goes_on x → is_idle t' ≡ false → Same t t' → Turn x t t' e
  over : (b : Told) → e ≡ Event.ends x b (tick t.turns) → is_idle t' ≡ true → Turn x t t' e

-- a move to a phase is to a busy one
abbrev ToBusy : Move Phase → Type 0
ToBusy waits = Unit {0}
ToBusy (to p) = is_idle_at p ≡ false
ToBusy ends = Unit {0}

onward-busy : (below : ℕ) (quit : Bool) (d : ℕ) (p : Phase) → is_idle_at p ≡ false → ToBusy (onward below quit d p)
onward-busy below true d p b = tt
onward-busy below false d p b = pick-by ToBusy (ltb d below) (λ _. b) (λ _. tt)

to-busy : (below : ℕ) (held quit set write : Bool) (p : Phase) → ToBusy (rule below held quit set write p)
to-busy below held quit set write Idle = tt
to-busy below held true set write (Probe d) = tt
to-busy below held false set write (Probe d) = pick-by (λ (p : Phase). is_idle_at p ≡ false) (ltb (suc d) (suc below)) (λ _. refl) (λ _. refl)
to-busy below true quit set write Top = tt
to-busy below false true set write Top = tt
to-busy below false false set write Top = refl
to-busy below held quit set false (Under zero) = tt
to-busy below held true set true (Under zero) = tt
to-busy below held false set true (Under zero) = pick-by (λ (p : Phase). is_idle_at p ≡ false) set (λ _. refl) (λ _. refl)
to-busy below held true set write (Under (suc e)) = tt
to-busy below held false set write (Under (suc e)) = refl
to-busy below held quit set write (Set d) = onward-busy below quit d (Set (suc d)) refl
to-busy below held quit set write (Clear d) = onward-busy below quit d (Clear (suc d)) refl

-- an ending is told something
ending-told : (x : ℕ) (a : Said) (k : ℕ) → Ending a k → (b : Told) × (event (steps x) a ≡ Event.ends x b k)
ending-told x (Said.read v turns) k e = (Told.read v, ap (Event.ends x (Told.read v)) e)
ending-told x (Said.done turns) k e = (Told.done, ap (Event.ends x Told.done) e)
ending-told x (Said.same turns) k e = (Told.same, ap (Event.ends x Told.same) e)
ending-told x Said.ok k e = elim e [ ]
ending-told x Said.wait k e = elim e [ ]
ending-told x Said.moved k e = elim e [ ]
ending-told x (Said.no c) k e = elim e [ ]

turn_by : (x : ℕ) (t t' : Tracker) (m : Move Phase) (said : Said) → is_idle t ≡ false → ToBusy m → Moved t m said t'
    → Turn x t t' (event (steps x) said)
turn_by x t t' waits said b f h = went (rw h.0 refl) (rw h.1 b) (rw h.1 (record { write = refl; bottom = refl; group = refl; turns = refl }))
turn_by x t t' (to p) said b f h = went (rw h.0 refl) (rw h.1 f) (rw h.1 (record { write = refl; bottom = refl; group = refl; turns = refl }))
turn_by x t t' ends said b f h = let e = ending-told x said (tick t.turns) h.0 in over e.0 e.1 (rw h.1 refl)

pub turn-tracker : (x y : ℕ) (t t' : Tracker) (e : Event) → Turn x t t' e → TurnOf y e → x ≡ y
turn-tracker x y t t' e (went q b s) h = subst (TurnOf y) q h
turn-tracker x y t t' e (over b q i) h = subst (TurnOf y) q h

pub turn-turns : (x : ℕ) (t t' : Tracker) (e : Event) → Turn x t t' e → TurnOf x e
turn-turns x t t' e (went q b s) = subst (TurnOf x) (sym q) refl
turn-turns x t t' e (over b q i) = subst (TurnOf x) (sym q) refl

-- a turn, as it is noted
true-went : (note : Note) (t t' : Tracker) → is_idle t ≡ false → True note t → is_idle t' ≡ false → Same t t' → True (went_on note) t'
true-went (other false) t t' b h i s = absurd (not-both-ways h b)
true-went (other true) t t' b h i s = i
true-went (busy write bottom given) t t' b h i s =
    record { is-busy = i; write-is = s.write ∙ h.write-is; bottom-is = s.bottom ∙ h.bottom-is; counts = s.turns ∙ tick-min t.turns given h.counts }
true-went (answered write bottom given turns) t t' b h i s = absurd (not-both-ways h.0 b)

true-over : (note : Note) (t t' : Tracker) → is_idle t ≡ false → True note t → is_idle t' ≡ true → True (ended (tick t.turns) note) t'
true-over (other false) t t' b h i = absurd (not-both-ways h b)
true-over (other true) t t' b h i = i
true-over (busy write bottom given) t t' b h i = (i, tick-min t.turns given h.counts)
true-over (answered write bottom given turns) t t' b h i = absurd (not-both-ways h.0 b)

-- a call with other bytes lent is the same event
accepted-bare : (c : Call) → Events.accepted c ≡ Events.accepted (bare c)
accepted-bare (issues x access) = refl
accepted-bare (steps x) = refl
accepted-bare drains = refl
accepted-bare (lends b m c) = accepted-bare c

given-bare : (c : Call) → Events.given c ≡ Events.given (bare c)
given-bare (issues x access) = refl
given-bare (steps x) = refl
given-bare drains = refl
given-bare (lends b m c) = given-bare c

ended-bare : (b : Told) (k : ℕ) (c : Call) → Events.ended b k c ≡ Events.ended b k (bare c)
ended-bare b k (issues x access) = refl
ended-bare b k (steps x) = refl
ended-bare b k drains = refl
ended-bare b k (lends bytes m c) = ended-bare b k c

pub event-bare : (c : Call) (a : Said) → event c a ≡ event (bare c) a
event-bare c Said.ok = accepted-bare c
event-bare c Said.wait = given-bare c
event-bare c Said.moved = given-bare c
event-bare c (Said.read v k) = ended-bare (Told.read v) k c
event-bare c (Said.done k) = ended-bare Told.done k c
event-bare c (Said.same k) = ended-bare Told.same k c
event-bare c (Said.no r) = refl

went-busy : (n : Note) → is_busy (went_on n) ≡ is_busy n
went-busy (other b) = refl
went-busy (busy write bottom given) = refl
went-busy (answered write bottom given turns) = refl

ended-idle : (k : ℕ) (n : Note) → is_busy (ended k n) ≡ false
ended-idle k (other b) = refl
ended-idle k (busy write bottom given) = refl
ended-idle k (answered write bottom given turns) = refl

-- a state that is ready, whose trackers are as they are noted
pub record Noted (k : Kept) (notes : ℕ → Note) : Type 0 where
  pub ready : Ready k
  pub is-so : (x : ℕ) → True (notes x) (tracker_in k x)

first-busy : (bottom : Bool) → is_idle_at (Tracker.first_phase bottom) ≡ false
first-busy true = refl
first-busy false = refl

-- how a busy tracker's step goes
pub step-turn : (k : Kept) → Ready k → (x : ℕ) → x < k.state.shape.t → is_idle (tracker_in k x) ≡ false
    → (t' : Tracker) × Anew k (kept (does k (steps x))) x t' × Turn x (tracker_in k x) t' (event (steps x) (does k (steps x)).said)
step-turn k s x h b =
    let r = by-table k s x h b in (
      r.left,
      r.made,
      turn_by x (tracker_in k x) r.left (move_of k x r) (does k (steps x)).said b
          (to-busy (below_top k.state.shape) r.held r.quit r.set (tracker_in k x).write (tracker_in k x).phase) r.by-rule,
    )

-- no call changes the shape but for the hand
pub call_shape : (k : Kept) → Ready k → (c : Call) → ButHand (kept (does k c)).state.shape k.state.shape
call_shape k s c = at (bare c) (does k c) (outcome k s c)
  where
    at : (c' : Call) (o : Out) → Outcome k c' o → ButHand o.state.shape k.state.shape
    at c' o (Calls.refused r q z) = but-hand o.state.shape k.state.shape k.state.shape.hand (ap (λ (a : Kept). a.state.shape) z)
    at c' o (Calls.issued x access h e is) = (anew-issued k s x access h is).shape_is
    at c' o (Calls.stepped x h b) = (step-turn k s x h b).1.shape_is
    at c' o (Calls.drained q is) = but-hand o.state.shape k.state.shape k.state.shape.hand (ap (λ (a : Out). a.state.shape) is)

pub run-shape : (k : Kept) → Ready k → (cs : List Call) → ButHand (Run.ended k cs).state.shape k.state.shape
unfolding Run.ended
run-shape k s [] = but-hand k.state.shape k.state.shape k.state.shape.hand refl
run-shape k s (c ∷ cs) = but-then (run-shape (kept (does k c)) (call-keeps k s c) cs) (call_shape k s c)

module _ (k : Kept) (notes : ℕ → Note) (K : Noted k notes) where
  noted-turn : (x : ℕ) (t' : Tracker) (k' : Kept) (e : Event) → is_idle (tracker_in k x) ≡ false → Anew k k' x t' → Turn x (tracker_in k x) t' e
      → (y : ℕ) → True (noted e notes y) (tracker_in k' y)
  noted-turn x t' k' e b a (went q i s) =
      rw q (each (λ (y : ℕ) (t : Tracker). True (becomes notes x (went_on (notes x)) y) t) k k' x t' a
      (rw (becomes-same notes x (went_on (notes x))) (true-went (notes x) (tracker_in k x) t' b (K.is-so x) i s))
      (λ y ne. rw (becomes-other notes x y (went_on (notes x)) ne) (K.is-so y)))
  noted-turn x t' k' e b a (over c q i) =
      let n : Note = ended (tick (tracker_in k x).turns) (notes x) in
      rw q (each (λ (y : ℕ) (t : Tracker). True (becomes notes x n y) t) k k' x t' a
      (rw (becomes-same notes x n) (true-over (notes x) (tracker_in k x) t' b (K.is-so x) i))
      (λ y ne. rw (becomes-other notes x y n ne) (K.is-so y)))

  noted-at : (c : Call) (o : Out) → Outcome k c o → (y : ℕ) → True (noted (event c o.said) notes y) (tracker_in (kept o) y)
  noted-at c o (Calls.refused r q z) = subst (λ (w : Kept). (y : ℕ) → True (noted (event c o.said) notes y) (tracker_in w y)) (sym z) (rw q K.is-so)
  noted-at c o (Calls.issued x access h e is) =
      rw (ap (λ (a : Out). a.said) is) (each (λ (y : ℕ) (t : Tracker). True (becomes notes x (busy access.write access.bottom 0) y) t) k (kept o) x (Tracker.issued access)
      (anew-issued k K.ready x access h is)
      (rw (becomes-same notes x (busy access.write access.bottom 0)) (record { is-busy = first-busy access.bottom; write-is = refl; bottom-is = refl; counts = omega arith }))
      (λ y ne. rw (becomes-other notes x y (busy access.write access.bottom 0) ne) (K.is-so y)))
  noted-at c o (Calls.stepped x h b) = let r = step-turn k K.ready x h b in noted-turn x r.0 (kept o) (event (steps x) o.said) b r.1 r.2
  noted-at c o (Calls.drained q is) = rw is K.is-so

  pub noted_call : (c : Call) → Noted (kept (does k c)) (noted (event c (does k c).said) notes)
  noted_call c = record {
    ready = call-keeps k K.ready c;
    is-so = rw (event-bare c (does k c).said) (noted-at (bare c) (does k c) (outcome k K.ready c));
  }

-- a run's notes are so
pub noted-run : (cs : List Call) (k : Kept) (notes : ℕ → Note) → Noted k notes → Noted (Run.ended k cs) (noted_from notes (events cs (answers k cs)))
unfolding Run.ended answers events noted_from
noted-run [] k notes K = K
noted-run (c ∷ cs) k notes K = noted-run cs (kept (does k c)) (noted (event c (does k c).said) notes) (noted_call k notes K c)

-- Who is busy, by the notes and by the events.
module _ (notes : ℕ → Note) (busies : ℕ → Bool) (h : (x : ℕ) → is_busy (notes x) ≡ busies x) where
  busy-becomes : (y x : ℕ) (n : Note) (b : Bool) → is_busy n ≡ b → is_busy (becomes notes y n x) ≡ becomes busies y b x
  busy-becomes y x n b e = at (ℕ_discrete x y)
    where
      at : Dec (x ≡ y) → is_busy (becomes notes y n x) ≡ becomes busies y b x
      at (yes q) = rw (q, becomes-same notes y n, becomes-same busies y b) e
      at (no ne) = rw (becomes-other notes y x n ne, becomes-other busies y x b ne) (h x)

  busy-still : (y x : ℕ) (n : Note) → is_busy n ≡ is_busy (notes y) → is_busy (becomes notes y n x) ≡ busies x
  busy-still y x n e = at (ℕ_discrete x y)
    where
      at : Dec (x ≡ y) → is_busy (becomes notes y n x) ≡ busies x
      at (yes q) = rw (q, becomes-same notes y n) (e ∙ h y)
      at (no ne) = rw (becomes-other notes y x n ne) (h x)

  busy-note : (e : Event) (x : ℕ) → is_busy (noted e notes x) ≡ busy_by e busies x
  busy-note (Event.begins y a) x = busy-becomes y x (busy a.write a.bottom 0) true refl
  busy-note (Event.goes_on y) x = busy-still y x (went_on (notes y)) (went-busy (notes y))
  busy-note (Event.ends y b turns) x = busy-becomes y x (ended turns (notes y)) false (ended-idle turns (notes y))
  busy-note Event.drained x = h x
  busy-note Event.refused x = h x

pub busy-run : (es : List Event) (notes : ℕ → Note) (busies : ℕ → Bool) → ((x : ℕ) → is_busy (notes x) ≡ busies x) → (x : ℕ) → is_busy (noted_from notes es x) ≡ busy_from busies es x
unfolding noted_from busy_from
busy-run [] notes busies h x = h x
busy-run (e ∷ es) notes busies h x = busy-run es (noted e notes) (busy_by e busies) (busy-note notes busies h e) x
