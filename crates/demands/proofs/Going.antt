-- A run whose turns go round the circle, seen by its events, is a run under the circle of `circle`; and its notes are in time.
use mathlib.Core.Path.{◌≡◌, refl, sym, ap, ◌∙◌, subst}
use mathlib.Core.Bool.{Bool, true, false}
use Prim.Native.Nat.{ℕ, suc, ◌<◌, ◌≤◌}
use native.Mathlib.Omega.{arith}
use native.Mathlib.Decide.{ℕ_discrete}
use Rattle.laws.proofs.Choice.{not-both-ways}
use Rattle.geometry.specs.Shape.{below_top}
use Rattle.tracker.specs.declared.Tracker.{Tracker}
use Rattle.tracker.specs.Tracker.{is_idle, tick}
use Rattle.tracker.specs.Answer.{ok}
use Rattle.rules.specs.Calls.{Out}
use Rattle.rules.specs.Run.{Call, issues, steps, drains, Kept, kept, does}
use Rattle.circle.specs.Order.{next, Order, becomes}
use Rattle.circle.specs.LastTurn.{bound}
use Rattle.circle.proofs.Circle.{tracker_in, Circle}
use Rattle.circle.proofs.Round.{next-in}
use Rattle.circle.proofs.Becomes.{becomes-same, becomes-other}
use Rattle.circle.proofs.Ready.{busy-below}
use Rattle.circle.proofs.Calls.{bare, Outcome, outcome}
use Rattle.circle.proofs.Calls as Calls
use Rattle.circle.proofs.LongestWait.{longest-wait}
use Rattle.demands.specs.Event.{Event, event, TurnOf}
use Rattle.demands.specs.Circle.{Note, other, busy, answered, is_busy, went_on, noted, NoTurn}
use Rattle.demands.specs.Circle as Notes
use Rattle.demands.specs.Demand3.{InTime}
use Rattle.demands.proofs.Noted.{True, true-busy, true-idle, Turn, went, over, turn-tracker, turn-turns, event-bare, Noted, step-turn, call_shape, noted_call}

-- on a device with this level below the top
module _ (below t : ℕ) (o : Order t) where
  -- the last turn of an access
  abbrev last : (write bottom : Bool) → ℕ
  last = bound (suc (suc below)) t

  -- what the circle's own marks are to a note
  abbrev Marked : Note → (given : ℕ) (under : Bool) → Type 0
  Marked (other b) g u = Unit {0}
  Marked (busy write bottom given) g u = (g ≡ given) × (u ≡ true)
  Marked (answered write bottom given turns) g u = given ≤ last write bottom

  pub record Going (k : Kept) (i : ℕ) (notes : ℕ → Note) : Type 0 where
    pub given : ℕ → ℕ
    pub under : ℕ → Bool
    pub circle : Circle t o k i given under
    pub is-noted : Noted k notes
    pub marked : (x : ℕ) → Marked (notes x) (given x) (under x)
    pub levels : below_top k.state.shape ≡ below
    pub count : k.state.shape.t ≡ t
    pub place : i < t

  begun-true : (note : Note) (b : Bool) (u : Tracker) → is_busy note ≡ b → True note u → True (other b) u
  begun-true note true u e h = true-busy note u h e
  begun-true note false u e h = true-idle note u h e

  -- it may begin at any time
  pub going-begins : (k : Kept) (i : ℕ) (notes : ℕ → Note) (busies : ℕ → Bool) → ((x : ℕ) → is_busy (notes x) ≡ busies x) → Noted k notes → below_top k.state.shape ≡ below → k.state.shape.t ≡ t → i < t → Going k i (λ x. other (busies x))
  going-begins k i notes busies e K z c h = record {
    given = λ x. 0;
    under = λ x. false;
    circle = Circle.begins k i (λ x. 0) c K.ready.0 K.ready.1 h;
    is-noted = record { ready = K.ready; is-so = λ x. begun-true (notes x) (busies x) (tracker_in k x) (e x) (K.is-so x) };
    marked = λ x. tt;
    levels = z;
    count = c;
    place = h;
  }

  marked-went : (note : Note) (g : ℕ) (u : Bool) → Marked note g u → Marked (went_on note) (suc g) u
  marked-went (other b) g u m = tt
  marked-went (busy write bottom given) g u m = (ap suc m.0, m.1)
  marked-went (answered write bottom given turns) g u m = m

  marked-over : (note : Note) (k g : ℕ) (u : Bool) → InTime last note → Marked note g u → Marked (Notes.ended k note) (suc g) u
  marked-over (other b) k g u l m = tt
  marked-over (busy write bottom given) k g u l m = l
  marked-over (answered write bottom given turns) k g u l m = m

  module _ (k : Kept) (i : ℕ) (notes : ℕ → Note) (G : Going k i notes) where
    in-shape : (x : ℕ) → is_idle (tracker_in k x) ≡ false → x < t
    in-shape x b = let h = busy-below k G.is-noted.ready x b in let c = G.count in omega arith

    pub busy-in : (x : ℕ) → is_busy (notes x) ≡ true → x < t
    busy-in x b = in-shape x (true-busy (notes x) (tracker_in k x) (G.is-noted.is-so x) b)

    time-of : (note : Note) (x : ℕ) → True note (tracker_in k x) → Marked note (G.given x) (G.under x) → InTime last note
    time-of (other b) x h m = tt
    time-of (busy write bottom given) x h m =
        let l : G.given x < last (tracker_in k x).write (tracker_in k x).bottom =
        rw G.levels at ((longest-wait t o k i G.given G.under G.circle).busy x (in-shape x h.is-busy) m.1 h.is-busy) in
        rw (sym m.0, sym h.write-is, sym h.bottom-is) l
    time-of (answered write bottom given turns) x h m = m

    pub time : (x : ℕ) → InTime last (notes x)
    time x = time-of (notes x) x (G.is-noted.is-so x) (G.marked x)

    pub step-accepted : (x : ℕ) → is_busy (notes x) ≡ true → TurnOf x (event (steps x) (does k (steps x)).said)
    step-accepted x b =
        let q = true-busy (notes x) (tracker_in k x) (G.is-noted.is-so x) b in
        let r = step-turn k G.is-noted.ready x (busy-below k G.is-noted.ready x q) q in
        turn-turns x (tracker_in k x) r.0 (event (steps x) (does k (steps x)).said) r.2

    pub going-passed : is_busy (notes (o.tracker i)) ≡ false → Going k (next t i) notes
    going-passed b = record {
      given = G.given;
      under = G.under;
      circle = Circle.passed G.circle (true-idle (notes (o.tracker i)) (tracker_in k (o.tracker i)) (G.is-noted.is-so (o.tracker i)) b);
      is-noted = G.is-noted;
      marked = G.marked;
      levels = G.levels;
      count = G.count;
      place = next-in t i G.place;
    }

    -- a turn
    marks-turn : (x : ℕ) (t' : Tracker) (e : Event) → Turn x (tracker_in k x) t' e
        → (y : ℕ) → Marked (noted e notes y) (becomes G.given x (suc (G.given x)) y) (G.under y)
    marks-turn x t' e (went q b s) y = at (ℕ_discrete y x)
      where
        at : Dec (y ≡ x) → Marked (noted e notes y) (becomes G.given x (suc (G.given x)) y) (G.under y)
        at (yes p) = rw (q, p, becomes-same notes x (went_on (notes x)), becomes-same G.given x (suc (G.given x))) (marked-went (notes x) (G.given x) (G.under x) (G.marked x))
        at (no ne) = rw (q, becomes-other notes x y (went_on (notes x)) ne, becomes-other G.given x y (suc (G.given x)) ne) (G.marked y)
    marks-turn x t' e (over c q b) y = at (ℕ_discrete y x)
      where
        n : Note
        n = Notes.ended (tick (tracker_in k x).turns) (notes x)

        at : Dec (y ≡ x) → Marked (noted e notes y) (becomes G.given x (suc (G.given x)) y) (G.under y)
        at (yes p) = rw (q, p, becomes-same notes x (Notes.ended (tick (tracker_in k x).turns) (notes x)), becomes-same G.given x (suc (G.given x)))
            (marked-over (notes x) (tick (tracker_in k x).turns) (G.given x) (G.under x) (time x) (G.marked x))
        at (no ne) = rw (q, becomes-other notes x y (Notes.ended (tick (tracker_in k x).turns) (notes x)) ne, becomes-other G.given x y (suc (G.given x)) ne) (G.marked y)

    going_step : is_idle (tracker_in k (o.tracker i)) ≡ false
        → Going (kept (does k (steps (o.tracker i)))) (next t i) (noted (event (steps (o.tracker i)) (does k (steps (o.tracker i))).said) notes)
    going_step q =
        let x = o.tracker i in
        let r = step-turn k G.is-noted.ready x (busy-below k G.is-noted.ready x q) q in
        record {
          given = becomes G.given x (suc (G.given x));
          under = G.under;
          circle = Circle.turned G.circle q;
          is-noted = noted_call k notes G.is-noted (steps x);
          marked = marks-turn x r.0 (event (steps x) (does k (steps x)).said) r.2;
          levels = (call_shape k G.is-noted.ready (steps x)).levels ∙ G.levels;
          count = (call_shape k G.is-noted.ready (steps x)).count ∙ G.count;
          place = next-in t i G.place;
        }

    going-turned-at : (c : Call) (o' : Out) → Outcome k c o' → TurnOf (o.tracker i) (event c o'.said) → Going (kept o') (next t i) (noted (event c o'.said) notes)
    going-turned-at c o' (Calls.refused r q z) h = absurd (subst (λ a. TurnOf (o.tracker i) (event c a)) q h)
    going-turned-at c o' (Calls.issued x access p e is) h = absurd (subst (λ (a : Out). TurnOf (o.tracker i) (event (issues x access) a.said)) is h)
    going-turned-at c o' (Calls.stepped x p b) h =
        let r = step-turn k G.is-noted.ready x p b in
        let e : x ≡ o.tracker i = turn-tracker x (o.tracker i) (tracker_in k x) r.0 (event (steps x) (does k (steps x)).said) r.2 h in
        subst (λ (y : ℕ). Going (kept (does k (steps y))) (next t i) (noted (event (steps y) (does k (steps y)).said) notes)) (sym e)
        (going_step (subst (λ (y : ℕ). is_idle (tracker_in k y) ≡ false) e b))
    going-turned-at c o' (Calls.drained q is) h = absurd (subst (λ (a : Out). TurnOf (o.tracker i) (event drains a.said)) is h)

    pub going-turned : (c : Call) → TurnOf (o.tracker i) (event c (does k c).said) → Going (kept (does k c)) (next t i) (noted (event c (does k c).said) notes)
    going-turned c h =
        rw (event-bare c (does k c).said) (going-turned-at (bare c) (does k c) (outcome k G.is-noted.ready c) (subst (TurnOf (o.tracker i)) (event-bare c (does k c).said) h))

    -- between turns: what an event that is no turn leaves
    record Between (k' : Kept) (notes' : ℕ → Note) : Type 0 where
      given' : ℕ → ℕ
      under' : ℕ → Bool
      circle' : Circle t o k' i given' under'
      marked' : (x : ℕ) → Marked (notes' x) (given' x) (under' x)
      -- who is busy stays so
      stays-busy : (x : ℕ) → is_busy (notes x) ≡ true → notes' x ≡ notes x

    same-marks : Between k notes
    same-marks = record { given' = G.given; under' = G.under; circle' = G.circle; marked' = G.marked; stays-busy = λ x b. refl }

    no-turn : (x : ℕ) (t' : Tracker) (e : Event) → Turn x (tracker_in k x) t' e → NoTurn e → ⊥
    no-turn x t' e (went q b s) h = subst NoTurn q h
    no-turn x t' e (over c q b) h = subst NoTurn q h

    between-at : (c : Call) (o' : Out) → Outcome k c o' → NoTurn (event c o'.said) → Between (kept o') (noted (event c o'.said) notes)
    between-at c o' (Calls.refused r q z) f = rw (z, q) same-marks
    between-at c o' (Calls.issued x access h e is) f =
        let a : (does k (issues x access)).said ≡ ok = ap (λ (a : Out). a.said) is in
        rw a (record {
          given' = becomes G.given x 0;
          under' = becomes G.under x true;
          circle' = Circle.issued G.circle x access a;
          marked' = marks;
          stays-busy = λ y b. becomes-other notes x y (busy access.write access.bottom 0)
              (λ q. not-both-ways e (true-busy (notes x) (tracker_in k x) (G.is-noted.is-so x) (subst (λ (z : ℕ). is_busy (notes z) ≡ true) q b)));
        })
      where
        marks : (y : ℕ) → Marked (becomes notes x (busy access.write access.bottom 0) y) (becomes G.given x 0 y) (becomes G.under x true y)
        marks y = at (ℕ_discrete y x)
          where
            at : Dec (y ≡ x) → Marked (becomes notes x (busy access.write access.bottom 0) y) (becomes G.given x 0 y) (becomes G.under x true y)
            at (yes q) = rw (q, becomes-same notes x (busy access.write access.bottom 0), becomes-same G.given x 0, becomes-same G.under x true) (refl, refl)
            at (no ne) = rw (becomes-other notes x y (busy access.write access.bottom 0) ne, becomes-other G.given x y 0 ne, becomes-other G.under x y true ne) (G.marked y)
    between-at c o' (Calls.stepped x h b) f =
        let r = step-turn k G.is-noted.ready x h b in absurd (no-turn x r.0 (event (steps x) (does k (steps x)).said) r.2 f)
    between-at c o' (Calls.drained q is) f =
        let a : (does k drains).said ≡ ok = ap (λ (a : Out). a.said) is in
        rw a (record { given' = G.given; under' = G.under; circle' = Circle.drained G.circle a; marked' = G.marked; stays-busy = λ x b. refl })

    between-of : (c : Call) → NoTurn (event c (does k c).said) → Between (kept (does k c)) (noted (event c (does k c).said) notes)
    between-of c f =
        rw (event-bare c (does k c).said) (between-at (bare c) (does k c) (outcome k G.is-noted.ready c) (subst NoTurn (event-bare c (does k c).said) f))

    pub going-between : (c : Call) → NoTurn (event c (does k c).said) → Going (kept (does k c)) i (noted (event c (does k c).said) notes)
    going-between c f =
        let r = between-of c f in
        record {
          given = r.given';
          under = r.under';
          circle = r.circle';
          is-noted = noted_call k notes G.is-noted c;
          marked = r.marked';
          levels = (call_shape k G.is-noted.ready c).levels ∙ G.levels;
          count = (call_shape k G.is-noted.ready c).count ∙ G.count;
          place = G.place;
        }

    pub busy-between : (c : Call) → NoTurn (event c (does k c).said) → (x : ℕ) → is_busy (notes x) ≡ true → noted (event c (does k c).said) notes x ≡ notes x
    busy-between c f = (between-of c f).stays-busy
