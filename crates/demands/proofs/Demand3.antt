-- DEMAND 3, proved: the code's calls are the rules' calls, from the same start.
use mathlib.Core.Path.{◌≡◌, refl, sym, ap, ◌∙◌, subst}
use mathlib.Core.Bool.{Bool, true, false}
use mathlib.Core.List.{List}
use Prim.Native.Nat.{ℕ, zero, suc, ◌+◌, ◌*◌, ◌-◌, ◌<◌, ◌≤◌}
use native.Mathlib.Omega.{arith}
use native.Mathlib.Nat.{mul-le-mul_left}
use Rattle.geometry.specs.Shape.{below_top}
use Rattle.tracker.specs.declared.Answer.{Answer}
use Rattle.tracker.specs.Tracker.{is_idle_at}
use Rattle.tracker.specs.Answer.{Said, says}
use Rattle.rules.specs.Calls as calls
use Rattle.rules.specs.Run.{Call, steps, Kept, answers, ended}
use Rattle.cache.specs.declared.State.{State}
use Rattle.cache.specs.declared.Out.{Out}
use Rattle.session.specs.Session.{Met, Session, said, kept_of}
use Rattle.session.proofs.Session.{met-does, session-says, session-leaves}
use Rattle.circle.specs.Order.{Order}
use Rattle.circle.specs.LastTurn.{bound, last_turn_of}
use Rattle.circle.proofs.Phases.{last_turn-is}
use Rattle.circle.proofs.Circle.{tracker_in}
use Rattle.circle.proofs.Round.{dist, dist-lt}
use Rattle.circle.proofs.Link.{ButHand}
use Rattle.demands.specs.Event.{event, events, TurnOf, busy_after}
use Rattle.demands.specs.Circle.{Note, other, busy, is_busy, Goes, UnderTheCircle, under}
use Rattle.demands.specs.Demand3.{InTime, EndOf, Among, Waits, LongestWait, Demand3, noted_from, EveryCount}
use Rattle.demands.proofs.Start.{Begun, begun}
use Rattle.demands.proofs.Noted.{Noted, run-shape, noted-run, true-counts, busy-run}
use Rattle.demands.proofs.Going.{Going, busy-in, time, step-accepted, going-begins}
use Rattle.demands.proofs.Rounds.{going, turn-of, answered-by}

abbrev none : ℕ → Note
none x = other false

-- where every tracker is idle there is nothing to note
at_first : (t : ℕ) (k : Kept) → Begun t k → Noted k none
at_first t k B = record { ready = (B.agrees.is_whole, B.agrees.right); is-so = λ x. ap is_idle_at (B.idle x) }

-- the events of a session are those of the rules' run
seen_of : {s s' : State} {b m b' m' : List ℕ} {cs : List Call} {list : List Answer} → Session s b m cs list s' b' m' → events cs (said list) ≡ events cs (answers (kept_of s b m) cs)
seen_of {cs = cs} p = ap (events cs) (session-says p)

-- a run under the circle, on 01's device, which has 0 below the top
going_of : {t : ℕ} {o : Order t} {s : State} {b m : List ℕ} {i : ℕ} {notes : ℕ → Note} → UnderTheCircle t o s b m i notes
    → (below : ℕ) × (below ≡ 0) × Going below t o (kept_of s b m) i notes
going_of {t} {o} {i = i} {notes = notes}
    (under {s0 = s0} {s1 = s1} {b0 = b0} {m0 = m0} {b1 = b1} {m1 = m1} {before = before} {cs = cs} {answers0 = list} {i0 = i0} start first h session goes) = (
      below,
      B.levels,
      subst (λ (k : Kept). Going below t o k i notes) (sym (session-leaves session)) (going below t o goes cs (kept_of s1 b1 m1) (seen_of session)
          (going-begins below t o (kept_of s1 b1 m1) i0 (noted_from none (events before (said list))) (busy_after (events before (said list))) (busy-run (events before (said list)) none (λ y. false) (λ y. refl)) N
          (ap (λ (k : Kept). below_top k.state.shape) (session-leaves first) ∙ same.levels) (ap (λ (k : Kept). k.state.shape.t) (session-leaves first) ∙ same.count ∙ B.count) h)),
    )
  where
    below : ℕ
    below = below_top s0.shape

    B : Begun t (kept_of s0 b0 m0)
    B = begun t s0 b0 m0 start

    same : ButHand (ended (kept_of s0 b0 m0) before).state.shape s0.shape
    same = run-shape (kept_of s0 b0 m0) (at_first t (kept_of s0 b0 m0) B).ready before

    N : Noted (kept_of s1 b1 m1) (noted_from none (events before (said list)))
    N = rw (session-leaves first, session-says first) (noted-run before (kept_of s0 b0 m0) none (at_first t (kept_of s0 b0 m0) B))

module _ (below t : ℕ) (o : Order t) (s : State) (b m : List ℕ) (i : ℕ) (notes : ℕ → Note) (G : Going below t o (kept_of s b m) i notes) where
  abbrev last : (write bottom : Bool) → ℕ
  last = bound (suc (suc below)) t

  can-go-on : (x : ℕ) → is_busy (notes x) ≡ true → (r : Out) (b' m' : List ℕ) → Met s b m (steps x) r b' m' → TurnOf x (event (steps x) (says r.answer))
  can-go-on x q r b' m' e = subst (λ (a : Said). TurnOf x (event (steps x) a)) (sym (ap (λ (z : calls.Out). z.said) (met-does e))) (step-accepted below t o (kept_of s b m) i notes G x q)

  has-turns : (x : ℕ) → is_busy (notes x) ≡ true
      → {s' : State} {b' m' : List ℕ} {cs : List Call} {list : List Answer} {places j : ℕ} {notes' : ℕ → Note} → Session s b m cs list s' b' m'
      → Goes t o i notes (events cs (said list)) places j notes' → t ≤ places → Among (TurnOf x) (events cs (said list))
  has-turns x q {cs = cs} p g l =
      let d = dist-lt t i (o.place x) G.place (o.place-below x (busy-in below t o (kept_of s b m) i notes G x q)) in
      turn-of below t o x g cs (kept_of s b m) (seen_of p) G q (omega arith)

  is-answered : (x : ℕ) (write bottom : Bool) (given : ℕ) → notes x ≡ busy write bottom given
      → {s' : State} {b' m' : List ℕ} {cs : List Call} {list : List Answer} {places j : ℕ} {notes' : ℕ → Note} → Session s b m cs list s' b' m'
      → Goes t o i notes (events cs (said list)) places j notes' → t * last write bottom ≤ places → Among (EndOf x) (events cs (said list))
  is-answered x write bottom given is {cs = cs} {places = places} p g l =
      answered-by below t o x write bottom g cs (kept_of s b m) (seen_of p) G given is (far (last write bottom - suc given) (let h = in-time in omega arith))
    where
      in-time : given < last write bottom
      in-time = subst (InTime last) is (time below t o (kept_of s b m) i notes G x)

      far : (more : ℕ) → last write bottom ≡ suc given + more → (more : ℕ) × (last write bottom ≤ suc given + more) × (dist t i (o.place x) + t * more < places)
      far more e =
          let d = dist-lt t i (o.place x) G.place (o.place-below x (busy-in below t o (kept_of s b m) i notes G x (rw is refl))) in
          let q : t * suc more ≤ t * last write bottom = mul-le-mul_left t (omega arith) in
          (more, omega arith, omega arith)

  waits : Waits t last o s b m i notes
  waits = record {
    in-time = time below t o (kept_of s b m) i notes G;
    counts = λ x. true-counts (notes x) (tracker_in (kept_of s b m) x) (G.is-noted.is-so x);
    can-go-on = can-go-on;
    has-turns = has-turns;
    is-answered = is-answered;
  }

-- DEMAND 3 by the bound of the device's levels
pub demand-3-levels : LongestWait last_turn_of
demand-3-levels t o s b m i notes u =
    let G = going_of u in
    subst (λ (below : ℕ). Waits t (bound (suc (suc below)) t) o s b m i notes) (sym G.2.levels) (waits G.0 t o s b m i notes G.2)

-- DEMAND 3, for 01's two
pub demand-3 : Demand3
demand-3 zero o s b m i notes (under start first h session goes) = absurd (omega arith)
demand-3 (suc M) o s b m i notes u =
    let G = going_of u in
    subst (λ (last : (write bottom : Bool) → ℕ). Waits (suc M) last o s b m i notes)
    (ap (λ (below : ℕ). bound (suc (suc below)) (suc M)) (G.2.levels ∙ G.1) ∙ (λ j. λ write bottom. last_turn-is M write bottom j))
    (demand-3-levels (suc M) o s b m i notes u)

-- the count, in every session
pub every-count : EveryCount
every-count t s s' b m b' m' cs list start p x =
    rw (session-says p) (true-counts (noted_from none (events cs (answers (kept_of s b m) cs)) x) (tracker_in (ended (kept_of s b m) cs) x)
    ((noted-run cs (kept_of s b m) none (at_first t (kept_of s b m) (begun t s b m start))).is-so x))
