-- The transfers' theorem, proved: by an invariant of each busy tracker, its sums and the table of phases, which every call keeps.
use mathlib.Core.Path.{◌≡◌, refl, sym, ap, ◌∙◌, subst}
use mathlib.Core.Bool.{true, false}
use mathlib.Core.List.{List, [], ◌∷◌, ◌++◌}
use mathlib.Core.Logic.{⊎_elim}
use Prim.Native.Nat.{ℕ, suc, ◌+◌, ◌-◌, ◌*◌, ◌≤◌, ◌<◌}
use native.Mathlib.Nat.{mul-le-mul_left}
use native.Mathlib.Omega.{arith}
use lib.ListN.{length, length-append}
use Rattle.laws.specs.Refusal.{refusal}
use Rattle.laws.proofs.Choice.{not-both-ways, true-or-false}
use Rattle.laws.proofs.Refusals.{refused-or-not}
use Rattle.geometry.specs.declared.Shape.{Shape}
use Rattle.geometry.specs.Shape.{below_top, top_of}
use Rattle.geometry.specs.TagMemory.{length_of}
use Rattle.memory.specs.True.{block_at}
use Rattle.tracker.specs.declared.Phase.{Phase}
use Rattle.tracker.specs.declared.Phase.TheVariants.{Idle, Probe, Top, Under, Set, Clear}
use Rattle.tracker.specs.declared.Transfers.{Transfers}
use Rattle.tracker.specs.declared.Tracker.{Tracker}
use Rattle.tracker.specs.Tracker.{is_idle}
use Rattle.tracker.specs.Tracker as Tracker
use Rattle.tracker.specs.Answer.{ok}
use Rattle.rules.specs.Copies.{Copy, fetches, tally}
use Rattle.rules.specs.Place.{bring_copies, create_copies, place_copies, drain_copies}
use Rattle.rules.specs.Step.{Turned, by_phase}
use Rattle.rules.specs.Whole.{limits}
use Rattle.rules.specs.Copied.{copies_at, copies, Each, most_at}
use Rattle.rules.specs.Calls.{Out, stepped, step_tests, all_idle}
use Rattle.rules.specs.Run.{Call, steps, drains, Kept, kept, rows_of, does}
use Rattle.rules.specs.Run as Run
use Rattle.rules.proofs.Whole.{whole-facts, t-least, l-least, l-most}
use Rattle.rules.proofs.Trackers.{tracker-same}
use Rattle.rules.proofs.Situation.{Situation}
use Rattle.rules.proofs.Calls.{lengths-right, bytes-right, memory-right, situation, turn-by_phase, step_is, step-free, step-refused, drain-is, drain-busy}
use Rattle.rules.proofs.Copied.{tally-none, length-copies, Makes, makes-by_phase, drains as drains-copies}
use Rattle.rules.proofs.Fetched.{each-fetched, fetched-line}
use Rattle.rules.proofs.AnotherMemory.{Alike, same-but-memory, same-by_phase}
use Rattle.circle.proofs.Circle.{tracker_in}
use Rattle.circle.proofs.Becomes.{becomes-same, becomes-other}
use Rattle.circle.proofs.Ready.{Ready, long}
use Rattle.circle.proofs.Link.{Anew, anew-issued, each}
use Rattle.circle.proofs.Calls.{bare, Outcome, outcome, call-keeps, ok-not-no}
use Rattle.circle.proofs.Calls as Calls
use Rattle.cache.specs.declared.State.{State}
use Rattle.circle.specs.LastTurn.{levels_of}
use Rattle.session.specs.Session.{kept_of}
use Rattle.session.proofs.Session.{met-does, session-leaves}
use Rattle.demands.specs.Event.{Event, goes_on, event, TurnOf}
use Rattle.demands.specs.Event as Events
use Rattle.demands.specs.Demand3.{EndOf}
use Rattle.demands.specs.Transfers.{step_copies, made_by, made_from, made, Sums, but_memory, over as over-memory, Fetched, OfBusy, OfStep, OfDrain, OfSession, TransfersAreCopies}
use Rattle.demands.proofs.Noted.{Turn, went, over, step-turn, run-shape, event-bare}
use Rattle.demands.proofs.Start.{begun}

-- sums below the number at which they stay are the lengths themselves
sums-of : (m : Transfers) (cs : List Copy) → m ≡ tally cs → length cs ≤ 255 → Sums m cs
unfolding tally
sums-of m cs e q =
    let n = length-copies cs in
    record { fetched = ap (λ (z : Transfers). z.fetched) e ∙ omega arith; back = ap (λ (z : Transfers). z.back) e ∙ omega arith }

sums-together : (m : Transfers) (cs : List Copy) → Sums m cs → m.fetched + m.back ≡ length cs
sums-together m cs s = let n = length-copies cs in let p = s.fetched in let q = s.back in omega arith

-- a device's lines are more than its levels
few-levels : (shape : Shape) → limits shape ≡ true → top_of shape < 64
few-levels shape h =
    let m : top_of shape * 1 ≤ top_of shape * shape.t = mul-le-mul_left (top_of shape) (t-least shape h) in
    omega (arith, l-least shape h, l-most shape h)

most-most : (top : ℕ) (p : Phase) → most_at top p ≤ 2 * suc top
most-most top Idle = omega arith
most-most top (Probe d) = omega arith
most-most top Top = omega arith
most-most top (Under d) = omega arith
most-most top (Set d) = omega arith
most-most top (Clear d) = omega arith

-- a tracker and the copies made for its access
record Counted (top : ℕ) (t : Tracker) (cs : List Copy) : Type 0 where
  tallied : t.transfers ≡ tally cs
  few : length cs ≤ most_at top t.phase

abbrev Counts : Kept → (ℕ → List Copy) → Type 0
Counts k before = (x : ℕ) → is_idle (tracker_in k x) ≡ false → Counted (top_of k.state.shape) (tracker_in k x) (before x)

of-busy : (shape : Shape) (t : Tracker) (cs : List Copy) → limits shape ≡ true → Counted (top_of shape) t cs → OfBusy shape t cs
of-busy shape t cs h c =
    let s : Sums t.transfers cs = sums-of t.transfers cs c.tallied (let a = c.few in let b = most-most (top_of shape) t.phase in omega (arith, few-levels shape h)) in
    record { sums = s; within = let e = sums-together t.transfers cs s in let a = c.few in omega arith }

-- a step of tracker x, which is busy
module _ (k : Kept) (s : Ready k) (x : ℕ) (h : x < k.state.shape.t) (b : is_idle (tracker_in k x) ≡ false) where
  abbrev at_x : Situation
  at_x = situation k.state k.bytes k.memory s.0 s.1 x h b

  abbrev turn : Turned
  turn = by_phase k.state.shape x (tracker_in k x) (rows_of k) (tracker_in k x).phase

  is-turn : does k (steps x) ≡ stepped k.state x turn
  unfolding does
  is-turn = step_is k.state k.bytes k.memory s.0 s.1 x h b ∙ ap (stepped k.state x) (turn-by_phase k.state k.bytes k.memory s.0 s.1 x h b)

  left_is : tracker_in (kept (does k (steps x))) x ≡ turn.tracker
  left_is = ap (λ (o : Out). tracker_in (kept o) x) is-turn ∙ tracker-same k.state.trackers x turn.tracker (let n = long k s in omega arith)

  abbrev highest : ℕ
  highest = top_of k.state.shape

  module _ (before : List Copy) (c : Counted highest (tracker_in k x) before) where
    makes : Makes k.state.shape (tracker_in k x) (rows_of k) before (step_copies k x) turn
    unfolding copies
    makes = makes-by_phase at_x before c.tallied (tracker_in k x).phase refl

    grown : length (before ++ step_copies k x) ≤ most_at highest turn.tracker.phase
    grown = rw (length-append before (step_copies k x)) (let a = makes.within in let d = c.few in omega arith)

    counted-on : is_idle turn.tracker ≡ false → Counted highest turn.tracker (before ++ step_copies k x)
    counted-on i = record { tallied = (rw i at makes.sums-are); few = grown }

    -- an ending: the tracker is idle again
    module _ (i : is_idle turn.tracker ≡ true) where
      sums-end : Sums turn.transfers (before ++ step_copies k x)
      sums-end = sums-of turn.transfers (before ++ step_copies k x) (rw i at makes.sums-are) (let a = grown in let d = most-most highest turn.tracker.phase in omega (arith, few-levels k.state.shape (whole-facts k.state s.0).limits-ok))

      most-end : turn.transfers.fetched + turn.transfers.back ≤ 2 * levels_of k.state.shape
      most-end = let e = sums-together turn.transfers (before ++ step_copies k x) sums-end in let a = grown in let d = most-most highest turn.tracker.phase in omega arith

      most-end-set : (d : ℕ) → (tracker_in k x).phase ≡ Set d → turn.transfers.fetched + turn.transfers.back ≤ 2 * levels_of k.state.shape - 1
      unfolding copies
      most-end-set d p =
          let none : step_copies k x ≡ [] = rw p refl in
          let n : length (before ++ step_copies k x) ≡ length before = ap (λ (cs : List Copy). length (before ++ cs)) none ∙ length-append before [] ∙ omega arith in
          let q : length before ≤ most_at highest (Set d) = rw p at c.few in
          let e = sums-together turn.transfers (before ++ step_copies k x) sums-end in
          omega arith

-- every call keeps the invariant
module _ (k : Kept) (s : Ready k) (before : ℕ → List Copy) (C : Counts k before) where
  counts-turn : (x : ℕ) → x < k.state.shape.t → is_idle (tracker_in k x) ≡ false → (t' : Tracker) (e : Event) → Anew k (kept (does k (steps x))) x t' → Turn x (tracker_in k x) t' e
      → Counts (kept (does k (steps x))) (made_by k e before)
  counts-turn x h b t' e a (went q i m) =
      rw (q, a.shape_is.levels) (each (λ (y : ℕ) (t : Tracker). is_idle t ≡ false → Counted (top_of k.state.shape) t (made_by k (goes_on x) before y)) k (kept (does k (steps x))) x t' a
      (λ j. rw (becomes-same before x (before x ++ step_copies k x)) (rw (is-left) (counted-on k s x h b (before x) (C x b) (rw is-left at i))))
      (λ y ne j. rw (becomes-other before x y (before x ++ step_copies k x) ne) (C y j)))
    where
      is-left : t' ≡ (turn k s x h b).tracker
      is-left = sym a.own ∙ left_is k s x h b
  counts-turn x h b t' e a (over d q i) =
      rw (q, a.shape_is.levels) (each (λ (y : ℕ) (t : Tracker). is_idle t ≡ false → Counted (top_of k.state.shape) t (made_by k (Events.ends x d (Tracker.tick (tracker_in k x).turns)) before y)) k (kept (does k (steps x))) x t' a
      (λ j. absurd (not-both-ways i j))
      (λ y ne j. rw (becomes-other before x y (before x ++ step_copies k x) ne) (C y j)))

  counts-at : (c : Call) (o : Out) → Outcome k c o → Counts (kept o) (made_by k (event c o.said) before)
  counts-at c o (Calls.refused r q z) = subst (λ (w : Kept). Counts w (made_by k (event c o.said) before)) (sym z) (rw q C)
  counts-at c o (Calls.issued x access h e is) =
      rw (ap (λ (a : Out). a.said) is, (anew-issued k s x access h is).shape_is.levels) (each (λ (y : ℕ) (t : Tracker). is_idle t ≡ false → Counted (top_of k.state.shape) t (made_by k (Events.begins x access) before y)) k (kept o) x (Tracker.issued access)
      (anew-issued k s x access h is)
      (λ j. subst (Counted (top_of k.state.shape) (Tracker.issued access)) (sym (becomes-same before x [])) (record { tallied = sym tally-none; few = omega arith }))
      (λ y ne j. rw (becomes-other before x y [] ne) (C y j)))
  counts-at c o (Calls.stepped x h b) = let r = step-turn k s x h b in counts-turn x h b r.0 (event (steps x) o.said) r.1 r.2
  counts-at c o (Calls.drained q is) = rw is C

  counts-call : (c : Call) → Counts (kept (does k c)) (made_by k (event c (does k c).said) before)
  counts-call c = rw (event-bare c (does k c).said) (counts-at (bare c) (does k c) (outcome k s c))

counts-run : (cs : List Call) (k : Kept) (before : ℕ → List Copy) → Ready k → Counts k before → Ready (Run.ended k cs) × Counts (Run.ended k cs) (made_from before k cs)
unfolding Run.ended made_from
counts-run [] k before s C = (s, C)
counts-run (c ∷ cs) k before s C = counts-run cs (kept (does k c)) (made_by k (event c (does k c).said) before) (call-keeps k s c) (counts-call k s before C c)

-- a refused step is no turn
no-turn : (k : Kept) (s : Ready k) (x : ℕ) → 0 < refusal (step_tests k.state.shape x k.state.trackers) → TurnOf x (event (steps x) (does k (steps x)).said) → ⊥
unfolding does
no-turn k s x h t = subst (λ (o : Out). TurnOf x (event (steps x) o.said)) (step-refused k.state k.bytes k.memory s.0 s.1 x h) t

copies-unread : (k : Kept) (m : List ℕ) (x : ℕ) → step_copies (over-memory k m) x ≡ step_copies k x
unfolding copies bring_copies place_copies create_copies
copies-unread k m x = by-phase (tracker_in k x).phase
  where
    by-phase : (p : Phase) → copies_at k.state.shape (tracker_in k x) (rows_of (over-memory k m)) p ≡ copies_at k.state.shape (tracker_in k x) (rows_of k) p
    by-phase Idle = refl
    by-phase (Probe d) = refl
    by-phase Top = refl
    by-phase (Under d) = refl
    by-phase (Set d) = refl
    by-phase (Clear d) = refl

module _ (k : Kept) (s : Ready k) (x : ℕ) (before : List Copy) (C : is_idle (tracker_in k x) ≡ false → Counted (top_of k.state.shape) (tracker_in k x) before) where
  of-turn : x < k.state.shape.t → is_idle (tracker_in k x) ≡ false → OfStep k x before (does k (steps x))
  unfolding copies
  of-turn h b = record {
    sums = λ e. subst (λ (o : Out). Sums o.transfers (before ++ step_copies k x)) (sym is) (sums-end k s x h b before (C b) (idle-now e));
    most = λ e. subst (λ (o : Out). o.transfers.fetched + o.transfers.back ≤ 2 * levels_of k.state.shape) (sym is) (most-end k s x h b before (C b) (idle-now e));
    most-set = λ d e p. subst (λ (o : Out). o.transfers.fetched + o.transfers.back ≤ 2 * levels_of k.state.shape - 1) (sym is) (most-end-set k s x h b before (C b) (idle-now e) d p);
    writes = ap (λ (o : Out). o.memory) is ∙ (makes k s x h b before (C b)).backed-is;
    fetched = fetched-each;
    reads = λ m n f. (ap but_memory (is-turn (over-memory k m) (ready-over m n) x h b) ∙ ap (λ (o : Turned). but_memory (stepped k.state x o)) (same-but-memory (another m n f)) ∙ sym (ap but_memory is), copies-unread k m x);
  }
    where
      is : does k (steps x) ≡ stepped k.state x (turn k s x h b)
      is = is-turn k s x h b

      long-memory : length k.memory ≡ length_of (top_of k.state.shape) k.state.shape.n
      long-memory = memory-right k.state.shape k.bytes k.memory s.1

      ready-over : (m : List ℕ) → length m ≡ length k.memory → Ready (over-memory k m)
      ready-over m n = (s.0, lengths-right k.state.shape k.bytes m (bytes-right k.state.shape k.bytes k.memory s.1) (n ∙ long-memory))

      idle-now : EndOf x (event (steps x) (does k (steps x)).said) → is_idle (turn k s x h b).tracker ≡ true
      idle-now e = let r = step-turn k s x h b in by_turn r.0 r.1 (event (steps x) (does k (steps x)).said) r.2 e
        where
          by_turn : (t' : Tracker) → Anew k (kept (does k (steps x))) x t' → (v : Event) → Turn x (tracker_in k x) t' v → EndOf x v → is_idle (turn k s x h b).tracker ≡ true
          by_turn t' a v (went q i m) e = absurd (subst (EndOf x) q e)
          by_turn t' a v (over d q i) e = ap is_idle (sym (left_is k s x h b) ∙ a.own) ∙ i

      fetched-each : Each (Fetched k) (fetches (step_copies k x))
      fetched-each = each-fetched (at_x k s x h b) (Fetched k) (λ c cl out. record { in-no-line = out; as-memory = fetched-line (at_x k s x h b) long-memory c cl out }) (tracker_in k x).phase refl

      another : (m : List ℕ) → length m ≡ length k.memory → Each (λ c. block_at m c ≡ block_at k.memory c) (fetches (step_copies k x))
          → Alike (by_phase k.state.shape x (tracker_in k x) (rows_of (over-memory k m)) (tracker_in k x).phase) (turn k s x h b)
      another m n f = same-by_phase (at_x k s x h b) m long-memory (n ∙ long-memory) (tracker_in k x).phase refl f

  of-step : TurnOf x (event (steps x) (does k (steps x)).said) → OfStep k x before (does k (steps x))
  of-step t = ⊎_elim (λ e. let h = step-free k.state k.bytes k.memory s.0 s.1 x e in of-turn h.0 h.1) (λ h. absurd (no-turn k s x h t))
      (refused-or-not (refusal (step_tests k.state.shape x k.state.trackers)))

-- an accepted drain
of-drain : (k : Kept) → Ready k → (does k drains).said ≡ ok → OfDrain k (does k drains)
unfolding does
of-drain k s e = ⊎_elim (λ i. accepted i) (λ i. absurd (ok-not-no (sym e ∙ ap (λ (o : Out). o.said) (drain-busy k.state k.bytes k.memory s.0 s.1 i)))) (true-or-false (all_idle k.state))
  where
    accepted : all_idle k.state ≡ true → OfDrain k (does k drains)
    accepted i =
        let f = whole-facts k.state s.0 in
        let d = drains-copies (rows_of k) f.lined.apart k.state.shape.l in
        rw (drain-is k.state k.bytes k.memory s.0 s.1 i)
        (record { sums = sums-of _ (drain_copies k.state.shape.l (rows_of k)) refl (let q = d.few-backs in let m = l-most k.state.shape f.limits-ok in omega arith); no-fetch = d.no-fetch; writes = d.backed-is })

-- a session's state, and the call that comes next
of-session : (before : ℕ → List Copy) (s : State) (b m : List ℕ) → Ready (kept_of s b m) → Counts (kept_of s b m) before → below_top s.shape ≡ 0 → OfSession before s b m
of-session before s b m ready C z = record {
  levels = ap (λ (below : ℕ). suc (suc below)) z;
  busy = λ x i. of-busy s.shape _ (before x) (whole-facts _ ready.0).limits-ok (C x i);
  steps = λ x r b' m' met t. let e = met-does met in
      subst (OfStep (kept_of s b m) x (before x)) (sym e) (of-step (kept_of s b m) ready x (before x) (C x) (subst (λ (o : Out). TurnOf x (event (steps x) o.said)) e t));
  drains = λ r m' met t. let e = met-does met in subst (OfDrain (kept_of s b m)) (sym e) (of-drain (kept_of s b m) ready (sym (ap (λ (o : Out). o.said) e) ∙ t));
}

pub transfers-are-copies : TransfersAreCopies
transfers-are-copies t s s' b m b' m' cs answers st p =
    let g = begun t s b m st in
    let ready : Ready (kept_of s b m) = (g.agrees.is_whole, g.agrees.right) in
    let c = counts-run cs (kept_of s b m) (λ x. []) ready (λ x i. absurd (not-both-ways (ap Tracker.is_idle_at (g.idle x)) i)) in
    let e = sym (session-leaves p) in
    of-session (made (kept_of s b m) cs) s' b' m' (subst Ready e c.0) (subst (λ (k : Kept). Counts k (made (kept_of s b m) cs)) e c.1)
    (ap (λ (k : Kept). below_top k.state.shape) (session-leaves p) ∙ (run-shape (kept_of s b m) ready cs).levels ∙ g.levels)
