-- DEMAND 3, proved: what the circle passes on is ready, and its trackers keep the promises of the levels.
use mathlib.Core.Path.{◌≡◌, refl, sym, ap, ◌∙◌, subst}
use mathlib.Core.Logic.{◌≢◌}
use mathlib.Core.Bool.{Bool, true, false}
use mathlib.Core.List.{List}
use Prim.Native.Nat.{ℕ, zero, suc, ◌-◌, ◌<◌, ◌≤◌, min}
use native.Mathlib.Omega.{arith}
use borrow.Author.Tests.{eqb-true, eq-eqb}
use Rattle.laws.proofs.Choice.{not-both-ways, both_left, both_right, both_true}
use Rattle.geometry.specs.declared.Shape.{Shape}
use Rattle.geometry.specs.Shape.{below_top}
use Rattle.geometry.specs.TagMemory.{block_over}
use Rattle.tracker.specs.declared.Access.{Access}
use Rattle.tracker.specs.declared.Phase.{Phase}
use Rattle.tracker.specs.declared.Phase.TheVariants.{Idle, Probe, Top, Under, Set, Clear}
use Rattle.tracker.specs.declared.Tracker.{Tracker}
use Rattle.tracker.specs.Tracker.{is_idle, is_idle_at, holds_at, most_turns}
use Rattle.tracker.specs.Tracker as Tracker
use Rattle.tracker.specs.Answer.{Said, ok, no}
use Rattle.rules.specs.State.{tracker_at}
use Rattle.rules.specs.Whole.{holds}
use Rattle.rules.specs.Calls.{Out}
use Rattle.rules.specs.Run.{Call, issues, steps, drains, Kept, kept, does}
use Rattle.circle.specs.Order.{next, Order, becomes}
use Rattle.circle.specs.Table.{Move, waits, to, ends, rule}
use Rattle.circle.specs.LastTurn.{bound, last_turn_of}
use Rattle.circle.proofs.Ending.{Ending}
use Rattle.circle.proofs.Circle.{tracker_in, Circle, begins, turned, passed, issued, drained, refused}
use Rattle.circle.proofs.InTime.{InTime, LongestWait}
use Rattle.circle.proofs.Levels.{rests, before, UnderWay, promises-begin, promises-issue, promises-turn, promises-over, promises-within, due_now}
use Rattle.circle.proofs.Levels as Levels
use Rattle.circle.proofs.Phases.{stand, phases, fits}
use Rattle.circle.proofs.ByTable.{Moved}
use Rattle.circle.proofs.Ready.{Ready, issue-keeps, step_keeps, drain-keeps, never-refused}
use Rattle.circle.proofs.Calls.{Outcome, outcome, ok-not-no, refused-same}
use Rattle.circle.proofs.Calls as Calls
use Rattle.circle.proofs.Link.{Anew, anew-issued, each, Stepped, by-table, still-busy, tick-min, ending-counts}
use Rattle.circle.proofs.Becomes.{becomes-same, becomes-other}

-- what rests is idle
busy-stands : (below : ℕ) (write : Bool) (p : Phase) → is_idle_at p ≡ false → stand below write p ≢ rests
busy-stands below write Idle b e = not-both-ways refl b
busy-stands below write (Probe d) b e = let z : ◌≡◌ {A = ℕ} 0 1 = cc in omega arith
busy-stands below write Top b e = let z : ◌≡◌ {A = ℕ} 0 1 = cc in omega arith
busy-stands below write (Under d) b e = let z : ◌≡◌ {A = ℕ} 0 1 = cc in omega arith
busy-stands below write (Set d) b e = let z : ◌≡◌ {A = ℕ} 0 1 = cc in omega arith
busy-stands below write (Clear d) b e = let z : ◌≡◌ {A = ℕ} 0 1 = cc in omega arith

idle-rests : (below : ℕ) (write : Bool) (p : Phase) → is_idle_at p ≡ true → stand below write p ≡ rests
idle-rests below write Idle b = refl
idle-rests below write (Probe d) b = absurd (not-both-ways b refl)
idle-rests below write Top b = absurd (not-both-ways b refl)
idle-rests below write (Under d) b = absurd (not-both-ways b refl)
idle-rests below write (Set d) b = absurd (not-both-ways b refl)
idle-rests below write (Clear d) b = absurd (not-both-ways b refl)

-- who asks is at Top
asks-top : (below : ℕ) (write : Bool) (p : Phase) → stand below write p ≡ before 0 → p ≡ Top
asks-top below write Idle e = absurd (let z : ◌≡◌ {A = ℕ} 0 1 = cc in omega arith)
asks-top below write (Probe d) e = absurd (let z : suc (below - d) ≡ 0 = cc in omega arith)
asks-top below write Top e = refl
asks-top below write (Under d) e = absurd (let z : ◌≡◌ {A = ℕ} 0 1 = cc in omega arith)
asks-top below write (Set d) e = absurd (let z : ◌≡◌ {A = ℕ} 0 1 = cc in omega arith)
asks-top below write (Clear d) e = absurd (let z : ◌≡◌ {A = ℕ} 0 1 = cc in omega arith)

holds_has : (top n : ℕ) (t : Tracker) (b : ℕ) → holds top n t b ≡ true → (holds_at t.phase ≡ true) × (b ≡ block_over top n t.group)
unfolding holds
holds_has top n t b h = (both_left _ _ h, sym (eqb-true _ _ (both_right _ _ h)))

has-holds : (top n : ℕ) (t : Tracker) (b : ℕ) → (holds_at t.phase ≡ true) × (b ≡ block_over top n t.group) → holds top n t b ≡ true
unfolding holds
has-holds top n t b h = both_true _ _ h.0 (eq-eqb _ _ (sym h.1))

-- a tracker as the levels see it
abbrev access_of : (below n : ℕ) → Tracker → UnderWay Phase
access_of below n t = record { at = t.phase; write = t.write; lock = block_over (suc below) n t.group }

-- what a move of the table leaves of a tracker
left-of : (below n : ℕ) (t t' : Tracker) (m : Move Phase) (said : Said) → Moved t m said t' → Levels.Left (suc below) (phases below) 0 (access_of below n t) m (access_of below n t')
left-of below n t t' waits said h = ap (access_of below n) h.1
left-of below n t t' (to p) said h = ap (access_of below n) h.1
left-of below n t t' ends said h = rw h.1 refl

-- what is known of a busy access that was issued under the circle: the turn it is promised, and its count of the turns given
record Known (below M : ℕ) (t : Tracker) (due given : ℕ) : Type 0 where
  last : due ≡ bound (suc (suc below)) (suc M) t.write t.bottom
  counts : t.turns ≡ min given most_turns

module _ (below M : ℕ) (o : Order (suc M)) where
  abbrev accesses : Kept → ℕ → UnderWay Phase
  accesses k x = access_of below k.state.shape.n (tracker_in k x)

  abbrev KnownAt : (under : ℕ → Bool) (due given : ℕ → ℕ) → ℕ → Tracker → Type 0
  KnownAt under due given x t = x < suc M → under x ≡ true → is_idle t ≡ false → Known below M t (due x) (given x)

  -- what the circle keeps, on a device with this level below the top
  record Keeps (k : Kept) (i : ℕ) (given : ℕ → ℕ) (under : ℕ → Bool) : Type 0 where
    ready : Ready k
    levels : below_top k.state.shape ≡ below
    count : k.state.shape.t ≡ suc M
    due : ℕ → ℕ
    promises : Levels.Promises (suc below) (phases below) M o (accesses k) given due i
    known : (x : ℕ) → KnownAt under due given x (tracker_in k x)

  keeps-begin : (k : Kept) (i : ℕ) (given : ℕ → ℕ) → below_top k.state.shape ≡ below → k.state.shape.t ≡ suc M → Ready k → i < suc M → Keeps k i given (λ x. false)
  keeps-begin k i given z c s h = record {
    ready = s;
    levels = z;
    count = c;
    due = due_now (suc below) (phases below) M o (accesses k) given;
    promises = promises-begin (suc below) (phases below) M o (accesses k) given i h;
    known = λ x h u b. absurd (not-both-ways u refl);
  }

  module _ (k : Kept) (i : ℕ) (given : ℕ → ℕ) (under : ℕ → Bool) (K : Keeps k i given under) where
    in-shape : (x : ℕ) → x < suc M → x < k.state.shape.t
    in-shape x h = let c = K.count in omega arith

    keeps-over : is_idle (tracker_in k (o.tracker i)) ≡ true → Keeps k (next (suc M) i) given under
    keeps-over e = record {
      ready = K.ready;
      levels = K.levels;
      count = K.count;
      due = K.due;
      promises = promises-over (suc below) (phases below) M o (accesses k) given K.due i K.promises (idle-rests below (tracker_in k (o.tracker i)).write (tracker_in k (o.tracker i)).phase e);
      known = K.known;
    }

    issue-at : (x : ℕ) (access : Access) (o' : Out) → Outcome k (issues x access) o' → o'.said ≡ ok
        → (x < suc M) × (is_idle (tracker_in k x) ≡ true) × Anew k (kept o') x (Tracker.issued access)
    issue-at x access o' (Calls.refused r q z) e = absurd (ok-not-no (sym e ∙ q))
    issue-at x access o' (Calls.issued x' access' p q is) e =
        let l : x < suc M = let c = K.count in omega arith in
        (l, q, anew-issued k K.ready x access p is)

    keeps-issue : (x : ℕ) (access : Access) → (does k (issues x access)).said ≡ ok
        → Keeps (kept (does k (issues x access))) i (becomes given x 0) (becomes under x true)
    keeps-issue x access e = record {
      ready = issue-keeps k K.ready x access;
      levels = a.shape_is.levels ∙ K.levels;
      count = a.shape_is.count ∙ K.count;
      due = due';
      promises =
          promises-issue (suc below) (phases below) M o (accesses k) (accesses k') given (becomes given x 0) K.due due' i x (block_over (suc below) k.state.shape.n access.group) access.write access.bottom K.promises hx
          (idle-rests below (tracker_in k x).write (tracker_in k x).phase r.1) (rw (a.shape_is.leaves, a.own) refl) (becomes-same given x 0) (becomes-same K.due x last)
          (λ y ne. (rw (a.shape_is.leaves, a.other y ne) refl, becomes-other given x y 0 ne, becomes-other K.due x y last ne));
      known = each (KnownAt (becomes under x true) due' (becomes given x 0)) k k' x (Tracker.issued access) a
          (λ h u b. record { last = becomes-same K.due x last; counts = rw (becomes-same given x 0) (omega arith) })
          (λ y ne h u b. rw (becomes-other K.due x y last ne, becomes-other given x y 0 ne) (K.known y h (sym (becomes-other under x y true ne) ∙ u) b));
    }
      where
        k' : Kept
        k' = kept (does k (issues x access))

        r : (x < suc M) × (is_idle (tracker_in k x) ≡ true) × Anew k k' x (Tracker.issued access)
        r = issue-at x access (does k (issues x access)) (outcome k K.ready (issues x access)) e

        hx : x < suc M
        hx = r.0

        a : Anew k k' x (Tracker.issued access)
        a = r.2

        last : ℕ
        last = bound (suc (suc below)) (suc M) access.write access.bottom

        due' : ℕ → ℕ
        due' = becomes K.due x last

    keeps-turn : is_idle (tracker_in k (o.tracker i)) ≡ false
        → Keeps (kept (does k (steps (o.tracker i)))) (next (suc M) i) (becomes given (o.tracker i) (suc (given (o.tracker i)))) under
    keeps-turn busy = record {
      ready = step_keeps k K.ready x;
      levels = a.shape_is.levels ∙ K.levels;
      count = a.shape_is.count ∙ K.count;
      due = K.due;
      promises =
          promises-turn (suc below) (phases below) M o (accesses k) (accesses k') given given' K.due i r.held m K.promises
          (busy-stands below t.write t.phase busy) (fits below r.held r.quit r.set t.write t.phase (rw K.levels at r.level))
          (rw (a.shape_is.leaves, a.own) (left-of below k.state.shape.n t r.left m (does k (steps x)).said by-rule))
          holder free (becomes-same given x (suc (given x)))
          (λ y ne. (rw (a.shape_is.leaves, a.other y ne) refl, becomes-other given x y (suc (given x)) ne, refl));
      known = each (KnownAt under K.due given') k k' x r.left a own
          (λ y ne h u b. rw (becomes-other given x y (suc (given x)) ne) (K.known y h u b));
    }
      where
        x : ℕ
        x = o.tracker i

        hx : x < suc M
        hx = o.tracker-below i K.promises.place

        t : Tracker
        t = tracker_in k x

        k' : Kept
        k' = kept (does k (steps x))

        given' : ℕ → ℕ
        given' = becomes given x (suc (given x))

        r : Stepped k x
        r = by-table k K.ready x (in-shape x hx) busy

        a : Anew k k' x r.left
        a = r.made

        m : Move Phase
        m = rule below r.held r.quit r.set t.write t.phase

        by-rule : Moved t m (does k (steps x)).said r.left
        by-rule = rw K.levels at r.by-rule

        lock : ℕ
        lock = block_over (suc below) k.state.shape.n t.group

        holder : stand below t.write t.phase ≡ before 0 → r.held ≡ true → (y : ℕ) × (y < suc M) × (y ≢ x) × Levels.Has (suc below) (phases below) M (accesses k y) lock
        holder z h =
            let q = r.held-is (asks-top below t.write t.phase z) h in
            let l : q.who < suc M = let e = q.who-lt in let c = K.count in omega arith in
            (q.who, l, q.not-x, holds_has (suc below) k.state.shape.n (tracker_in k q.who) lock (rw K.levels at q.holds-it))

        free : stand below t.write t.phase ≡ before 0 → r.held ≡ false → (y : ℕ) → y < suc M → y ≢ x → Levels.Has (suc below) (phases below) M (accesses k y) lock → ⊥
        free z h y hy ne q =
            r.free-is (asks-top below t.write t.phase z) h
            (record { who = y; who-lt = in-shape y hy; not-x = ne; holds-it = rw K.levels (has-holds (suc below) k.state.shape.n (tracker_in k y) lock q) })

        own : KnownAt under K.due given' x r.left
        own h u b =
            let s = still-busy t r.left m (does k (steps x)).said by-rule b in
            let q = K.known x h u busy in
            record {
              last = rw (s.write, s.bottom) q.last;
              counts = rw (becomes-same given x (suc (given x))) (s.turns ∙ tick-min t.turns (given x) q.counts);
            }

    -- the same shape and trackers
    keeps_same : (k' : Kept) → Ready k' → k'.state.shape ≡ k.state.shape → k'.state.trackers ≡ k.state.trackers → Keeps k' i given under
    keeps_same k' s z e = record {
      ready = s;
      levels = ap below_top z ∙ K.levels;
      count = ap (λ (a : Shape). a.t) z ∙ K.count;
      due = K.due;
      promises = subst (λ (s : ℕ → UnderWay Phase). Levels.Promises (suc below) (phases below) M o s given K.due i) same K.promises;
      known = rw e K.known;
    }
      where
        same : accesses k ≡ accesses k'
        same =
            sym (ap (λ (a : Shape). λ (y : ℕ). access_of below a.n (tracker_in k' y)) z
            ∙ ap (λ (ts : List Tracker). λ (y : ℕ). access_of below k.state.shape.n (tracker_at ts y)) e)

    drain-at : (o' : Out) → Outcome k drains o' → o'.said ≡ ok → Ready (kept o') → Keeps (kept o') i given under
    drain-at o' (Calls.refused r q z) e s = absurd (ok-not-no (sym e ∙ q))
    drain-at o' (Calls.drained q is) e s = keeps_same (kept o') s (ap (λ (a : Out). a.state.shape) is) (ap (λ (a : Out). a.state.trackers) is)

    keeps-drain : (does k drains).said ≡ ok → Keeps (kept (does k drains)) i given under
    keeps-drain e = drain-at (does k drains) (outcome k K.ready drains) e (drain-keeps k K.ready)

    keeps-refused : (c : Call) (n : ℕ) → (does k c).said ≡ no n → Keeps (kept (does k c)) i given under
    keeps-refused c n e = subst (λ (k' : Kept). Keeps k' i given under) (sym (refused-same k K.ready c n e)) K

    in-time : InTime (suc M) k given under
    in-time = record {
      busy = within;
      ending = λ x said h u e. ending_at x (does k (steps x)) said (outcome k K.ready (steps x)) h u e refl;
      accepted = λ x c h b e. never-refused k K.ready x c (in-shape x h) b e;
    }
      where
        within : (x : ℕ) → x < suc M → under x ≡ true → is_idle (tracker_in k x) ≡ false → given x < last_turn_of k.state.shape (suc M) (tracker_in k x).write (tracker_in k x).bottom
        within x h u b =
            let l : given x < K.due x =
            promises-within (suc below) (phases below) M o (accesses k) given K.due i K.promises x h (busy-stands below (tracker_in k x).write (tracker_in k x).phase b) in
            let p = (K.known x h u b).last in
            rw K.levels (omega arith)

        ending_at : (x : ℕ) (o' : Out) (said : ℕ) → Outcome k (steps x) o' → x < suc M → under x ≡ true → Ending (does k (steps x)).said said → o'.said ≡ (does k (steps x)).said
            → (said ≡ min (suc (given x)) most_turns) × (suc (given x) ≤ last_turn_of k.state.shape (suc M) (tracker_in k x).write (tracker_in k x).bottom)
        ending_at x o' said (Calls.refused r q z) h u e same = absurd (subst (λ (a : Said). Ending a said) (sym same ∙ q) e)
        ending_at x o' said (Calls.stepped x' p b) h u e same = (ending-counts k x said (given x) (by-table k K.ready x p b) e (K.known x h u b).counts, within x h u b)

-- a run keeps the level below the top, from the state in which it began
keeps : (M : ℕ) (o : Order (suc M)) {k : Kept} {i : ℕ} {given : ℕ → ℕ} {under : ℕ → Bool} → Circle (suc M) o k i given under → (below : ℕ) × Keeps below M o k i given under
keeps M o (begins k i given c w l h) = (below_top k.state.shape, keeps-begin _ M o k i given refl c (w, l) h)
keeps M o (turned {k = k} {i = i} {given = given} {under = under} r b) = let K = keeps M o r in (K.0, keeps-turn K.0 M o k i given under K.1 b)
keeps M o (passed {k = k} {i = i} {given = given} {under = under} r b) = let K = keeps M o r in (K.0, keeps-over K.0 M o k i given under K.1 b)
keeps M o (issued {k = k} {i = i} {given = given} {under = under} r x access e) = let K = keeps M o r in (K.0, keeps-issue K.0 M o k i given under K.1 x access e)
keeps M o (drained {k = k} {i = i} {given = given} {under = under} r e) = let K = keeps M o r in (K.0, keeps-drain K.0 M o k i given under K.1 e)
keeps M o (refused {k = k} {i = i} {given = given} {under = under} r c n e) = let K = keeps M o r in (K.0, keeps-refused K.0 M o k i given under K.1 c n e)

-- DEMAND 3
pub longest-wait : LongestWait
longest-wait zero o k i given under r = record { busy = λ x h u b. absurd (omega arith); ending = λ x said h u e. absurd (omega arith); accepted = λ x c h b e. omega arith }
longest-wait (suc M) o k i given under r = let K = keeps M o r in in-time K.0 M o k i given under K.1
