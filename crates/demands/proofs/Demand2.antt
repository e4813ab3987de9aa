-- DEMAND 2, proved: the log of the flat machine is that of the run, and a memory at rest reads as the last row.
use mathlib.Core.Path.{◌≡◌, refl, sym, ap, ◌∙◌, subst}
use mathlib.Core.Bool.{true, false}
use mathlib.Core.List.{List, [], ◌∷◌, ◌++◌}
use mathlib.Core.Logic.{◌⊎◌, inl, inr, ⊎_elim}
use Prim.Native.Nat.{ℕ, zero, suc, ◌+◌, ◌≤◌, ◌<◌}
use native.Mathlib.Omega.{arith}
use lib.Dec.{eqb}
use lib.ListN.{length, get_or-eq_default}
use Rattle.tracker.specs.declared.Access.{Access}
use Rattle.laws.specs.Choice.{pick, both}
use Rattle.laws.proofs.Choice.{not-both-ways}
use Rattle.laws.proofs.Splice.{lt-or-ge}
use Rattle.geometry.specs.Shape.{below_top, top_of}
use Rattle.geometry.specs.TagMemory.{groups, in_limits, memory_length}
use Rattle.memory.specs.PlainReading.{plain_group_of, plain_group, plain_reading}
use Rattle.memory.specs.True.{is_true_of, is_true}
use Rattle.memory.proofs.Reading.{accepted}
use Rattle.tracker.specs.Tracker.{is_idle, is_idle_at}
use Rattle.tracker.specs.Answer.{Said}
use Rattle.rules.specs.State.{tracker_at}
use Rattle.rules.specs.Run.{Call, Kept, kept, does, answers, ended}
use Rattle.rules.proofs.Whole.{whole-facts, in_limits-of}
use Rattle.rules.proofs.Calls.{memory-right}
use Rattle.flat.specs.Flat.{Flat, Given, flat_ended}
use Rattle.flat.specs.Demand.{given, flat_of, Values32}
use Rattle.flat.proofs.Rest.{reads-row, reads-true}
use Rattle.flat.proofs.Demand.{Runs, runs}
use Rattle.session.specs.Session.{kept_of}
use Rattle.session.proofs.Session.{session-says, session-leaves}
use Rattle.circle.proofs.Circle.{tracker_in}
use Rattle.demands.specs.Event.{Told, Event, events, event_at, busy_after, written_from, AtRest}
use Rattle.demands.specs.Row.{Row, told, row_at}
use Rattle.demands.specs.Demand2.{When, not_yet, at, Entry, row_of, OneRow, Extends, Demand2}
use Rattle.demands.specs.Circle.{other}
use Rattle.demands.specs.Demand3.{noted_from}
use Rattle.demands.proofs.Log.{Move, begins, ends, neither, move_of, turn_is, Pending, none, Before, Inv, none-not-begun, none-not-past, not-begins, not-ends, same-tracker, same-ender}
use Rattle.demands.proofs.Watch.{Watch, nothing_yet, watched, logged, log_of}
use Rattle.demands.proofs.Machine.{Linked, calls_of, History, linked, idle-none}
use Rattle.demands.proofs.Start.{Begun, begun, session-values}
use Rattle.demands.proofs.Noted.{true-idle, Noted, run-shape, noted-run, busy-run}
use Rattle.demands.proofs.Quiet.{Quiet, quiet-run}
use Rattle.demands.proofs.Drained.{drained-idle, drained-clean}
use Rattle.demands.proofs.Extends.{onto-after, given-then}

-- what the log says of any history
ended-before : (w : When) (i : ℕ) → Before w i → (h : ℕ) × (w ≡ at h) × (h < i)
ended-before not_yet i b = absurd b
ended-before (at j) i b = (j, refl, b)

module _ {seen : ℕ → Move} {limit : ℕ} {start : Row} {N : ℕ} {row : Row} {pend : ℕ → Pending} {count : ℕ} {log : ℕ → Entry} (v : Inv seen limit start N N row pend count log) where
  -- two accesses of a tracker: the first ended before the second was issued
  in-turn : (p q : ℕ) → p < q → q < count → (log p).tracker ≡ (log q).tracker → (h : ℕ) × ((log p).ending ≡ at h) × (h < (log q).issued)
  in-turn p q l k t = ended-before (log p).ending (log q).issued (v.apart p q l k t)

  -- of two entries: the same, or one before the other
  three : (p q : ℕ) → (p < q) ⊎ ((q < p) ⊎ (p ≡ q))
  three p q = ⊎_elim (λ (l : p < q). inl l) (λ (l : q ≤ p). inr (⊎_elim (λ (k : q < p). inl k) (λ (k : p ≤ q). inr (omega arith)) (lt-or-ge q p))) (lt-or-ge p q)

  ends-once : (p q j : ℕ) → p < q → q < count → (log p).ending ≡ at j → (log q).ending ≡ at j → ⊥
  ends-once p q j l k e f =
      let t = same-ender (sym (v.end_is p j (omega arith) e) ∙ v.end_is q j k f) in
      let z = subst (λ (w : When). Before w (log q).issued) e (v.apart p q l k t) in
      omega (arith, z, v.soon q k, v.end-late q j k f)

  one_end : (p q j : ℕ) → p < count → q < count → (log p).ending ≡ at j → (log q).ending ≡ at j → p ≡ q
  one_end p q j l k e f = ⊎_elim (λ z. absurd (ends-once p q j z k e f)) (⊎_elim (λ z. absurd (ends-once q p j z l f e)) (λ z. z)) (three p q)

  issued-once : (p q : ℕ) → p < q → q < count → (log p).issued ≡ (log q).issued → ⊥
  issued-once p q l k e =
      let t = same-tracker (sym (v.issue-is p (omega arith)) ∙ ap seen e ∙ v.issue-is q k) in
      let z = in-turn p q l k t in
      omega (arith, e, z.2, v.soon p (omega arith), v.end-late p z.0 (omega arith) z.1)

  one-issue : (p q : ℕ) → p < count → q < count → (log p).issued ≡ (log q).issued → p ≡ q
  one-issue p q l k e = ⊎_elim (λ z. absurd (issued-once p q z k e)) (⊎_elim (λ z. absurd (issued-once q p z l (sym e))) (λ z. z)) (three p q)

  -- a tracker with nothing under way
  each-issue : (i x : ℕ) (a : Access) → i < N → seen i ≡ begins x a → pend x ≡ none → (p j : ℕ) × (p < count) × ((log p).issued ≡ i) × ((log p).ending ≡ at j)
  each-issue i x a l s e = ⊎_elim (λ u. absurd (none-not-begun (sym e ∙ u))) (λ p. go p.0 p.1 p.2 (log p.0).ending refl) (v.issue-had i x a l s)
    where
      go : (p : ℕ) → p < count → (log p).issued ≡ i → (w : When) → (log p).ending ≡ w → (p j : ℕ) × (p < count) × ((log p).issued ≡ i) × ((log p).ending ≡ at j)
      go p k d not_yet f = absurd (none-not-past (sym e ∙ ap pend (sym (same-tracker (sym (v.issue-is p k) ∙ ap seen d ∙ s))) ∙ v.open_is p k f))
      go p k d (at j) f = (p, j, k, d, f)

-- events and their moves
begins-event : (e : Event) (x : ℕ) (a : Access) → move_of e ≡ begins x a → e ≡ Event.begins x a
begins-event (Event.begins y b) x a h = let p : y ≡ x = cc in let q : b ≡ a = cc in ap (λ (z : ℕ). Event.begins z b) p ∙ ap (Event.begins x) q
begins-event (Event.goes_on y) x a h = absurd (let z : ◌≡◌ {A = ℕ} 0 1 = cc in omega arith)
begins-event (Event.ends y b turns) x a h = absurd (let z : ◌≡◌ {A = ℕ} 0 1 = cc in omega arith)
begins-event Event.drained x a h = absurd (not-begins h)
begins-event Event.refused x a h = absurd (not-begins h)

ends-event : (e : Event) (x : ℕ) (b : Told) → move_of e ≡ ends x b → (turns : ℕ) × (e ≡ Event.ends x b turns)
ends-event (Event.begins y a) x b h = absurd (let z : ◌≡◌ {A = ℕ} 0 1 = cc in omega arith)
ends-event (Event.goes_on y) x b h = absurd (let z : ◌≡◌ {A = ℕ} 0 1 = cc in omega arith)
ends-event (Event.ends y c turns) x b h = let p : y ≡ x = cc in let q : c ≡ b = cc in (turns, ap (λ (z : ℕ). Event.ends z c turns) p ∙ ap (λ (d : Told). Event.ends x d turns) q)
ends-event Event.drained x b h = absurd (not-ends h)
ends-event Event.refused x b h = absurd (not-ends h)

-- the calls that the machine is given are the run's
calls_are : (k : Kept) (cs : List Call) → calls_of (given k cs) ≡ cs
unfolding given
calls_are k [] = refl
calls_are k (c ∷ cs) = ap (λ (r : List Call). c ∷ r) (calls_are (kept (does k c)) cs)

length-given : (k : Kept) (cs : List Call) → length (given k cs) ≡ length cs
unfolding given
length-given k [] = refl
length-given k (c ∷ cs) = ap suc (length-given (kept (does k c)) cs)

length-events : (k : Kept) (cs : List Call) → length (events cs (answers k cs)) ≡ length cs
unfolding events answers
length-events k [] = refl
length-events k (c ∷ cs) = ap suc (length-events (kept (does k c)) cs)

-- a group's number depends on that group's at first
same_at : (s s' : Row) (f : ℕ → Access) (g p : ℕ) → s g ≡ s' g → row_at s f p g ≡ row_at s' f p g
unfolding row_at
same_at s s' f g zero e = e
same_at s s' f g (suc p) e = ap (λ (z : ℕ). pick (both (f p).write (eqb g (f p).group)) (f p).value z) (same_at s s' f g p e)

told_at : (s s' : Row) (a : Access) → s a.group ≡ s' a.group → told s a ≡ told s' a
told_at s s' a e = rw e

-- nothing under way, and no access yet
first : (seen : ℕ → Move) (limit : ℕ) (start : Row) → Inv seen limit start 0 0 start nothing_yet.pend 0 nothing_yet.log
unfolding row_at
first seen limit start = record {
  row_is = refl;
  small = λ i x a l. absurd (omega arith);
  issue-is = λ p l. absurd (omega arith);
  issue-old = λ p l. absurd (omega arith);
  soon = λ p l. absurd (omega arith);
  late = λ p l. absurd (omega arith);
  turn_at = λ p l. absurd (omega arith);
  rise = λ p q k l. absurd (omega arith);
  end-late = λ p j l. absurd (omega arith);
  end-old = λ p j l. absurd (omega arith);
  end_is = λ p j l. absurd (omega arith);
  open_is = λ p l. absurd (omega arith);
  past_is = λ x p b e. absurd (none-not-past e);
  begun-is = λ x i a e. absurd (none-not-begun e);
  issue-had = λ i x a l. absurd (omega arith);
  end-had = λ j x a l. absurd (omega arith);
  apart = λ p q k l. absurd (omega arith);
}

-- plain reading of a group that exists
pub plain-is : (n : ℕ) (memory : List ℕ) (g : ℕ) → in_limits n ≡ true → length memory ≡ memory_length n → g < groups n → plain_reading n memory g ≡ plain_group n memory g
plain-is n memory g h l q = accepted n memory g h l q

-- a state at rest that agrees with a row: its memory is true, and reads as the row
pub record Resting (n : ℕ) (memory : List ℕ) (row : Row) : Type 0 where
  pub limits : in_limits n ≡ true
  pub long : length memory ≡ memory_length n
  pub is_true_lem : is_true n memory ≡ true
  pub reads : (g : ℕ) → plain_group n memory g ≡ row g

-- 01's memory has the top level 1
plain-two : (n : ℕ) (memory : List ℕ) (g : ℕ) → plain_group_of 1 n memory g ≡ plain_group n memory g
unfolding plain_group
plain-two n memory g = refl

true-two : (n : ℕ) (memory : List ℕ) → is_true_of 1 n memory ≡ is_true n memory
unfolding is_true
true-two n memory = refl

-- a run of the rules from the start
module _ (t : ℕ) (k : Kept) (B : Begun t k) (cs : List Call) (v32 : Values32 cs) where
  abbrev n : ℕ
  n = k.state.shape.n

  abbrev start : Row
  start = plain_group_of (top_of k.state.shape) k.state.shape.n k.memory

  abbrev es : List Event
  es = events cs (answers k cs)

  abbrev seen : ℕ → Move
  seen i = move_of (event_at es i)

  pub run : Runs k cs start
  run = runs cs k start B.agrees v32

  pub at_first : Linked seen n start 0 (flat_of k) nothing_yet
  at_first = record {
    inv = first seen (groups n) start;
    fits = λ x. ap is_idle_at (B.idle x);
    n-is = refl;
    long = (whole-facts k.state B.agrees.is_whole).tracked.long;
  }

  pub history : History seen 0 (flat_of k) (given k cs)
  history i l =
      let z : 0 + i ≡ i = omega arith in
      ap seen z ∙ ap (λ (r : List Call). move_of (event_at (events r (answers k cs)) i)) (sym (calls_are k cs))
      ∙ ap (λ (r : List Said). move_of (event_at (events (calls_of (given k cs)) r) i)) run.answered

  abbrev w : Watch
  w = logged k cs

  whole_run : Linked seen n start (length cs) (flat_ended (flat_of k) (given k cs)) w
  whole_run =
      let z : 0 + length (given k cs) ≡ length cs = omega (arith, length-given k cs) in
      subst (λ (m : ℕ). Linked seen n start m (flat_ended (flat_of k) (given k cs)) w) z (linked seen n start (given k cs) (flat_of k) nothing_yet 0 at_first history)

  v : Inv seen (groups n) start (length cs) (length cs) (flat_ended (flat_of k) (given k cs)).row w.pend w.count w.log
  v = whole_run.inv

  -- calls past the end are no events
  past_end : (i : ℕ) → length cs ≤ i → seen i ≡ neither
  past_end i l = ap move_of (get_or-eq_default es Event.refused (omega (arith, length-events k cs)))

  begins-within : (i x : ℕ) (a : Access) → seen i ≡ begins x a → i < length cs
  begins-within i x a s = ⊎_elim (λ (l : i < length cs). l) (λ (l : length cs ≤ i). absurd (not-begins (sym (past_end i l) ∙ s))) (lt-or-ge i (length cs))

  ends-within : (i x : ℕ) (b : Told) → seen i ≡ ends x b → i < length cs
  ends-within i x b s = ⊎_elim (λ (l : i < length cs). l) (λ (l : length cs ≤ i). absurd (not-ends (sym (past_end i l) ∙ s))) (lt-or-ge i (length cs))

  -- the memory at first
  lim : in_limits n ≡ true
  lim = rw B.levels at (in_limits-of k.state.shape (whole-facts k.state B.agrees.is_whole).limits-ok)

  reads_first : (g : ℕ) → g < groups n → plain_reading n k.memory g ≡ start g
  reads_first g q = rw B.levels (plain-is n k.memory g lim (rw B.levels at (memory-right k.state.shape k.bytes k.memory B.agrees.right)) q ∙ sym (plain-two n k.memory g))

  rows_are : (g p : ℕ) → g < groups n → row_at start (λ q. (w.log q).access) p g ≡ row_of n k.memory (log_of w) p g
  rows_are g p l = same_at start (plain_reading n k.memory) (λ q. (w.log q).access) g p (sym (reads_first g l))

  last-is : (g : ℕ) → g < groups n → run.last g ≡ row_of n k.memory (log_of w) w.count g
  last-is g l = ap (λ (z : Flat). z.row g) (sym run.flat-is) ∙ ap (λ (row : Row). row g) v.row_is ∙ rows_are g w.count l

  first-noted : Noted k (λ y. other false)
  first-noted = record { ready = (B.agrees.is_whole, B.agrees.right); is-so = λ y. ap is_idle_at (B.idle y) }

  -- a tracker that is not busy
  idle : (x : ℕ) → busy_after es x ≡ false → is_idle (tracker_in (ended k cs) x) ≡ true
  idle x e =
      let N = noted-run cs k (λ y. other false) first-noted in
      true-idle (noted_from (λ y. other false) es x) (tracker_in (ended k cs) x) (N.is-so x) (busy-run es (λ y. other false) (λ y. false) (λ y. refl) x ∙ e)

  pub resting : AtRest es → Resting n (ended k cs).memory run.last
  resting r = subst (λ (m : ℕ). Resting m (ended k cs).memory run.last) run.n-is (record {
    limits = rw levels at (in_limits-of (ended k cs).state.shape (whole-facts (ended k cs).state run.ok-still.is_whole).limits-ok);
    long = rw levels at (memory-right (ended k cs).state.shape (ended k cs).bytes (ended k cs).memory run.ok-still.right);
    is_true_lem = sym (true-two _ _) ∙ (rw levels at (reads-true run.ok-still.agrees (λ x. idle x (r.idle x)) (λ i _. quiet.clean i)));
    reads = λ g. sym (plain-two _ _ g) ∙ (rw levels at (reads-row run.ok-still.agrees (λ x. idle x (r.idle x)) (λ i _. quiet.clean i) g));
  })
    where
      levels : below_top (ended k cs).state.shape ≡ 0
      levels = (run-shape k first-noted.ready cs).levels ∙ B.levels

      quiet : Quiet (ended k cs)
      quiet = quiet-run cs k start B.agrees v32 false
          (λ _. record { clean = B.clean; reads = λ x b. absurd (not-both-ways (ap is_idle_at (B.idle x)) b) }) r.clean

  pub one-row : OneRow n k.memory es (ended k cs).memory (log_of w)
  one-row = record {
    as-issued = λ p l. begins-event (event_at es (w.log p).issued) (w.log p).tracker (w.log p).access (v.issue-is p l);
    after-issue = v.soon;
    at-a-turn = λ p l. turn_is (w.log p).tracker (event_at es (w.log p).moment) (v.turn_at p l);
    one_by_one = v.rise;
    before-end = v.end-late;
    answered = λ p j l s. ends-event (event_at es j) (w.log p).tracker (told (row_of n k.memory (log_of w) p) (w.log p).access) (v.end_is p j l s ∙ ap (ends (w.log p).tracker)
        (told_at (row_at start (λ q. (w.log q).access) p) (row_of n k.memory (log_of w) p) (w.log p).access
        (rows_are (w.log p).access.group p (v.small (w.log p).issued (w.log p).tracker (w.log p).access (v.issue-old p l) (v.issue-is p l)))));
    each-end = λ j x b turns s. v.end-had j x b (ends-within j x b (ap move_of s)) (ap move_of s);
    one_end = one_end v;
    one-issue = one-issue v;
    each-issue = λ i x a s e. each-issue v i x a (begins-within i x a (ap move_of s)) (ap move_of s)
        (idle-none _ (w.pend x) (whole_run.fits x) (ap (λ (f : Flat). is_idle (tracker_at f.trackers x)) run.flat-is ∙ idle x e));
    after-drain = λ before e. record {
      idle = λ x. sym (busy-run es (λ y. other false) (λ y. false) (λ y. refl) x) ∙ drained-idle before cs k (λ y. other false) first-noted e x;
      clean = ap (written_from false) e ∙ drained-clean before false;
    };
    at_rest = λ r g l. let R = resting r in plain-is n (ended k cs).memory g R.limits R.long l ∙ R.reads g ∙ last-is g l;
  }

-- a longer run of the rules
pub extends : (t : ℕ) (k : Kept) → Begun t k → (cs ds : List Call) → Values32 (cs ++ ds) → Extends (length cs) (log_of (logged k cs)) (log_of (logged k (cs ++ ds)))
extends t k B cs ds v =
    let z : 0 + length (given k cs) ≡ length cs = omega (arith, length-given k cs) in
    let h = subst (λ (gs : List Given). History (seen t k B (cs ++ ds) v) 0 (flat_of k) gs) (given-then cs ds k) (history t k B (cs ++ ds) v) in
    let e = onto-after (seen t k B (cs ++ ds) v) k.state.shape.n (plain_group_of (top_of k.state.shape) k.state.shape.n k.memory) (given k cs) (given (ended k cs) ds) (flat_of k) nothing_yet 0 (at_first t k B (cs ++ ds) v) h in
    subst (λ (gs : List Given). Extends (length cs) (log_of (logged k cs)) (log_of (watched 0 (flat_of k) nothing_yet gs))) (sym (given-then cs ds k))
    (subst (λ (m : ℕ). Extends m (log_of (logged k cs)) (log_of (watched 0 (flat_of k) nothing_yet (given k cs ++ given (ended k cs) ds)))) z e)

-- DEMAND 2
pub demand-2 : Demand2
demand-2 t s b m start = (
  λ cs. log_of (logged (kept_of s b m) cs),
  λ s' b' m' cs list p.
      let k = kept_of s b m in
      subst (λ (z : List Said). OneRow s.shape.n m (events cs z) m' (log_of (logged k cs))) (sym (session-says p))
      (subst (λ (z : Kept). OneRow s.shape.n m (events cs (answers k cs)) z.memory (log_of (logged k cs))) (sym (session-leaves p))
      (one-row t k (begun t s b m start) cs (session-values p))),
  λ s' b' m' cs ds list p. extends t (kept_of s b m) (begun t s b m start) cs ds (session-values p),
)
