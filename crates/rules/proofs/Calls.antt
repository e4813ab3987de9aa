-- Each call on a whole state with the right lengths gives a whole state with the right lengths, refused or not; a busy tracker's step is never refused.
use mathlib.Core.Path.{◌≡◌, refl, sym, ap, ◌∙◌, subst}
use mathlib.Core.Bool.{Bool, true, false, not}
use mathlib.Core.List.{List}
use mathlib.Core.Logic.{⊎_elim}
use Prim.Native.Nat.{ℕ, zero, suc, ◌*◌, ◌<◌, ◌≤◌}
use native.Mathlib.Omega.{arith}
use lib.Dec.{ltb}
use lib.ListN.{length, set, length-set}
use borrow.Author.Tests.{lt-ltb, ltb-true, le-leb, eqb-true, eq-eqb, not-true}
use Rattle.tracker.proofs.Phases.{idle-loose}
use Rattle.geometry.specs.declared.Shape.{Shape}
use Rattle.geometry.specs.Shape.{top_of, at_hand}
use Rattle.geometry.specs.TagMemory.{groups, length_of}
use Rattle.geometry.proofs.Shapes.{below-hand}
use Rattle.laws.proofs.Choice.{true-or-false, both_left, both_right, both_true}
use Rattle.laws.specs.Refusal.{refusal, unless}
use Rattle.laws.proofs.Refusals.{refusal-0, refusal-hold, refusal-past, refused-or-not, unless-0, unless-no}
use Rattle.tracker.specs.declared.Access.{Access}
use Rattle.tracker.specs.Tracker.{is_idle, holds_at, issued, first_phase}
use Rattle.line.specs.Word.{cleaned, holders}
use Rattle.rules.specs.State.{State, Rows, tracker_at, lengths_right}
use Rattle.rules.specs.Whole.{phase_whole, whole}
use Rattle.rules.specs.Place.{rows_fit, drained}
use Rattle.rules.specs.Step.{Turned, fit, by_phase, turn_of}
use Rattle.rules.specs.Calls.{Out, refused, accepted, with_tracker, state_tests, meets_none, issue_tests, issue_no, issue, stepped, step_tests, step_no, step, all_idle, drain_tests, drain_no, drains_to, drain}
use Rattle.line.proofs.Words.{block_of-cleaned, holder-cleaned, used-cleaned}
use Rattle.rules.proofs.Lined.{at, same-lined}
use Rattle.rules.proofs.Whole.{LinedBy, Whole, whole-facts, facts-whole, hand-whole, in_limits-of, t-most}
use Rattle.rules.proofs.Placed.{written-length}
use Rattle.rules.proofs.Trackers.{tracked-set, quiet}
use Rattle.rules.proofs.Situation.{Situation, level-lt, lines-enough}
use Rattle.rules.proofs.Keeps.{is_no, Keeps, keeps-by_phase}
use Rattle.rules.proofs.Ways.{turn_is}

-- the lengths, as facts
module _ (shape : Shape) (bytes memory : List ℕ) where
  pub bytes-right : lengths_right shape bytes memory ≡ true → length bytes ≡ 64 * shape.l
  unfolding lengths_right
  bytes-right h = eqb-true _ _ (both_left _ _ h)

  pub memory-right : lengths_right shape bytes memory ≡ true → length memory ≡ length_of (top_of shape) shape.n
  unfolding lengths_right
  memory-right h = eqb-true _ _ (both_right _ _ h)

  pub lengths-right : length bytes ≡ 64 * shape.l → length memory ≡ length_of (top_of shape) shape.n → lengths_right shape bytes memory ≡ true
  unfolding lengths_right
  lengths-right p q = both_true _ _ (eq-eqb _ _ p) (eq-eqb _ _ q)

  -- nor do the lengths ask for the hand
  pub lengths-hand : (h : ℕ) → lengths_right (at_hand shape h) bytes memory ≡ lengths_right shape bytes memory
  unfolding lengths_right
  lengths-hand h = rw (below-hand shape h)

-- what a call leaves: a whole state, of the same shape but for the hand, and lent bytes of the right lengths
pub record Sound (shape : Shape) (o : Out) : Type 0 where
  pub is-shape : o.state.shape ≡ at_hand shape o.state.shape.hand
  pub is_whole : whole o.state ≡ true
  pub right : lengths_right o.state.shape o.bytes o.memory ≡ true

module _ (s : State) (bytes memory : List ℕ) (w : whole s ≡ true) (len : lengths_right s.shape bytes memory ≡ true) where
  f : Whole s
  f = whole-facts s w

  pub refused-sound : (c : ℕ) → Sound s.shape (refused c s bytes memory)
  refused-sound c = record { is-shape = refl; is_whole = w; right = len }

  abbrev pub rows : Rows
  rows = record { lines = s.lines; bytes = bytes; memory = memory }

  pub rows_fit_lem : rows_fit s.shape.l s.lines bytes ≡ true
  unfolding rows_fit
  rows_fit_lem = both_true _ _ (le-leb _ _ f.lined.apart.long) (eq-eqb _ _ (bytes-right s.shape bytes memory len))

  -- past 4 and 2 a call's refusal is that of its own tests
  issue_no-is : (x : ℕ) (a : Access) → issue_no s bytes memory x a ≡ refusal (issue_tests s.shape x a s.trackers)
  unfolding issue_no
  issue_no-is x a = refusal-past (state_tests s bytes memory) _ (w, (len, tt))

  step_no-is : (x : ℕ) → step_no s bytes memory x ≡ refusal (step_tests s.shape x s.trackers)
  unfolding step_no
  step_no-is x = refusal-past (state_tests s bytes memory) _ (w, (len, tt))

  drain_no-is : drain_no s bytes memory ≡ refusal (drain_tests (all_idle s))
  unfolding drain_no
  drain_no-is = refusal-past (state_tests s bytes memory) _ (w, (len, tt))

  module _ (x : ℕ) (xl : x < s.shape.t) where
    module _ (busy : is_idle (tracker_at s.trackers x) ≡ false) where
      abbrev pub situation : Situation
      situation = record {
        shape = s.shape;
        x = x;
        ts = s.trackers;
        r = rows;
        u = tracker_at s.trackers x;
        limits-ok = (whole-facts s w).limits-ok;
        lined = (whole-facts s w).lined;
        tracked = (whole-facts s w).tracked;
        x_lt = xl;
        hand-lt = (whole-facts s w).hand-lt;
        rows_fit_lem = rows_fit_lem;
        is-u = refl;
        busy = busy;
      }

      pub turn-fit : fit s.shape x (tracker_at s.trackers x) rows ≡ true
      unfolding fit
      turn-fit =
          let x1 : x < holders = omega (arith, t-most s.shape f.limits-ok) in
          both_true _ _ (both_true _ _ (in_limits-of s.shape f.limits-ok) (le-leb _ _ f.lined.apart.long))
          (both_true _ _ (both_true _ _ (lt-ltb _ _ (f.tracked.group-lt x busy)) (lt-ltb _ _ (level-lt situation))) (lt-ltb _ _ x1))

      -- the core's step is the rule of the tracker's phase
      pub turn-by_phase : turn_of s.shape x (tracker_at s.trackers x) rows ≡ by_phase s.shape x (tracker_at s.trackers x) rows (tracker_at s.trackers x).phase
      turn-by_phase = turn_is s.shape x (tracker_at s.trackers x) rows turn-fit len

      pub turn-keeps : Keeps s.shape x s.trackers rows (turn_of s.shape x (tracker_at s.trackers x) rows)
      turn-keeps = rw turn-by_phase (keeps-by_phase situation (tracker_at s.trackers x).phase refl)

      -- "the public step is the core"
      pub step_is : step s bytes memory x ≡ stepped s x (turn_of s.shape x (tracker_at s.trackers x) rows)
      unfolding step
      step_is = unless-0 _ _ (step_no-is x ∙ refusal-0 (step_tests s.shape x s.trackers) (lt-ltb _ _ xl, (ap not busy, tt)))

      pub step-sound : Sound s.shape (step s bytes memory x)
      step-sound = rw step_is (record {
        is-shape = k.shaped.is-shape;
        is_whole = subst (λ (z : Shape). whole (state z) ≡ true) (sym k.shaped.is-shape)
            (facts-whole _ (hand-whole s.shape o.shape.hand o.rows.lines _ f.limits-ok k.shaped.hand-lt k.lined k.tracked));
        right = subst (λ (z : Shape). lengths_right z o.rows.bytes o.rows.memory ≡ true) (sym k.shaped.is-shape)
            (lengths-hand s.shape _ _ o.shape.hand ∙ lengths-right s.shape _ _ (k.long.bytes-long ∙ bytes-right s.shape bytes memory len) (k.long.memory-long ∙ memory-right s.shape bytes memory len));
      })
        where
          o : Turned
          o = turn_of s.shape x (tracker_at s.trackers x) rows

          k : Keeps s.shape x s.trackers rows o
          k = turn-keeps

          state : Shape → State
          state z = record { shape = z; lines = o.rows.lines; trackers = set s.trackers x o.tracker }

      pub step-not-refused : is_no (step s bytes memory x).said ≡ false
      step-not-refused = rw step_is turn-keeps.says

  pub step-refused : (x : ℕ) → 0 < refusal (step_tests s.shape x s.trackers) → step s bytes memory x ≡ refused (refusal (step_tests s.shape x s.trackers)) s bytes memory
  unfolding step
  step-refused x h = rw (step_no-is x) (unless-no _ _ h)

  -- where a step is not refused
  pub step-free : (x : ℕ) → refusal (step_tests s.shape x s.trackers) ≡ 0 → (x < s.shape.t) × (is_idle (tracker_at s.trackers x) ≡ false)
  step-free x e = let h = refusal-hold (step_tests s.shape x s.trackers) refl e in (ltb-true _ _ h.0, not-true _ h.1.0)

  pub step_kept : (x : ℕ) → Sound s.shape (step s bytes memory x)
  step_kept x = ⊎_elim (λ e. let h = step-free x e in step-sound x h.0 h.1) (λ h. rw (step-refused x h) (refused-sound _))
      (refused-or-not (refusal (step_tests s.shape x s.trackers)))

  -- issue
  module _ (x : ℕ) (a : Access) where
    pub issue-refused : 0 < refusal (issue_tests s.shape x a s.trackers)
        → issue s bytes memory x a ≡ refused (refusal (issue_tests s.shape x a s.trackers)) s bytes memory
    unfolding issue
    issue-refused h = rw (issue_no-is x a) (unless-no _ _ h)

    module _ (free : refusal (issue_tests s.shape x a s.trackers) ≡ 0) where
      pub issue-accepted : issue s bytes memory x a ≡ accepted (with_tracker s x (issued a)) bytes memory
      unfolding issue
      issue-accepted = unless-0 _ _ (issue_no-is x a ∙ free)

      -- where an issue is not refused
      pub issue-free : (x < s.shape.t) × (a.group < groups s.shape.n) × (is_idle (tracker_at s.trackers x) ≡ true) × (meets_none s.shape.t a s.trackers ≡ true)
      issue-free = let h = refusal-hold (issue_tests s.shape x a s.trackers) refl free in (ltb-true _ _ h.0, ltb-true _ _ h.1.0, h.1.1.0, h.1.1.1.0)

      first-free : (b : Bool) → holds_at (first_phase b) ≡ false
      first-free true = refl
      first-free false = refl

      first-ok : (b : Bool) → phase_whole (top_of s.shape) a.write b (first_phase b) ≡ true
      first-ok true = both_true true (ltb 0 (top_of s.shape)) refl (lt-ltb 0 (top_of s.shape) (omega arith))
      first-ok false = refl

      xlong : x < length s.trackers
      xlong = omega (arith, f.tracked.long, issue-free.0)

      issue-lined : LinedBy s.shape (set s.trackers x (issued a)) s.lines
      issue-lined = quiet s.shape s.trackers x (issued a) xlong (idle-loose (tracker_at s.trackers x).phase issue-free.2) (first-free a.bottom) f.lined

      issue-sound : Sound s.shape (accepted (with_tracker s x (issued a)) bytes memory)
      issue-sound = record {
        is-shape = refl;
        is_whole = facts-whole _ (record {
          limits-ok = f.limits-ok;
          hand-lt = f.hand-lt;
          lined = issue-lined;
          tracked = tracked-set (top_of s.shape) s.shape.n s.shape.t s.trackers x (issued a) f.tracked issue-free.0 (λ _. issue-free.1) (first-ok a.bottom);
        });
        right = len;
      }

    pub issue-kept : Sound s.shape (issue s bytes memory x a)
    issue-kept = ⊎_elim (λ e. rw (issue-accepted e) (issue-sound e)) (λ h. rw (issue-refused h) (refused-sound _))
        (refused-or-not (refusal (issue_tests s.shape x a s.trackers)))

  fit_of : (lines : List ℕ) → s.shape.l ≤ length lines → rows_fit s.shape.l lines bytes ≡ true
  unfolding rows_fit
  fit_of lines q = both_true _ _ (le-leb _ _ q) (eq-eqb _ _ (bytes-right s.shape bytes memory len))

  -- draining: the first i lines
  module _ (idle-all : all_idle s ≡ true) where
    pub record Drains (d : Rows) : Type 0 where
      pub lined : LinedBy s.shape s.trackers d.lines
      pub bytes-is : d.bytes ≡ bytes
      pub lines_long : length d.lines ≡ length s.lines
      pub memory-long : length d.memory ≡ length memory

    pub drains : (i : ℕ) → i ≤ s.shape.l → Drains (drained i rows)
    unfolding drained
    drains zero q = record { lined = f.lined; bytes-is = refl; lines_long = refl; memory-long = refl }
    drains (suc i) q =
        let d : Drains (drained i rows) = drains i (omega arith) in
        let c = at (drained i rows).lines i in
        let fits : rows_fit s.shape.l (drained i rows).lines (drained i rows).bytes ≡ true = subst (λ (y : List ℕ). rows_fit s.shape.l (drained i rows).lines y ≡ true) (sym d.bytes-is) (fit_of (drained i rows).lines d.lined.apart.long) in
        record {
          lined = same-lined d.lined i (cleaned c) (omega arith) (used-cleaned c) (block_of-cleaned c) (holder-cleaned c);
          bytes-is = d.bytes-is;
          lines_long = simp length-set d.lines_long;
          memory-long = written-length s.shape (drained i rows) d.lined (lines-enough s.shape f.limits-ok) fits i (omega arith) ∙ d.memory-long;
        }

    pub drain-is : drain s bytes memory ≡ drains_to s rows
    unfolding drain
    drain-is = unless-0 _ _ (drain_no-is ∙ refusal-0 (drain_tests (all_idle s)) (idle-all, tt))

    pub drain-sound : Sound s.shape (drain s bytes memory)
    drain-sound =
        let d : Drains (drained s.shape.l rows) = drains s.shape.l (omega arith) in
        rw drain-is (record {
          is-shape = refl;
          is_whole = facts-whole _ (record { limits-ok = f.limits-ok; hand-lt = f.hand-lt; lined = d.lined; tracked = f.tracked });
          right = lengths-right s.shape _ _ (bytes-right s.shape bytes memory len) (d.memory-long ∙ memory-right s.shape bytes memory len);
        })

  pub drain-busy : all_idle s ≡ false → drain s bytes memory ≡ refused 7 s bytes memory
  unfolding drain refusal unless
  drain-busy e = rw (drain_no-is, e)

  pub drain_kept : Sound s.shape (drain s bytes memory)
  drain_kept = ⊎_elim (λ e. drain-sound e) (λ e. rw (drain-busy e) (refused-sound 7)) (true-or-false (all_idle s))
