-- In a whole state what is asked for is its turn on the one tracker that it names, and leaves a whole state: the laws of rules, case by case.
use mathlib.Core.Path.{◌≡◌, refl, ◌∙◌}
use mathlib.Core.Bool.{true}
use mathlib.Core.List.{List}
use mathlib.Core.Logic.{◌⊎◌, inl, inr, ⊎_elim}
use Prim.Native.Nat.{ℕ, ◌≤◌, ◌<◌}
use native.Mathlib.Omega.{arith}
use lib.Dec.{ltb}
use lib.Seq.{set-get_or}
use borrow.Author.Tests.{lt-ltb, le-ltb}
use Rattle.laws.specs.Choice.{pick}
use Rattle.laws.specs.Refusal.{refusal, unless}
use Rattle.laws.proofs.Refusals.{refused-or-not, unless-0, unless-no}
use Rattle.laws.proofs.Choice.{true-or-false}
use Rattle.laws.proofs.Splice.{lt-or-ge}
use Rattle.geometry.specs.TagMemory.{most_trackers}
use Rattle.tracker.specs.declared.Access.{Access}
use Rattle.tracker.specs.Transfers.{none}
use Rattle.tracker.specs.Tracker.{issued}
use Rattle.rules.specs.State.{State, Rows, tracker_at, lengths_right}
use Rattle.rules.specs.Whole.{whole}
use Rattle.rules.specs.Step.{Turned, refuses, turn_of}
use Rattle.rules.specs.Calls.{refused, issue_tests, issue, step_tests, step, drain, stepped, all_idle}
use Rattle.rules.specs.Run.{does}
use Rattle.rules.proofs.Calls.{Sound, rows_fit_lem, refused-sound, step_is, step-refused, step-free, step_kept, issue-refused, issue-accepted, issue-free, issue-kept, drains as Drains-all, drain-is, drain-busy, drain_kept}
use Rattle.rules.proofs.Whole.{whole-facts, t-least, t-most}
use Rattle.placing.specs.Lines.{rows, all_drained, drained_on}
use Rattle.turn.specs.declared.Asked.{Asked}
use Rattle.turn.specs.declared.Asked.TheVariants.{Other, Issue, Step, Drain}
use Rattle.turn.specs.Turn.{takes, named, accepts, issue_turn, step_turn, drain_turn, asked_turn}

below-lt : (t x : ℕ) → 0 < t → pick (ltb x t) x 0 < t
below-lt t x h = by (lt-or-ge x t)
  where
    by : (x < t) ⊎ (t ≤ x) → pick (ltb x t) x 0 < t
    by (inl q) = rw (lt-ltb _ _ q) q
    by (inr q) = rw (le-ltb _ _ q) h

-- the tracker that is named is one of t
named-lt : (t : ℕ) (a : Asked) → 0 < t → named t a < t
unfolding named
named-lt t Other h = h
named-lt t (Issue x a) h = below-lt t x h
named-lt t (Step x) h = below-lt t x h
named-lt t Drain h = h

-- and in the table
pub named-most : (s : State) → whole s ≡ true → (a : Asked) → named s.shape.t a < most_trackers
named-most s w a =
    let f = (whole-facts s w).limits-ok in
    let lo = t-least s.shape f in
    let hi = t-most s.shape f in
    let b = named-lt s.shape.t a (omega arith) in
    omega arith

module _ (s : State) (bytes memory : List ℕ) (w : whole s ≡ true) (len : lengths_right s.shape bytes memory ≡ true) where
  abbrev lent : Rows
  lent = rows s.lines bytes memory

  -- the tracker that number x names
  abbrev own : ℕ → ℕ
  own x = pick (ltb x s.shape.t) x 0

  own_is : (x : ℕ) → x < s.shape.t → own x ≡ x
  own_is x q = rw (lt-ltb x s.shape.t q)

  -- a refusal leaves the tracker that it names
  stays : (c x : ℕ) → refused c s bytes memory ≡ stepped s x (refuses c (tracker_at s.trackers x) s.shape lent)
  stays c x = rw set-get_or

  drained-fit : drained_on s.shape lent ≡ all_drained s.shape.l lent
  unfolding drained_on
  drained-fit = rw (rows_fit_lem s bytes memory w len)

  -- a call refused, and its turn
  refused-turn : (x c : ℕ) (o : Turned) → 0 < c → refused c s bytes memory ≡ stepped s x (unless c o (λ i. refuses i (tracker_at s.trackers x) s.shape lent))
  refused-turn x c o h = stays c x ∙ rw (unless-no o (λ i. refuses i (tracker_at s.trackers x) s.shape lent) h) refl

  step-turn : (x : ℕ) → step s bytes memory x ≡ stepped s (own x) (step_turn s.shape x s.trackers (tracker_at s.trackers (own x)) lent)
  unfolding step_turn
  step-turn x = ⊎_elim
      (λ e. let h = step-free s bytes memory w len x e in
      step_is s bytes memory w len x h.0 h.1 ∙ rw (own_is x h.0, unless-0 (turn_of s.shape x (tracker_at s.trackers x) lent) (λ i. refuses i (tracker_at s.trackers x) s.shape lent) e) refl)
      (λ h. step-refused s bytes memory w len x h ∙ refused-turn (own x) _ _ h) (refused-or-not (refusal (step_tests s.shape x s.trackers)))

  issue-turn : (x : ℕ) (access : Access) → issue s bytes memory x access ≡ stepped s (own x) (issue_turn s.shape x access s.trackers (tracker_at s.trackers (own x)) lent)
  unfolding issue_turn
  issue-turn x access = ⊎_elim
      (λ e. let h = issue-free s bytes memory w len x access e in
      issue-accepted s bytes memory w len x access e
      ∙ rw (own_is x h.0, unless-0 (accepts s.shape (issued access) none lent) (λ i. refuses i (tracker_at s.trackers x) s.shape lent) e) refl)
      (λ h. issue-refused s bytes memory w len x access h ∙ refused-turn (own x) _ _ h) (refused-or-not (refusal (issue_tests s.shape x access s.trackers)))

  drain-turn : drain s bytes memory ≡ stepped s 0 (drain_turn s.shape s.trackers (tracker_at s.trackers 0) lent)
  unfolding drain_turn all_idle refusal unless
  drain-turn = ⊎_elim (λ e. drain-is s bytes memory w len e ∙ rw (e, drained-fit, (Drains-all s bytes memory w len e s.shape.l (omega arith)).bytes-is, set-get_or) refl) (λ e. drain-busy s bytes memory w len e ∙ stays 7 0 ∙ rw e refl) (true-or-false (all_idle s))

  -- what is asked for is its turn on the tracker that it names
  pub takes-turn : (a : Asked)
      → takes (record { state = s; bytes = bytes; memory = memory }) a ≡ stepped s (named s.shape.t a) (asked_turn s.shape a s.trackers (tracker_at s.trackers (named s.shape.t a)) lent)
  unfolding does asked_turn named
  takes-turn Other = stays 12 0
  takes-turn (Issue x a) = issue-turn x a
  takes-turn (Step x) = step-turn x
  takes-turn Drain = drain-turn

  -- and leaves a whole state
  pub takes-kept : (a : Asked) → Sound s.shape (takes (record { state = s; bytes = bytes; memory = memory }) a)
  unfolding does
  takes-kept Other = refused-sound s bytes memory w len 12
  takes-kept (Issue x a) = issue-kept s bytes memory w len x a
  takes-kept (Step x) = step_kept s bytes memory w len x
  takes-kept Drain = drain_kept s bytes memory w len
