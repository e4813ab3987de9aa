-- A fresh or opened memory begins with a whole state; the zero state is broken.
use mathlib.Core.Path.{◌≡◌, refl, sym, ap, ◌∙◌}
use mathlib.Core.Bool.{true, false}
use mathlib.Core.List.{List}
use mathlib.Core.Logic.{⊎_elim}
use Prim.Native.Nat.{ℕ, suc, ◌<◌}
use native.Mathlib.Omega.{arith}
use lib.ListN.{replicate}
use Rattle.laws.proofs.Writes.{get_d_replicate}
use Rattle.laws.proofs.Choice.{not-both-ways}
use Rattle.laws.specs.Refusal.{refusal, unless}
use Rattle.laws.proofs.Refusals.{refusal-hold, refused-or-not, unless-0, unless-no, unless-by}
use Rattle.memory.specs.True.{is_true_of, cleared_of}
use Rattle.tracker.specs.Answer.{ok, no}
use Rattle.geometry.specs.Shape.{shape_of, top_of}
use Rattle.geometry.specs.TagMemory.{most_trackers, most_lines}
use Rattle.tracker.specs.declared.Tracker.{Tracker}
use Rattle.tracker.specs.Tracker.{idle, is_idle, holds_at}
use Rattle.tracker.proofs.Phases.{loose-asks}
use Rattle.line.specs.Word.{used}
use Rattle.rules.specs.State.{State, tracker_at, begun, zero_state, lengths_right}
use Rattle.rules.specs.Whole.{limits, phase_whole, whole}
use Rattle.rules.specs.Calls.{Out, accepted, refused, fresh_tests, fresh, open_tests, opened}
use Rattle.line.proofs.Words.{free-used}
use Rattle.rules.proofs.Lined.{at, Has}
use Rattle.rules.proofs.Whole.{facts-whole, t-most, l-least, l-most}

module _ (n t l : ℕ) (lim : limits (shape_of n t l) ≡ true) where
  free-line : (i : ℕ) → used (at (replicate most_lines 0) i) ≡ false
  free-line i = ap used (get_d_replicate most_lines i 0) ∙ free-used

  none : (i b : ℕ) → Has (replicate most_lines 0) i b → ⊥
  none i b h = not-both-ways h.is-used (free-line i)

  idle-tracker : (x : ℕ) → tracker_at (replicate most_trackers idle) x ≡ idle
  idle-tracker x = get_d_replicate most_trackers x idle

  holds-none : (x : ℕ) → holds_at (tracker_at (replicate most_trackers idle) x).phase ≡ false
  holds-none x = ap (λ (u : Tracker). holds_at u.phase) (idle-tracker x)

  pub begun-whole : whole (begun (shape_of n t l)) ≡ true
  begun-whole = facts-whole (begun (shape_of n t l)) (record {
    limits-ok = lim;
    hand-lt = omega (arith, l-least (shape_of n t l) lim);
    lined = record {
      apart = record {
        long = l-most (shape_of n t l) lim;
        above = λ i q. free-line i;
        exists = λ i b h. absurd (none i b h);
        one = λ i j b h h'. absurd (none i b h);
      };
      named = λ i b h p. absurd (none i b h);
      marked = λ x e i xl el k h. absurd (none i _ h);
      in-line = λ x e xl el k. absurd (not-both-ways k (loose-asks (tracker_at (replicate most_trackers idle) x).phase (suc e) (holds-none x)));
    };
    tracked = record {
      long = t-most (shape_of n t l) lim;
      above = λ x q. ap is_idle (idle-tracker x);
      group-lt = λ x e. absurd (not-both-ways (ap is_idle (idle-tracker x)) e);
      phase-ok = λ x. ap (λ (u : Tracker). phase_whole (top_of (shape_of n t l)) u.write u.bottom u.phase) (idle-tracker x);
    };
  })

-- "refused, they return one that is zero throughout", and that is broken
pub zero-broken : whole zero_state ≡ false
unfolding whole Rattle.rules.specs.Whole.limits Rattle.geometry.specs.TagMemory.in_limits_of Rattle.laws.specs.Choice.both
zero-broken = refl

-- a call that said ok was not refused
ok-not-no : {c : ℕ} → no c ≡ ok → ⊥
ok-not-no e = let z : ◌≡◌ {A = ℕ} 0 1 = cc in omega arith

pub passed : (c : ℕ) (o : Out) (s : State) (bytes memory : List ℕ) → (unless c o (λ r. refused r s bytes memory)).said ≡ ok → c ≡ 0
passed c o s bytes memory e = ⊎_elim (λ z. z) (λ h. absurd (ok-not-no (sym (ap (λ (u : Out). u.said) (unless-no o (λ r. refused r s bytes memory) h)) ∙ e))) (refused-or-not c)

-- fresh and open: not refused, refused
module _ (n t l : ℕ) (bytes memory : List ℕ) where
  pub fresh-passed : (fresh n t l bytes memory).said ≡ ok → refusal (fresh_tests (shape_of n t l) bytes memory) ≡ 0
  unfolding fresh
  fresh-passed e = passed _ _ _ _ _ e

  pub open-passed : (opened n t l bytes memory).said ≡ ok → refusal (open_tests (shape_of n t l) bytes memory) ≡ 0
  unfolding opened
  open-passed e = passed _ _ _ _ _ e

  module _ (free : refusal (fresh_tests (shape_of n t l) bytes memory) ≡ 0) where
    pub fresh-accepted : fresh n t l bytes memory ≡ accepted (begun (shape_of n t l)) bytes (cleared_of (top_of (shape_of n t l)) n memory)
    unfolding fresh
    fresh-accepted = unless-0 _ _ free

    pub fresh-free : (limits (shape_of n t l) ≡ true) × (lengths_right (shape_of n t l) bytes memory ≡ true)
    fresh-free = let h = refusal-hold (fresh_tests (shape_of n t l) bytes memory) refl free in (h.0, h.1.0)

  module _ (free : refusal (open_tests (shape_of n t l) bytes memory) ≡ 0) where
    pub open-accepted : opened n t l bytes memory ≡ accepted (begun (shape_of n t l)) bytes memory
    unfolding opened
    open-accepted = unless-0 _ _ free

    pub open_free : (limits (shape_of n t l) ≡ true) × (lengths_right (shape_of n t l) bytes memory ≡ true) × (is_true_of (top_of (shape_of n t l)) n memory ≡ true)
    open_free = let h = refusal-hold (open_tests (shape_of n t l) bytes memory) refl free in (h.0, h.1.0, h.1.1.0)

  pub fresh-refused : 0 < refusal (fresh_tests (shape_of n t l) bytes memory) → fresh n t l bytes memory ≡ refused (refusal (fresh_tests (shape_of n t l) bytes memory)) zero_state bytes memory
  unfolding fresh
  fresh-refused h = unless-no _ _ h

  pub open-refused : 0 < refusal (open_tests (shape_of n t l) bytes memory) → opened n t l bytes memory ≡ refused (refusal (open_tests (shape_of n t l) bytes memory)) zero_state bytes memory
  unfolding opened
  open-refused h = unless-no _ _ h

  -- refused or not, every tracker is idle
  pub fresh-trackers : (fresh n t l bytes memory).state.trackers ≡ replicate most_trackers idle
  unfolding fresh
  fresh-trackers = unless-by {c = refusal (fresh_tests (shape_of n t l) bytes memory)} _ (λ c. refused c zero_state bytes memory) (λ (o : Out). o.state.trackers ≡ replicate most_trackers idle) (λ _. refl) (λ _. refl)

  pub open-trackers : (opened n t l bytes memory).state.trackers ≡ replicate most_trackers idle
  unfolding opened
  open-trackers = unless-by {c = refusal (open_tests (shape_of n t l) bytes memory)} _ (λ c. refused c zero_state bytes memory) (λ (o : Out). o.state.trackers ≡ replicate most_trackers idle) (λ _. refl) (λ _. refl)
