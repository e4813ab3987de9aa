-- "If another tracker holds this map block", a top block: in a whole state that is so exactly if the block's line names a holder.
use mathlib.Core.Path.{◌≡◌, subst}
use mathlib.Core.Bool.{true, false}
use Prim.Native.Nat.{ℕ, ◌-◌, ◌<◌, ◌≤◌}
use native.Mathlib.Omega.{arith}
use borrow.Author.Tests.{eqb-true, eq-eqb}
use Rattle.geometry.specs.Shape.{top_of}
use Rattle.geometry.specs.TagMemory.{groups, block_over}
use Rattle.laws.proofs.Choice.{not-both-ways, both_true, both_left, both_right}
use Rattle.tracker.specs.Tracker.{holds_at}
use Rattle.line.specs.Word.{holder, held}
use Rattle.line.specs.Find.{line_of}
use Rattle.rules.specs.State.{State, tracker_at}
use Rattle.rules.specs.Whole.{holds}
use Rattle.rules.proofs.Words.{held-holder, holder-held}
use Rattle.rules.proofs.Lined.{at, Held, low, line_of-is, line_of-has}
use Rattle.rules.proofs.Whole.{Whole}
use Rattle.rules.proofs.Situation.{top-held, kept-holds, kept_top}

-- a tracker other than x that holds block m
pub record Another (s : State) (x m : ℕ) : Type 0 where
  pub who : ℕ
  pub who-lt : who < s.shape.t
  pub not-x : who ≡ x → ⊥
  pub holds-it : holds (top_of s.shape) s.shape.n (tracker_at s.trackers who) m ≡ true

module _ (s : State) (f : Whole s) (x : ℕ) where
  -- of group g's top block, in its line
  module _ (g : ℕ) (gl : g < groups s.shape.n) where
    abbrev block : ℕ
    block = block_over (top_of s.shape) s.shape.n g

    abbrev line : ℕ
    line = line_of s.lines s.shape.l block

    pub named-another : holds_at (tracker_at s.trackers x).phase ≡ false → line < s.shape.l → held (at s.lines line) ≡ true → Another s x block
    unfolding holds
    named-another free q h =
        let p : 0 < holder (at s.lines line) = held-holder _ h in
        let r = f.lined.named line block (line_of-has s.lines s.shape.l block q) p in
        let y = holder (at s.lines line) - 1 in
        let k = kept-holds s.shape s.trackers f.lined f.tracked (top_of s.shape) g y gl r.1 in
        let few : holder (at s.lines line) ≤ s.shape.t = r.0 in
        record {
          who = y;
          who-lt = omega arith;
          not-x = λ e. not-both-ways (subst (λ (z : ℕ). holds_at (tracker_at s.trackers z).phase ≡ true) e k) free;
          holds-it = both_true _ _ k (eq-eqb _ _ (kept_top s.shape s.trackers f.lined f.tracked (top_of s.shape) g y gl r.1));
        }

  pub another-named : (m : ℕ) → Another s x m → (line_of s.lines s.shape.l m < s.shape.l) × (held (at s.lines (line_of s.lines s.shape.l m)) ≡ true)
  unfolding holds
  another-named m a =
      let h : Held s.lines a.who m = subst (Held s.lines a.who) (eqb-true _ _ (both_right _ _ a.holds-it))
      (top-held s.shape s.trackers f.lined f.tracked a.who a.who-lt (both_left _ _ a.holds-it)) in
      let i : line_of s.lines s.shape.l m ≡ h.line = line_of-is f.lined.apart h.line m h.has-it in
      let p : 0 < holder (at s.lines h.line) = omega (arith, h.is-holder) in
      rw i (low f.lined.apart h.line m h.has-it, holder-held _ p)
