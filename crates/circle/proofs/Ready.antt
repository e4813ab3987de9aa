-- What a run under way can rely on: a whole state with the lengths right, which every call keeps; a busy tracker's step is never refused, and Top waits exactly under another's hold.
use mathlib.Core.Path.{◌≡◌, ap}
use mathlib.Core.Bool.{Bool, true, false}
use mathlib.Core.Logic.{⊎_elim}
use Prim.Native.Nat.{ℕ, ◌<◌, ◌≤◌}
use lib.ListN.{length}
use borrow.Author.Tests.{ltb-true, lt-ltb}
use Rattle.laws.proofs.Choice.{not-both-ways, both_left, both_right, both_true}
use Rattle.laws.proofs.Splice.{lt-or-ge}
use Rattle.geometry.specs.declared.Shape.{Shape}
use Rattle.geometry.specs.Shape.{top_of}
use Rattle.geometry.specs.TagMemory.{block_over}
use Rattle.tracker.specs.declared.Access.{Access}
use Rattle.tracker.specs.declared.Phase.TheVariants.{Top}
use Rattle.tracker.specs.Tracker.{is_idle, is_idle_at, holds_at}
use Rattle.tracker.specs.Answer.{no}
use Rattle.rules.specs.State.{lengths_right}
use Rattle.rules.specs.Whole.{whole}
use Rattle.rules.specs.Calls.{Out}
use Rattle.rules.specs.Run.{issues, steps, drains, Kept, kept, rows_of, does}
use Rattle.rules.proofs.Ways.{top_held}
use Rattle.rules.proofs.Whole.{whole-facts}
use Rattle.rules.proofs.Keeps.{is_no}
use Rattle.rules.proofs.Calls.{issue-kept, step_kept, drain_kept, step-not-refused}
use Rattle.rules.proofs.Calls as Calls
use Rattle.rules.proofs.Another.{Another, named-another, another-named}
use Rattle.circle.proofs.Circle.{tracker_in}

-- the lengths are right
abbrev pub right : Kept → Bool
right k = lengths_right k.state.shape k.bytes k.memory

abbrev pub Ready : Kept → Type 0
Ready k = (whole k.state ≡ true) × (right k ≡ true)

-- the top block of tracker x: what it holds or waits for
abbrev pub top_block : Kept → ℕ → ℕ
top_block k x = block_over (top_of k.state.shape) k.state.shape.n (tracker_in k x).group

ready-out : (shape : Shape) (o : Out) → Calls.Sound shape o → Ready (kept o)
ready-out shape o h = (h.is_whole, h.right)

module _ (k : Kept) (s : Ready k) where
  pub long : k.state.shape.t ≤ length k.state.trackers
  long = (whole-facts k.state s.0).tracked.long

  -- a busy tracker is one of the T
  pub busy-below : (x : ℕ) → is_idle (tracker_in k x) ≡ false → x < k.state.shape.t
  busy-below x b = ⊎_elim (λ h. h) (λ h. absurd (not-both-ways ((whole-facts k.state s.0).tracked.above x h) b)) (lt-or-ge x k.state.shape.t)

  pub issue-keeps : (x : ℕ) (access : Access) → Ready (kept (does k (issues x access)))
  unfolding does
  issue-keeps x access = ready-out _ _ (issue-kept k.state k.bytes k.memory s.0 s.1 x access)

  pub step_keeps : (x : ℕ) → Ready (kept (does k (steps x)))
  unfolding does
  step_keeps x = ready-out _ _ (step_kept k.state k.bytes k.memory s.0 s.1 x)

  pub drain-keeps : Ready (kept (does k drains))
  unfolding does
  drain-keeps = ready-out _ _ (drain_kept k.state k.bytes k.memory s.0 s.1)

  -- A busy tracker's step is never refused.
  pub never-refused : (x c : ℕ) → x < k.state.shape.t → is_idle (tracker_in k x) ≡ false → (does k (steps x)).said ≡ no c → ⊥
  unfolding does
  never-refused x c h b e = not-both-ways (ap is_no e) (step-not-refused k.state k.bytes k.memory s.0 s.1 x h b)

  -- At Top: the top block's line names a holder exactly if another tracker holds it.
  module _ (x : ℕ) (at_top : (tracker_in k x).phase ≡ Top) where
    pub another : top_held k.state.shape (tracker_in k x) (rows_of k) ≡ true → Another k.state x (top_block k x)
    another h =
        let f = whole-facts k.state s.0 in
        named-another k.state f x (tracker_in k x).group (f.tracked.group-lt x (ap is_idle_at at_top)) (ap holds_at at_top) (ltb-true _ _ (both_left _ _ h)) (both_right _ _ h)

    pub nobody : top_held k.state.shape (tracker_in k x) (rows_of k) ≡ false → Another k.state x (top_block k x) → ⊥
    nobody h a =
        let r = another-named k.state (whole-facts k.state s.0) x (top_block k x) a in
        not-both-ways (both_true _ _ (lt-ltb _ _ r.0) r.1) h
