-- Laws of the tests of a whole state: what each comes to where a part of it is known.
use mathlib.Core.Path.{◌≡◌, refl, ◌∙◌}
use mathlib.Core.List.{List}
use mathlib.Core.Bool.{Bool, true, false, not}
use mathlib.Core.Logic.{⊎_elim}
use Prim.Native.Nat.{ℕ, suc, ◌≤◌, ◌<◌}
use native.Mathlib.Omega.{arith}
use lib.Dec.{eqb, ltb, leb}
use lib.ListN.{length, get_or}
use borrow.Author.Tests.{le-leb, lt-leb}
use Rattle.geometry.specs.declared.Shape.{Shape}
use Rattle.geometry.specs.Shape.{shape_of, top_of}
use Rattle.geometry.proofs.Shapes.{below-start}
use Rattle.geometry.specs.TagMemory.{groups, block_over}
use Rattle.laws.specs.Choice.{both, implies, no}
use Rattle.laws.specs.Scan.{all}
use Rattle.laws.proofs.Choice.{both_true, both-false-left, both-false-right, not-both-ways, true-or-false}
use Rattle.laws.proofs.Scan.{all-is}
use Rattle.tracker.specs.declared.Access.{Access}
use Rattle.tracker.specs.declared.Phase.{Phase}
use Rattle.tracker.specs.declared.Phase.TheVariants.{Idle, Probe, Top, Under, Set, Clear}
use Rattle.tracker.specs.declared.Tracker.{Tracker}
use Rattle.tracker.proofs.Phases.{asks-keeps}
use Rattle.tracker.specs.Tracker.{idle, is_idle, is_idle_at, asks_at, keeps_at}
use Rattle.line.specs.Word.{used}
use Rattle.rules.specs.State.{tracker_at}
use Rattle.rules.specs.Whole.{limits, line_whole, phase_whole, level_whole, tracker_whole, whole}
use Rattle.rules.specs.Calls.{meets}
use Rattle.whole.specs.Parts.{state_of, limits_of}

asks-not : (p : Phase) (e : ℕ) → keeps_at p e ≡ false → asks_at p e ≡ false
asks-not p e h = ⊎_elim (λ a. absurd (not-both-ways (asks-keeps p e a) h)) (λ a. a) (true-or-false (asks_at p e))

-- a tracker and its block of a level
module _ (shape : Shape) (lines : List ℕ) (ts : List Tracker) (x : ℕ) (t : Tracker) (e : ℕ) where
  pub level-loose : keeps_at t.phase e ≡ false → level_whole (state_of shape lines ts) x t e ≡ true
  unfolding level_whole implies both
  level-loose h = rw (h, asks-not t.phase e h)

idle-at : (p : Phase) → is_idle_at p ≡ true → p ≡ Idle
idle-at Idle h = refl
idle-at (Probe d) h = let z : ◌≡◌ {A = ℕ} 0 1 = cc in absurd (omega arith)
idle-at Top h = let z : ◌≡◌ {A = ℕ} 0 1 = cc in absurd (omega arith)
idle-at (Under d) h = let z : ◌≡◌ {A = ℕ} 0 1 = cc in absurd (omega arith)
idle-at (Set d) h = let z : ◌≡◌ {A = ℕ} 0 1 = cc in absurd (omega arith)
idle-at (Clear d) h = let z : ◌≡◌ {A = ℕ} 0 1 = cc in absurd (omega arith)

-- a tracker
module _ (shape : Shape) (lines : List ℕ) (ts : List Tracker) (x : ℕ) where
  abbrev t : Tracker
  t = tracker_at ts x

  idle-levels : t.phase ≡ Idle → all (λ e. level_whole (state_of shape lines ts) x t (suc e)) (top_of shape) ≡ true
  unfolding keeps_at both
  idle-levels h = all-is _ (top_of shape) (λ e l. level-loose shape lines ts x t (suc e) (rw h))

  idle-phase : t.phase ≡ Idle → both (implies (no (is_idle t)) (ltb t.group (groups shape.n))) (phase_whole (top_of shape) t.write t.bottom t.phase) ≡ true
  unfolding implies both no
  idle-phase e = rw e

  pub tracker-idle : is_idle t ≡ true → tracker_whole (state_of shape lines ts) x ≡ true
  unfolding tracker_whole
  tracker-idle h = both_true _ _ (idle-phase (idle-at t.phase h)) (idle-levels (idle-at t.phase h))

-- the limits, number by number
pub limits-are : (shape : Shape) → limits shape ≡ limits_of (top_of shape) shape.n shape.t shape.l
unfolding limits limits_of
limits-are shape = refl

-- of 01's device
pub limits-start : (n t l : ℕ) → limits (shape_of n t l) ≡ limits_of 1 n t l
limits-start n t l = limits-are (shape_of n t l) ∙ rw (below-start n t l)

-- block b is the tracker's of level e + 1, whose line it keeps
abbrev pub at_level : (n : ℕ) → Tracker → (b : ℕ) → ℕ → Bool
at_level n t b e = both (keeps_at t.phase (suc e)) (eqb (block_over (suc e) n t.group) b)

-- the whole test, once the limits are known
module _ (shape : Shape) (lines : List ℕ) (ts : List Tracker) where
  pub whole-limits : limits shape ≡ false → whole (state_of shape lines ts) ≡ false
  unfolding whole both
  whole-limits h = rw h

  pub whole-short : length lines < shape.l → whole (state_of shape lines ts) ≡ false
  unfolding whole
  whole-short h = both-false-right _ _ (both-false-left _ _ (both-false-left _ _ (lt-leb shape.l (length lines) h)))

  pub whole_is : limits shape ≡ true → shape.l ≤ length lines → shape.t ≤ length ts
      → whole (state_of shape lines ts)
      ≡ both (ltb shape.hand shape.l)
      (both (both (all (λ i. implies (leb shape.l i) (no (used (get_or lines i 0)))) (length lines)) (all (λ x. implies (leb shape.t x) (is_idle (tracker_at ts x))) (length ts)))
      (both (all (line_whole (state_of shape lines ts)) shape.l) (all (tracker_whole (state_of shape lines ts)) shape.t)))
  unfolding whole both line_whole tracker_whole
  whole_is h q e = rw (h, le-leb shape.l (length lines) q, le-leb shape.t (length ts) e) refl

-- an access does not meet an idle tracker
pub idle_met : (a : Access) → not (meets a idle) ≡ true
unfolding meets both
idle_met a = refl
