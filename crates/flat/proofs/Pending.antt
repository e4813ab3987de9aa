-- Pending bits by the trackers: one tracker changes, and only it is under its top block.
use mathlib.Core.Path.{◌≡◌, refl, sym, ap, ◌∙◌, subst}
use mathlib.Core.Bool.{Bool, true, false}
use mathlib.Core.List.{List}
use mathlib.Core.Logic.{◌⊎◌, inl, inr}
use Prim.Native.Nat.{ℕ, ◌+◌, ◌≤◌, ◌<◌}
use native.Mathlib.Decide.{ℕ_discrete}
use lib.ListN.{length, set, length-set}
use lib.Seq.{get_or-set_same, get_or-set_other}
use borrow.Author.Tests.{eq-eqb, ne_eqb, eqb-true}
use Rattle.laws.specs.Scan.{some}
use Rattle.laws.proofs.Choice.{not-both-ways, true-or-false, both_left, both_right, both_true, both-false-left, both-false-right, never_true}
use Rattle.laws.proofs.Some.{some-true, some-none, some_same}
use Rattle.geometry.specs.TagMemory.{index}
use Rattle.geometry.proofs.Levels.{index-above}
use Rattle.tracker.specs.declared.Phase.{Phase}
use Rattle.tracker.specs.declared.Phase.TheVariants.{Idle, Under}
use Rattle.tracker.specs.declared.Tracker.{Tracker}
use Rattle.tracker.specs.Tracker.{idle, holds_at, at_finish, finish_at}
use Rattle.tracker.proofs.Phases.{finish-holds}
use Rattle.rules.specs.State.{tracker_at}
use Rattle.flat.proofs.Contained.{finishing, pends, pend, Alone, Free}
use Rattle.flat.proofs.Full.{above, above-index}

pub finishing-holds : (p : Phase) (e : ℕ) → finishing p e ≡ true → holds_at p ≡ true
unfolding finishing
finishing-holds p e t = finish-holds p (both_left _ _ t)

-- a phase before its moment puts no bit
pub not-finishing : (p : Phase) → at_finish p ≡ false → (e : ℕ) → finishing p e ≡ false
unfolding finishing
not-finishing p f e = both-false-left _ _ f

pub finish-is : (s : Bool) (e : ℕ) → finishing (finish_at s e) e ≡ true
unfolding finishing
finish-is true e = both_true _ _ refl (eq-eqb e e refl)
finish-is false e = both_true _ _ refl (eq-eqb e e refl)

pub finish-not : (s : Bool) (d e : ℕ) → (d ≡ e → ⊥) → finishing (finish_at s d) e ≡ false
unfolding finishing
finish-not true d e q = both-false-right _ _ (ne_eqb d e q)
finish-not false d e q = both-false-right _ _ (ne_eqb d e q)

module _ (u : Tracker) (e k : ℕ) where
  pub pends-not : finishing u.phase e ≡ false → pends u e k ≡ false
  unfolding pends
  pends-not f = both-false-left _ _ f

  pub pends-other : (index e u.group ≡ k → ⊥) → pends u e k ≡ false
  unfolding pends
  pends-other n = both-false-right _ _ (ne_eqb _ _ n)

  pub pends-is : finishing u.phase e ≡ true → index e u.group ≡ k → pends u e k ≡ true
  unfolding pends
  pends-is f q = both_true _ _ f (eq-eqb _ _ q)

  pub pends-finishing : pends u e k ≡ true → finishing u.phase e ≡ true
  unfolding pends
  pends-finishing t = both_left _ _ t

  pub pends-index : pends u e k ≡ true → index e u.group ≡ k
  unfolding pends
  pends-index t = eqb-true _ _ (both_right _ _ t)

pub pends-idle : (e k : ℕ) → pends idle e k ≡ false
pends-idle e k = pends-not idle e k (not-finishing Idle refl e)

module _ (ts : List Tracker) (e k : ℕ) where
  pub pend-none : ((y : ℕ) → pends (tracker_at ts y) e k ≡ false) → pend ts e k ≡ false
  unfolding pend
  pend-none f = some-none _ _ (λ y l. f y)

  -- only x may put this bit
  pub pend-own : (x : ℕ) → x < length ts → ((y : ℕ) → (y ≡ x → ⊥) → pends (tracker_at ts y) e k ≡ false) → pend ts e k ≡ pends (tracker_at ts x) e k
  unfolding pend
  pend-own x xl f = go (true-or-false (pends (tracker_at ts x) e k))
    where
      each : pends (tracker_at ts x) e k ≡ false → (y : ℕ) → Dec (y ≡ x) → pends (tracker_at ts y) e k ≡ false
      each n y (yes q) = rw q n
      each n y (no q) = f y q

      go : (pends (tracker_at ts x) e k ≡ true) ⊎ (pends (tracker_at ts x) e k ≡ false) → some (λ y. pends (tracker_at ts y) e k) (length ts) ≡ pends (tracker_at ts x) e k
      go (inl t) = some-true _ _ x xl t ∙ sym t
      go (inr n) = some-none _ _ (λ y l. each n y (ℕ_discrete y x)) ∙ sym n

-- tracker x becomes u', the others stay
module _ (ts : List Tracker) (x : ℕ) (xl : x < length ts) (u' : Tracker) where
  pub each : (P : Tracker → Type 0) → P u' → ((y : ℕ) → (y ≡ x → ⊥) → P (tracker_at ts y)) → (y : ℕ) → P (tracker_at (set ts x u') y)
  each P here other y = go (ℕ_discrete y x)
    where
      go : Dec (y ≡ x) → P (tracker_at (set ts x u') y)
      go (yes q) = rw (q, get_or-set_same ts x u' idle xl) here
      go (no q) = rw (get_or-set_other ts x y u' idle q) (other y q)

  pub pend-keeps : (e k : ℕ) → pends u' e k ≡ pends (tracker_at ts x) e k → pend (set ts x u') e k ≡ pend ts e k
  unfolding pend
  pend-keeps e k q = rw (length-set ts x u') (some_same _ _ (length ts) (λ y l. go y (ℕ_discrete y x)))
    where
      go : (y : ℕ) → Dec (y ≡ x) → pends (tracker_at (set ts x u') y) e k ≡ pends (tracker_at ts y) e k
      go y (yes d) = rw (d, get_or-set_same ts x u' idle xl) q
      go y (no d) = rw (get_or-set_other ts x y u' idle d)

  pub pend-set : (e k : ℕ) → ((y : ℕ) → (y ≡ x → ⊥) → pends (tracker_at ts y) e k ≡ false) → pend (set ts x u') e k ≡ pends u' e k
  pend-set e k f = pend-own (set ts x u') e k x (rw (length-set ts x u') xl) (λ y d. rw (get_or-set_other ts x y u' idle d) (f y d)) ∙ rw (get_or-set_same ts x u' idle xl)

-- a tracker at Finish for a bit over a block below top block j holds that
pends-top : (top : ℕ) (u : Tracker) (j e d k : ℕ) → e + d ≡ top → above d k ≡ j → pends u e k ≡ true → index top u.group ≡ j
pends-top top u j e d k q a t = subst (λ (c : ℕ). index c u.group ≡ j) q (sym (above-index e d u.group) ∙ ap (above d) (pends-index u e k t) ∙ a)

module _ (top : ℕ) (ts : List Tracker) where
  -- under x's top block nobody else is
  pub others-not : (x : ℕ) → Alone top ts x → (e k : ℕ) → e ≤ top → index e (tracker_at ts x).group ≡ k → (y : ℕ) → (y ≡ x → ⊥) → pends (tracker_at ts y) e k ≡ false
  others-not x alone e k l q y d = never_true (λ t. alone y d (finishing-holds (tracker_at ts y).phase e (pends-finishing (tracker_at ts y) e k t))
      (index-above e top _ _ l (pends-index (tracker_at ts y) e k t ∙ sym q)))

  -- a bit under x's top block that x itself does not put is not pending
  pub under-own : (x : ℕ) → Alone top ts x → (e d k : ℕ) → e + d ≡ top → above d k ≡ index top (tracker_at ts x).group → pends (tracker_at ts x) e k ≡ false → pend ts e k ≡ false
  under-own x alone e d k q a mine = pend-none ts e k (λ y. never_true (λ t. go y t (ℕ_discrete y x)))
    where
      go : (y : ℕ) → pends (tracker_at ts y) e k ≡ true → Dec (y ≡ x) → ⊥
      go y t (yes p) = not-both-ways t (rw p mine)
      go y t (no p) = alone y p (finishing-holds (tracker_at ts y).phase e (pends-finishing (tracker_at ts y) e k t)) (pends-top top (tracker_at ts y) _ e d k q a t)

  -- under a top block with nobody at Finish no bit is pending
  abbrev pub Quiet : ℕ → Type 0
  Quiet j = (e d k : ℕ) → e + d ≡ top → above d k ≡ j → pend ts e k ≡ false

  pub free-quiet : (j : ℕ) → Free top ts j → Quiet j
  free-quiet j free e d k q a = pend-none ts e k (λ y. never_true (λ t.
      free y (finishing-holds (tracker_at ts y).phase e (pends-finishing (tracker_at ts y) e k t)) (pends-top top (tracker_at ts y) j e d k q a t)))

  pub under-quiet : (x d : ℕ) → Alone top ts x → (tracker_at ts x).phase ≡ Under d → Quiet (index top (tracker_at ts x).group)
  under-quiet x d alone ph e c k q a = under-own x alone e c k q a (pends-not (tracker_at ts x) e k (rw ph (not-finishing (Under d) refl e)))
