-- What one column of the table of phases says of another.
use mathlib.Core.Path.{◌≡◌, refl}
use mathlib.Core.Bool.{Bool, true, false}
use Prim.Native.Nat.{ℕ, ◌<◌}
use native.Mathlib.Omega.{arith}
use lib.Dec.{ltb}
use borrow.Author.Tests.{lt-ltb, ltb-true}
use Rattle.laws.specs.Choice.{pick, both}
use Rattle.laws.proofs.Choice.{not-both-ways, both_true, both_left, both_right, both-false-left}
use Rattle.tracker.specs.declared.Phase.{Phase}
use Rattle.tracker.specs.declared.Phase.TheVariants.{Idle, Probe, Top, Under, Set, Clear}
use Rattle.tracker.specs.Tracker.{is_idle_at, holds_at, at_finish, level_of, asks_at, keeps_at, finish_at}

pub idle-loose : (p : Phase) → is_idle_at p ≡ true → holds_at p ≡ false
idle-loose Idle h = refl
idle-loose (Probe d) h = refl
idle-loose Top h = refl
idle-loose (Under d) h = absurd (not-both-ways h refl)
idle-loose (Set d) h = absurd (not-both-ways h refl)
idle-loose (Clear d) h = absurd (not-both-ways h refl)

pub holds-busy : (p : Phase) → holds_at p ≡ true → is_idle_at p ≡ false
holds-busy Idle h = absurd (not-both-ways h refl)
holds-busy (Probe d) h = refl
holds-busy Top h = refl
holds-busy (Under d) h = refl
holds-busy (Set d) h = refl
holds-busy (Clear d) h = refl

pub finish-holds : (p : Phase) → at_finish p ≡ true → holds_at p ≡ true
finish-holds Idle h = absurd (not-both-ways h refl)
finish-holds (Probe d) h = absurd (not-both-ways h refl)
finish-holds Top h = absurd (not-both-ways h refl)
finish-holds (Under d) h = refl
finish-holds (Set d) h = refl
finish-holds (Clear d) h = refl

pub idle-unfinished : (p : Phase) → is_idle_at p ≡ true → at_finish p ≡ false
idle-unfinished Idle h = refl
idle-unfinished (Probe d) h = refl
idle-unfinished Top h = refl
idle-unfinished (Under d) h = refl
idle-unfinished (Set d) h = absurd (not-both-ways h refl)
idle-unfinished (Clear d) h = absurd (not-both-ways h refl)

module _ (p : Phase) (e : ℕ) where
  -- what a state must have in a line is kept there
  pub asks-keeps : asks_at p e ≡ true → keeps_at p e ≡ true
  unfolding asks_at keeps_at
  asks-keeps h = both_true _ _ (both_left _ _ h) (below p (ltb-true _ _ (both_right _ _ h)))
    where
      below : (q : Phase) → level_of q < e → ltb (pick (at_finish q) 0 (level_of q)) e ≡ true
      below Idle l = lt-ltb _ _ l
      below (Probe d) l = lt-ltb _ _ l
      below Top l = lt-ltb _ _ l
      below (Under d) l = lt-ltb _ _ l
      below (Set d) l = lt-ltb 0 e (omega arith)
      below (Clear d) l = lt-ltb 0 e (omega arith)

  pub keeps-holds : keeps_at p e ≡ true → holds_at p ≡ true
  unfolding keeps_at
  keeps-holds h = both_left _ _ h

  pub asks-holds : asks_at p e ≡ true → holds_at p ≡ true
  unfolding asks_at
  asks-holds h = both_left _ _ h

  pub asks-above : asks_at p e ≡ true → level_of p < e
  unfolding asks_at
  asks-above h = ltb-true _ _ (both_right _ _ h)

  pub asks-is : holds_at p ≡ true → level_of p < e → asks_at p e ≡ true
  unfolding asks_at
  asks-is h l = both_true _ _ h (lt-ltb _ _ l)

  -- who does not hold keeps nothing, and asks for nothing
  module _ (h : holds_at p ≡ false) where
    pub loose-keeps : keeps_at p e ≡ false
    unfolding keeps_at
    loose-keeps = both-false-left _ _ h

    pub loose-asks : asks_at p e ≡ false
    unfolding asks_at
    loose-asks = both-false-left _ _ h

-- Under d keeps and asks for the levels above d; Finish d keeps all from 1 on, and asks for those above d
module _ (d e : ℕ) where
  pub keeps-under : keeps_at (Under d) e ≡ ltb d e
  unfolding keeps_at both
  keeps-under = refl

  pub asks-under : asks_at (Under d) e ≡ ltb d e
  unfolding asks_at both
  asks-under = refl

  pub keeps-finish : (s : Bool) → keeps_at (finish_at s d) e ≡ ltb 0 e
  unfolding keeps_at both
  keeps-finish true = refl
  keeps-finish false = refl

  pub asks-finish : (s : Bool) → asks_at (finish_at s d) e ≡ ltb d e
  unfolding asks_at both
  asks-finish true = refl
  asks-finish false = refl
