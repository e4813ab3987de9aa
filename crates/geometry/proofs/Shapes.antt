-- The levels of a shape: the hand does not change them, and 01's device has two.
use mathlib.Core.Path.{◌≡◌, refl}
use Prim.Native.Nat.{ℕ}
use Rattle.geometry.specs.declared.Shape.{Shape}
use Rattle.geometry.specs.Shape.{shape_of, at_hand, below_top}

pub below-hand : (shape : Shape) (h : ℕ) → below_top (at_hand shape h) ≡ below_top shape
unfolding below_top
below-hand shape h = refl

pub below-start : (n t l : ℕ) → below_top (shape_of n t l) ≡ 0
unfolding below_top
below-start n t l = refl
