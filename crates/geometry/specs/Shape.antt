-- The shape of a cache: 01's n leaves, T trackers and L lines, and the hand. Every rule is handed it beside the lines and the bytes.
use Rattle.std.specs.Prelude.{ℕ, suc}
use Rattle.geometry.specs.declared.Shape.{Shape}

-- "There are T trackers .. and L lines" over n leaves; "The hand starts at 0."
abbrev pub shape_of : (n t l : ℕ) → Shape
shape_of n t l = record { n = n; t = t; l = l; hand = 0 }

-- the shape with its hand at line h
abbrev pub at_hand : Shape → (h : ℕ) → Shape
at_hand shape h = record { n = shape.n; t = shape.t; l = shape.l; hand = h }

-- the level below the top: that of the leaves, for 01's device has two levels; and the top, the level of the blocks that are held
unfoldable pub below_top : Shape → ℕ
below_top shape = 0

abbrev pub top_of : Shape → ℕ
top_of shape = suc (below_top shape)
