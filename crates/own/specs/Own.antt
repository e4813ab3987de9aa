-- A tracker's own lines, those of the blocks over its group: as they are found, and as a rule knows them.
use Rattle.std.specs.Prelude.{◌≡◌, List, ℕ, ◌≤◌, eqb, ltb}
use Rattle.laws.specs.Choice.{pick}
use Rattle.geometry.specs.declared.Shape.{Shape}
use Rattle.geometry.specs.Shape.{top_of}
use Rattle.geometry.specs.TagMemory.{in_limits_of, block_over}
use Rattle.line.specs.Find.{line_of}
use Rattle.own.specs.declared.Own.{Own}

-- the line of the block of level e over group g; L where it has none, as where there is no such device
unfoldable pub line_over : Shape → (g : ℕ) (lines : List ℕ) (e : ℕ) → ℕ
line_over shape g lines e = pick (in_limits_of (top_of shape) shape.n) (line_of lines shape.l (block_over e shape.n g)) shape.l

-- those of levels 1 and 2; a level past the top has none
unfoldable pub own_of : Shape → (g : ℕ) (lines : List ℕ) → Own
own_of shape g lines = record { one = line_over shape g lines 1; two = pick (ltb 1 (top_of shape)) (line_over shape g lines 2) shape.l }

-- the one of level e
unfoldable pub line_on : Own → ℕ → ℕ
line_on own e = pick (eqb e 1) own.one own.two

-- on each level, 1 to top, it is the line of the block over group g
abbrev pub Owns : Own → Shape → (g : ℕ) (lines : List ℕ) → Type 0
Owns own shape g lines = (e : ℕ) → 1 ≤ e → e ≤ top_of shape → line_on own e ≡ line_of lines shape.l (block_over e shape.n g)
