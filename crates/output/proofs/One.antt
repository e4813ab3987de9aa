-- Each promise of this crate allows one result for one input.
use mathlib.Core.Path.{◌≡◌, sym, ◌∙◌}
use mathlib.Core.Bool.{Bool}
use mathlib.Core.List.{List}
use Prim.Native.Nat.{ℕ}
use Rattle.std.specs.Prelude.{Option}
use Rattle.output.specs.declared.Line.{Line}
use Rattle.output.specs.Line.{alike_at, line_of, is_line}

pub alike-one : (a : List ℕ) (i : ℕ) (b : List ℕ) (j n : ℕ) {r s : Bool} → r ≡ alike_at a i b j n → s ≡ alike_at a i b j n → r ≡ s
alike-one a i b j n p q = p ∙ sym q

pub read_one : (line : List ℕ) {r s : Option Line} → r ≡ line_of line → s ≡ line_of line → r ≡ s
read_one line p q = p ∙ sym q

pub is-line-one : (line : List ℕ) {r s : Bool} → r ≡ is_line (line_of line) → s ≡ is_line (line_of line) → r ≡ s
is-line-one line p q = p ∙ sym q
