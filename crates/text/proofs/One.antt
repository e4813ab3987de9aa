-- Each promise of this crate allows one result for one input: whether there is room; the place after a line, and the lent bytes.
use mathlib.Core.Path.{◌≡◌, sym, ◌∙◌}
use mathlib.Core.Bool.{Bool}
use mathlib.Core.List.{List}
use Prim.Native.Nat.{ℕ, ◌+◌}
use lib.ListN.{length}
use Rattle.laws.specs.Bytes.{splice, fits}
use Rattle.tracker.specs.Answer.{Said}
use Rattle.tracker.specs.declared.Transfers.{Transfers}
use Rattle.wording.specs.Text.{most, line_in}

pub has-room-one : (m : List ℕ) (a : ℕ) {r s : Bool} → r ≡ fits m a most → s ≡ fits m a most → r ≡ s
has-room-one m a p q = p ∙ sym q

pub put-line-one : (m : List ℕ) (a k : ℕ) (said : Said) (t : Transfers) {x y : List ℕ} {r q : ℕ}
    → (x ≡ splice m a (line_in m a k said t)) × (r ≡ a + length (line_in m a k said t))
    → (y ≡ splice m a (line_in m a k said t)) × (q ≡ a + length (line_in m a k said t)) → (x ≡ y) × (r ≡ q)
put-line-one m a k said t e f = (e.0 ∙ sym f.0, e.1 ∙ sym f.1)
