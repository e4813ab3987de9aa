-- Two results that the promise allows for one input are equal: both are the rule's.
use mathlib.Core.Path.{◌≡◌, sym, ◌∙◌}
use mathlib.Core.Bool.{Bool}
use mathlib.Core.List.{List}
use Prim.Native.Nat.{ℕ}
use Rattle.geometry.specs.declared.Shape.{Shape}
use Rattle.tracker.specs.declared.Tracker.{Tracker}
use Rattle.rules.specs.State.{Rows, lengths_right}
use Rattle.rules.specs.Step.{turn_of}
use Rattle.placing.specs.Lines.{rows}
use Rattle.outcome.specs.declared.Turned as left
use Rattle.outcome.specs.Steps.{turned}
use Rattle.outcome.proofs.One.{turned-one, rows-one}

pub turn_one : (shape : Shape) (x : ℕ) (t : Tracker) (was : Rows) (r s : left.Turned) (ls bs m ls' bs' m' : List ℕ)
    → turned r ls bs m ≡ turn_of shape x t was
    → turned s ls' bs' m' ≡ turn_of shape x t was → (r ≡ s) × (rows ls bs m ≡ rows ls' bs' m')
turn_one shape x t was r s ls bs m ls' bs' m' p q = (turned-one r s _ _ _ _ _ _ p q, rows-one r s _ _ _ _ _ _ p q)

pub lengths-right-one : (shape : Shape) (bytes memory : List ℕ) {r s : Bool} → r ≡ lengths_right shape bytes memory → s ≡ lengths_right shape bytes memory → r ≡ s
lengths-right-one shape bytes memory p q = p ∙ sym q
