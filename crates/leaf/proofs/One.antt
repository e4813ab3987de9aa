-- Two results that a promise allows for one input are equal: both are the rule's.
use mathlib.Core.Path.{◌≡◌}
use mathlib.Core.List.{List, []}
use Prim.Native.Nat.{ℕ}
use Rattle.geometry.specs.declared.Shape.{Shape}
use Rattle.tracker.specs.declared.Tracker.{Tracker}
use Rattle.rules.specs.State.{Rows}
use Rattle.placing.specs.Lines.{rows}
use Rattle.outcome.specs.declared.Turned as left
use Rattle.outcome.specs.Steps.{turned}
use Rattle.outcome.proofs.One.{turned-one, rows-one}
use Rattle.leaf.specs.Leaf.{probe_on, leaf_on}

pub probe-one : (shape : Shape) (t : Tracker) (lines bytes : List ℕ) (r s : left.Turned)
    → ((m : List ℕ) → turned r lines bytes m ≡ probe_on shape t (rows lines bytes m))
    → ((m : List ℕ) → turned s lines bytes m ≡ probe_on shape t (rows lines bytes m)) → r ≡ s
probe-one shape t lines bytes r s p q = turned-one r s _ _ _ _ _ _ (p []) (q [])

pub leaf-one : (shape : Shape) (t : Tracker) (was : Rows) (r s : left.Turned) (ls bs m ls' bs' m' : List ℕ)
    → turned r ls bs m ≡ leaf_on shape t was
    → turned s ls' bs' m' ≡ leaf_on shape t was → (r ≡ s) × (rows ls bs m ≡ rows ls' bs' m')
leaf-one shape t was r s ls bs m ls' bs' m' p q = (turned-one r s _ _ _ _ _ _ p q, rows-one r s _ _ _ _ _ _ p q)
