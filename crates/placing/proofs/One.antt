-- Two results that a promise allows for one input are equal: both are the rule's.
use Rattle.std.specs.Prelude.{Option, Some, None, IfSome}
use mathlib.Core.Path.{◌≡◌, refl, sym, ap, ◌∙◌}
use mathlib.Core.List.{List}
use mathlib.Core.Bool.{Bool}
use Prim.Native.Nat.{ℕ, ◌*◌, ◌<◌}
use native.Mathlib.Omega.{arith}
use lib.Dec.{eqb}
use lib.ListN.{length}
use Rattle.geometry.specs.declared.Shape.{Shape}
use Rattle.tracker.specs.declared.Transfers.{Transfers}
use Rattle.tracker.specs.Transfers.{none}
use Rattle.rules.specs.Place.{rows_fit, Brought}
use Rattle.placing.specs.declared.Spot.{Spot}
use Rattle.placing.specs.Lines.{rows, brought, brought_if, Drained, leaves}
use Rattle.placing.proofs.Ways.{line-is, rows_are}

pub spot-at-one : (line : ℕ) (shape : Shape) {a b : Spot} → a ≡ record { line = line; shape = shape; copies = none } → b ≡ record { line = line; shape = shape; copies = none } → a ≡ b
spot-at-one line shape p q = p ∙ sym q

pub bytes-fit-one : (l : ℕ) (bytes : List ℕ) {a b : Bool} → a ≡ eqb (length bytes) (64 * l) → b ≡ eqb (length bytes) (64 * l) → a ≡ b
bytes-fit-one l bytes p q = p ∙ sym q

pub rows-fit-one : (l : ℕ) (lines bytes : List ℕ) {a b : Bool} → a ≡ rows_fit l lines bytes → b ≡ rows_fit l lines bytes → a ≡ b
rows-fit-one l lines bytes p q = p ∙ sym q

spot-one : {d : Brought} (a b : Spot) (ls bs m ls' bs' m' : List ℕ) → brought a ls bs m ≡ d → brought b ls' bs' m' ≡ d → (a ≡ b) × (rows ls bs m ≡ rows ls' bs' m')
spot-one a b ls bs m ls' bs' m' p q =
    let e : brought a ls bs m ≡ brought b ls' bs' m' = p ∙ sym q in
    (ap (λ (y : Brought). spot y.line y.shape y.copies) e, rows_are e)
  where
    spot : ℕ → Shape → Transfers → Spot
    spot line shape copies = record { line = line; shape = shape; copies = copies }

-- what `place`, `fetch`, `bring_in` and `create` leave: a line below L or none, the shape, the copies and the rows
pub brought-one : (shape : Shape) {d : Brought} (a b : Option Spot) (ls bs m ls' bs' m' : List ℕ) → IfSome a (λ s. s.line < shape.l) → IfSome b (λ s. s.line < shape.l)
    → brought_if shape a ls bs m ≡ d → brought_if shape b ls' bs' m' ≡ d → (a ≡ b) × (rows ls bs m ≡ rows ls' bs' m')
brought-one shape (Some a) (Some b) ls bs m ls' bs' m' h k p q =
    let e = spot-one a b ls bs m ls' bs' m' p q in
    (ap (λ (s : Spot). Some s) e.0, e.1)
brought-one shape (Some a) None ls bs m ls' bs' m' h k p q =
    let l : a.line < shape.l = h in absurd (omega (arith, l, line-is (p ∙ sym q)))
brought-one shape None (Some b) ls bs m ls' bs' m' h k p q =
    let l : b.line < shape.l = k in absurd (omega (arith, l, line-is (p ∙ sym q)))
brought-one shape None None ls bs m ls' bs' m' h k p q = (refl, rows_are (p ∙ sym q))

-- what `drain` leaves: the copies and the rows
pub drain-one : {d : Drained} (a b : Transfers) (ls bs m ls' bs' m' : List ℕ) → leaves a ls bs m ≡ d → leaves b ls' bs' m' ≡ d → (a ≡ b) × (rows ls bs m ≡ rows ls' bs' m')
drain-one a b ls bs m ls' bs' m' p q =
    let e : leaves a ls bs m ≡ leaves b ls' bs' m' = p ∙ sym q in
    (ap (λ (y : Drained). y.copies) e, ap (λ (y : Drained). y.rows) e)
