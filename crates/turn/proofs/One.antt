-- Each promise of this crate allows one result for one input: `take`'s is an equation of all that it leaves.
use mathlib.Core.Path.{◌≡◌, sym, ◌∙◌}
use mathlib.Core.List.{List}
use Prim.Native.Nat.{ℕ}
use Rattle.geometry.specs.declared.Shape.{Shape}
use Rattle.tracker.specs.declared.Tracker.{Tracker}
use Rattle.rules.specs.State.{Rows}
use Rattle.rules.specs.Step.{Turned}
use Rattle.turn.specs.declared.Asked.{Asked}
use Rattle.turn.specs.Turn.{named, asked_turn}

pub named-one : (t : ℕ) (a : Asked) {x y : ℕ} → x ≡ named t a → y ≡ named t a → x ≡ y
named-one t a p q = p ∙ sym q

pub take-one : (shape : Shape) (a : Asked) (us : List Tracker) (u : Tracker) (r : Rows) {x y : Turned} → x ≡ asked_turn shape a us u r → y ≡ asked_turn shape a us u r → x ≡ y
take-one shape a us u r p q = p ∙ sym q

pub row_one : (ls : List ℕ) {x y : List ℕ} → x ≡ ls → y ≡ ls → x ≡ y
row_one ls p q = p ∙ sym q

pub table-one : (us : List Tracker) {x y : List Tracker} → x ≡ us → y ≡ us → x ≡ y
table-one us p q = p ∙ sym q
