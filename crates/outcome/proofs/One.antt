-- Two results that a promise allows for one input are equal: the answers say the same, and all else is the rule's.
use mathlib.Core.Path.{◌≡◌, sym, ap, ◌∙◌}
use mathlib.Core.List.{List, []}
use Prim.Native.Nat.{ℕ}
use Rattle.geometry.specs.declared.Shape.{Shape}
use Rattle.tracker.specs.declared.Transfers.{Transfers}
use Rattle.tracker.specs.declared.Tracker.{Tracker}
use Rattle.tracker.specs.declared.Answer.{Answer}
use Rattle.tracker.proofs.One.{says-one}
use Rattle.rules.specs.State.{Rows}
use Rattle.rules.specs.Step.{Turned}
use Rattle.placing.specs.Lines.{rows}
use Rattle.outcome.specs.declared.Turned as left
use Rattle.outcome.specs.Steps.{turned, OnAnyRows}

-- what is left beside the rows, by its parts
same_left : (r s : left.Turned) → r.shape ≡ s.shape → r.tracker ≡ s.tracker → r.answer ≡ s.answer → r.transfers ≡ s.transfers → r ≡ s
same_left r s h t a m =
    ap (λ (x : Shape). parts x r.tracker r.answer r.transfers) h ∙ ap (λ (x : Tracker). parts s.shape x r.answer r.transfers) t
    ∙ ap (λ (x : Answer). parts s.shape s.tracker x r.transfers) a ∙ ap (λ (x : Transfers). parts s.shape s.tracker s.answer x) m
  where
    parts : Shape → Tracker → Answer → Transfers → left.Turned
    parts h t a m = record { shape = h; tracker = t; answer = a; transfers = m }

module _ {want : Turned} (r s : left.Turned) (ls bs m ls' bs' m' : List ℕ) (p : turned r ls bs m ≡ want) (q : turned s ls' bs' m' ≡ want) where
  alike : turned r ls bs m ≡ turned s ls' bs' m'
  alike = p ∙ sym q

  pub turned-one : r ≡ s
  turned-one = same_left r s (ap (λ (y : Turned). y.shape) alike) (ap (λ (y : Turned). y.tracker) alike) (says-one _ _ (ap (λ (y : Turned). y.said) alike)) (ap (λ (y : Turned). y.transfers) alike)

  pub rows-one : rows ls bs m ≡ rows ls' bs' m'
  rows-one = ap (λ (y : Turned). y.rows) alike

-- a promise that holds of any rows, as each function of this crate makes
pub any-rows-one : (want : Rows → Turned) (r s : left.Turned) → OnAnyRows want r → OnAnyRows want s → r ≡ s
any-rows-one want r s p q = turned-one r s [] [] [] [] [] [] (p [] [] []) (q [] [] [])
