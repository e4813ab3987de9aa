-- Each promise of this crate allows one result for one input.
use mathlib.Core.Path.{◌≡◌, sym, ap, ◌∙◌}
use mathlib.Core.List.{List}
use Prim.Native.Nat.{ℕ}
use Rattle.std.specs.Prelude.{Result}
use Rattle.laws.specs.declared.Refusal.{Refusal}
use Rattle.laws.specs.Refusal.{given_done}
use Rattle.laws.proofs.Told.{done-one}
use Rattle.harness.specs.Calls.{Done, done}
use Rattle.running.specs.Run.{tag_run}

-- the answer, and what it leaves of the state's words, the bytes, the memory and the answers' words
pub run-answer-one : (w bytes memory calls answers : List ℕ) (s b m a s' b' m' a' : List ℕ) (x y : Result Unit Refusal)
    → (done (given_done x) s b m, a) ≡ tag_run w bytes memory calls answers → (done (given_done y) s' b' m', a') ≡ tag_run w bytes memory calls answers
    → (x ≡ y) × (done (given_done x) s b m ≡ done (given_done y) s' b' m') × (a ≡ a')
run-answer-one w bytes memory calls answers s b m a s' b' m' a' x y p q =
    let e : ◌≡◌ {A = Done × List ℕ} (done (given_done x) s b m, a) (done (given_done y) s' b' m', a') = p ∙ sym q in
    (done-one x y (ap (λ (d : Done × List ℕ). d.0.number) e), ap (λ (d : Done × List ℕ). d.0) e, ap (λ (d : Done × List ℕ). d.1) e)

-- for C, as a number
pub run-one : (w bytes memory calls answers : List ℕ) {x y : Done × List ℕ} → x ≡ tag_run w bytes memory calls answers → y ≡ tag_run w bytes memory calls answers → x ≡ y
run-one w bytes memory calls answers p q = p ∙ sym q
