-- Laws of copies: the sums of two lists of them.
use mathlib.Core.Path.{◌≡◌, refl, ap, ◌∙◌}
use mathlib.Core.List.{List, [], ◌∷◌, ◌++◌}
use Prim.Native.Nat.{ℕ, ◌+◌}
use native.Mathlib.Omega.{arith}
use lib.ListN.{length, length-append}
use Rattle.tracker.specs.declared.Transfers.{Transfers}
use Rattle.tracker.specs.Transfers.{plus}
use Rattle.rules.specs.Copies.{Copy, fetch, back, fetches, backs, tally}

pub fetches-++ : (a b : List Copy) → fetches (a ++ b) ≡ fetches a ++ fetches b
unfolding fetches
fetches-++ [] b = refl
fetches-++ (fetch k ∷ a) b = ap (λ (z : List ℕ). k ∷ z) (fetches-++ a b)
fetches-++ (back k ∷ a) b = fetches-++ a b

pub backs-++ : (a b : List Copy) → backs (a ++ b) ≡ backs a ++ backs b
unfolding backs
backs-++ [] b = refl
backs-++ (fetch k ∷ a) b = backs-++ a b
backs-++ (back k ∷ a) b = ap (λ (z : List ℕ). k ∷ z) (backs-++ a b)

both_sums : {a b c d : ℕ} → a ≡ c → b ≡ d → ◌≡◌ {A = Transfers} (record { fetched = a; back = b }) (record { fetched = c; back = d })
both_sums p q = rw (p, q) refl

-- the sums of both are those of the first and of the second
pub tally-++ : (a b : List Copy) → tally (a ++ b) ≡ plus (tally a) (tally b)
unfolding tally
tally-++ a b =
    let p : length (fetches (a ++ b)) ≡ length (fetches a) + length (fetches b) = ap length (fetches-++ a b) ∙ length-append (fetches a) (fetches b) in
    let q : length (backs (a ++ b)) ≡ length (backs a) + length (backs b) = ap length (backs-++ a b) ∙ length-append (backs a) (backs b) in
    both_sums (omega arith) (omega arith)
