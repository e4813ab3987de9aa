-- Each promise of this crate allows one result for one input: the answer, the output and the list are those of a definition.
use mathlib.Core.Path.{◌≡◌, ap}
use mathlib.Core.List.{List}
use Prim.Native.Nat.{ℕ}
use native.Mathlib.Omega.{arith}
use Rattle.std.specs.Prelude.{Result, Ok, Err}
use Rattle.laws.specs.declared.Refusal.{Refusal}
use Rattle.laws.specs.Refusal.{refused_with, given, refusal}
use Rattle.geometry.proofs.One.{one}
use Rattle.salvage.specs.declared.Salvaged.{Salvaged}
use Rattle.salvage.specs.Salvage.{head_tests, Answer, told, Left, left, salvaging, Numbered, numbered, as_number, listed_number}
use Rattle.laws.proofs.Told.{number-one, number-some, answer-one}

-- two answers that are told the same are one
told-one : (x y : Result Salvaged Refusal) → told x ≡ told y → x ≡ y
told-one (Ok a) (Ok b) e = (λ i. Ok (record { length = (e i).length; listed = (e i).listed }))
told-one (Ok a) (Err s) e = absurd (omega (arith, ap (λ (t : Answer). t.refusal) e, number-some s))
told-one (Err r) (Ok b) e = absurd (omega (arith, ap (λ (t : Answer). t.refusal) e, number-some r))
told-one (Err r) (Err s) e = ap Err (number-one r s (ap (λ (t : Answer). t.refusal) e))

pub salvage-one : (image output list : List ℕ) {x y : Result Salvaged Refusal} {o p l m : List ℕ}
    → left (told x) o l ≡ salvaging image output list → left (told y) p m ≡ salvaging image output list → (x ≡ y) × (o ≡ p) × (l ≡ m)
salvage-one image output list {x = x} {y = y} {o = o} {p = p} {l = l} {m = m} a b =
    let e : left (told x) o l ≡ left (told y) p m = one a b in
    (told-one x y (ap (λ (t : Left). t.answer) e), ap (λ (t : Left). t.output) e, ap (λ (t : Left). t.list) e)

pub salvage-length-one : (image output list : List ℕ) {x y : Result ℕ Refusal} {o p l m : List ℕ}
    → (numbered (given x) o l ≡ as_number (salvaging image output list)) × (refused_with x ≡ (salvaging image output list).answer.refusal)
    → (numbered (given y) p m ≡ as_number (salvaging image output list)) × (refused_with y ≡ (salvaging image output list).answer.refusal) → (x ≡ y) × (o ≡ p) × (l ≡ m)
salvage-length-one image output list {x = x} {y = y} {o = o} {p = p} {l = l} {m = m} a b =
    let e : numbered (given x) o l ≡ numbered (given y) p m = one a.0 b.0 in
    (answer-one x y (ap (λ (t : Numbered). t.number) e) (one a.1 b.1), ap (λ (t : Numbered). t.output) e, ap (λ (t : Numbered). t.list) e)

pub salvage-listed-one : (image : List ℕ) {x y : Result ℕ Refusal}
    → (given x ≡ listed_number image) × (refused_with x ≡ refusal (head_tests image)) → (given y ≡ listed_number image) × (refused_with y ≡ refusal (head_tests image)) → x ≡ y
salvage-listed-one image {x = x} {y = y} a b = answer-one x y (one a.0 b.0) (one a.1 b.1)
