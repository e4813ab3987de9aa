-- Each promise of this crate allows one result for one input: two that it allows are one answer and leave the same tags and bits.
use mathlib.Core.Path.{◌≡◌, ap, sym, ◌∙◌}
use Prim.Native.Nat.{ℕ, ◌<◌}
use Rattle.std.specs.Prelude.{Result, IfOk}
use Rattle.laws.specs.declared.Refusal.{Refusal}
use Rattle.laws.specs.Refusal.{given, given_done}
use Rattle.laws.proofs.Told.{given-one, done-one}
use Rattle.prediction.specs.Calls.{Lent, Done, done, fresh, read, write, synchronise}

-- what a call that has no value answers, and the lent bytes that it leaves
called-one : {d : Done} (x y : Result Unit Refusal) (s t : Lent) → done (given_done x) s ≡ d → done (given_done y) t ≡ d → (x ≡ y) × (s ≡ t)
called-one x y s t p q =
    let e : done (given_done x) s ≡ done (given_done y) t = p ∙ sym q in
    (done-one x y (ap (λ (d : Done). d.answer) e), ap (λ (d : Done). d.lent) e)

module _ (n c : ℕ) (old : Lent) where
  pub fresh-one : (x y : Result Unit Refusal) (s t : Lent) → done (given_done x) s ≡ fresh n c old → done (given_done y) t ≡ fresh n c old → (x ≡ y) × (s ≡ t)
  fresh-one = called-one

  -- a group has 32 bits
  pub read-one : (g : ℕ) (x y : Result ℕ Refusal) → IfOk x (λ v. v < 4294967296) → IfOk y (λ v. v < 4294967296) → given x ≡ read n c old g → given y ≡ read n c old g → x ≡ y
  read-one g x y a b p q = given-one x y a b (p ∙ sym q)

  pub write-one : (g v : ℕ) (x y : Result Unit Refusal) (s t : Lent) → done (given_done x) s ≡ write n c old g v → done (given_done y) t ≡ write n c old g v → (x ≡ y) × (s ≡ t)
  write-one g v = called-one

  pub synchronise-one : (r : ℕ) (x y : Result Unit Refusal) (s t : Lent) → done (given_done x) s ≡ synchronise n c old r → done (given_done y) t ≡ synchronise n c old r → (x ≡ y) × (s ≡ t)
  synchronise-one r = called-one
