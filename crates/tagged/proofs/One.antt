-- Each promise of this crate allows one result for one input: the answer equals a definition, and no two answers are one number or one record.
use mathlib.Core.Path.{◌≡◌, refl, sym, ap}
use mathlib.Core.Bool.{true, false}
use mathlib.Core.List.{List}
use Prim.Native.Nat.{ℕ, ◌<◌}
use native.Mathlib.Omega.{arith}
use Rattle.std.specs.Prelude.{Option, Some, None, IfSome, Result, Ok, Err, IfOk}
use Rattle.laws.specs.declared.Refusal.{Refusal}
use Rattle.laws.specs.Refusal.{number, given}
use Rattle.laws.proofs.Told.{number-one, number-some, number-most, given-one}
use Rattle.geometry.proofs.One.{one}
use Rattle.tagged.specs.declared.Tagged.{Tagged}
use Rattle.tagged.specs.Tagged.{Told, told, refused, found_or_not, group_given, between, between_as_true, group_number, leaves_number}

found-one : (o p : Option ℕ) (k l : ℕ) → found_or_not o k ≡ found_or_not p l → (o ≡ p) × (k ≡ l)
found-one None None k l e = (refl, ap (λ (t : Told). t.leaves) e)
found-one (Some g) (Some h) k l e = (ap (λ (t : Told). Some t.group) e, ap (λ (t : Told). t.leaves) e)
found-one None (Some h) k l e = let q : ◌≡◌ false true = ap (λ (t : Told). t.found) e in cc
found-one (Some g) None k l e = let q : ◌≡◌ true false = ap (λ (t : Told). t.found) e in cc

answered : (o : Option ℕ) (k : ℕ) (p : ℕ) → 0 < p → found_or_not o k ≡ refused p → ⊥
answered None k p h e = let q : 0 ≡ p = ap (λ (t : Told). t.refusal) e in omega arith
answered (Some g) k p h e = let q : 0 ≡ p = ap (λ (t : Told). t.refusal) e in omega arith

same : {o p : Option ℕ} {k l : ℕ} → o ≡ p → k ≡ l → ◌≡◌ {A = Result Tagged Refusal} (Ok (record { group = o; leaves = k })) (Ok (record { group = p; leaves = l }))
same e f = rw (e, f)

told-one : (r s : Result Tagged Refusal) → told r ≡ told s → r ≡ s
told-one (Ok t) (Ok u) e = let h = found-one t.group u.group t.leaves u.leaves e in same h.0 h.1
told-one (Ok t) (Err q) e = absurd (answered t.group t.leaves (number q) (number-some q) e)
told-one (Err p) (Ok u) e = absurd (answered u.group u.leaves (number p) (number-some p) (sym e))
told-one (Err p) (Err q) e = ap Err (number-one p q (ap (λ (t : Told). t.refusal) e))

-- a group has 32 bits
abbrev Small : Result (Option ℕ) Refusal → Type 0
Small r = IfOk r (λ o. IfSome o (λ g. g < 4294967296))

group_given-one : (r s : Result (Option ℕ) Refusal) → Small r → Small s → group_given r ≡ group_given s → r ≡ s
group_given-one (Ok None) (Ok None) f h e = refl
group_given-one (Ok (Some a)) (Ok (Some b)) f h e = ap (λ (x : ℕ). Ok (Some x)) e
group_given-one (Ok None) (Ok (Some b)) f h e = absurd (omega arith)
group_given-one (Ok (Some a)) (Ok None) f h e = absurd (omega arith)
group_given-one (Ok None) (Err q) f h e = absurd (omega (arith, number-most q))
group_given-one (Err p) (Ok None) f h e = absurd (omega (arith, number-most p))
group_given-one (Ok (Some a)) (Err q) f h e = absurd (omega arith)
group_given-one (Err p) (Ok (Some b)) f h e = absurd (omega arith)
group_given-one (Err p) (Err q) f h e = ap Err (number-one p q (omega arith))

module _ (n : ℕ) (m : List ℕ) (a b : ℕ) where
  pub between-one : (r s : Result Tagged Refusal) → told r ≡ between n m a b → told s ≡ between n m a b → r ≡ s
  between-one r s p q = told-one r s (one p q)

  pub first-tagged-answer-one : (r s : Result (Option ℕ) Refusal) → Small r → Small s → group_given r ≡ group_number (between n m a b)
      → group_given s ≡ group_number (between n m a b) → r ≡ s
  first-tagged-answer-one r s f h p q = group_given-one r s f h (one p q)

  pub tagged-leaves-answer-one : (r s : Result ℕ Refusal) → IfOk r (λ k. k < 4294967296) → IfOk s (λ k. k < 4294967296)
      → given r ≡ leaves_number (between n m a b) → given s ≡ leaves_number (between n m a b) → r ≡ s
  tagged-leaves-answer-one r s f h p q = given-one r s f h (one p q)

  pub first-tagged-as-true-answer-one : (r s : Result (Option ℕ) Refusal) → Small r → Small s → group_given r ≡ group_number (between_as_true n m a b)
      → group_given s ≡ group_number (between_as_true n m a b) → r ≡ s
  first-tagged-as-true-answer-one r s f h p q = group_given-one r s f h (one p q)

  pub tagged-leaves-as-true-answer-one : (r s : Result ℕ Refusal) → IfOk r (λ k. k < 4294967296) → IfOk s (λ k. k < 4294967296)
      → given r ≡ leaves_number (between_as_true n m a b) → given s ≡ leaves_number (between_as_true n m a b) → r ≡ s
  tagged-leaves-as-true-answer-one r s f h p q = given-one r s f h (one p q)

  -- for C, as one number
  pub group-given-one : (t : Result (Option ℕ) Refusal) {r s : ℕ} → r ≡ group_given t → s ≡ group_given t → r ≡ s
  group-given-one t = one

  pub first-tagged-one : {r s : ℕ} → r ≡ group_number (between n m a b) → s ≡ group_number (between n m a b) → r ≡ s
  first-tagged-one = one

  pub tagged-leaves-one : {r s : ℕ} → r ≡ leaves_number (between n m a b) → s ≡ leaves_number (between n m a b) → r ≡ s
  tagged-leaves-one = one

  pub first-tagged-as-true-one : {r s : ℕ} → r ≡ group_number (between_as_true n m a b) → s ≡ group_number (between_as_true n m a b) → r ≡ s
  first-tagged-as-true-one = one

  pub tagged-leaves-as-true-one : {r s : ℕ} → r ≡ leaves_number (between_as_true n m a b) → s ≡ leaves_number (between_as_true n m a b) → r ≡ s
  tagged-leaves-as-true-one = one
