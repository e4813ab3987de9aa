-- Laws of tests: what a test that came out true or false says of its parts.
use mathlib.Core.Path.{◌≡◌, refl, sym}
use mathlib.Core.Bool.{Bool, true, false, not}
use mathlib.Core.Logic.{◌⊎◌, inl, inr, ⊎_elim}
use Prim.Native.Nat.{ℕ}
use native.Mathlib.Omega.{arith}
use Rattle.laws.specs.Choice.{pick, both, either, implies, no}

pub not-both-ways : {b : Bool} → b ≡ true → b ≡ false → ⊥
not-both-ways {b} p q = let z : ◌≡◌ {A = ℕ} 0 1 = cc in omega arith

pub true-or-false : (b : Bool) → (b ≡ true) ⊎ (b ≡ false)
true-or-false true = inl refl
true-or-false false = inr refl

pub never_true : {b : Bool} → (b ≡ true → ⊥) → b ≡ false
never_true {b} n = ⊎_elim (λ t. absurd (n t)) (λ f. f) (true-or-false b)

-- what holds of both holds of the one that is picked
pub pick-by : {A : Type 0} (P : A → Type 0) (b : Bool) {p q : A} → (b ≡ true → P p) → (b ≡ false → P q) → P (pick b p q)
pick-by P true h k = h refl
pick-by P false h k = k refl

module _ (a b : Bool) where
  pub both_true : a ≡ true → b ≡ true → both a b ≡ true
  unfolding both
  both_true p q = rw (p, q)

  pub both-when : a ≡ true → both a b ≡ b
  unfolding both
  both-when p = rw p

  pub both-false-left : a ≡ false → both a b ≡ false
  unfolding both
  both-false-left p = rw p

pub both-false-right : (a b : Bool) → b ≡ false → both a b ≡ false
unfolding both
both-false-right true b q = q
both-false-right false b q = refl

pub both_left : (a b : Bool) → both a b ≡ true → a ≡ true
unfolding both
both_left true b h = refl
both_left false b h = h

pub both_right : (a b : Bool) → both a b ≡ true → b ≡ true
unfolding both
both_right true b h = h
both_right false b h = absurd (not-both-ways h refl)

pub either_left : (a b : Bool) → a ≡ true → either a b ≡ true
unfolding either
either_left a b e = rw e

pub either-right : (a b : Bool) → b ≡ true → either a b ≡ true
unfolding either
either-right true b e = refl
either-right false b e = e

pub either_true : (a b : Bool) → either a b ≡ true → (a ≡ true) ⊎ (b ≡ true)
unfolding either
either_true true b h = inl h
either_true false b h = inr h

pub no_true : (b : Bool) → no b ≡ true → b ≡ false
unfolding no
no_true true h = sym h
no_true false h = refl

pub no_false : (b : Bool) → no b ≡ false → b ≡ true
unfolding no
no_false true h = refl
no_false false h = sym h

pub no-of-true : {b : Bool} → b ≡ true → no b ≡ false
unfolding no
no-of-true e = rw e

pub no-of-false : {b : Bool} → b ≡ false → no b ≡ true
unfolding no
no-of-false e = rw e

pub implies_true : (a b : Bool) → implies a b ≡ true → a ≡ true → b ≡ true
unfolding implies
implies_true true b h p = h
implies_true false b h p = absurd (not-both-ways p refl)

pub implied : (a b : Bool) → (a ≡ true → b ≡ true) → implies a b ≡ true
unfolding implies
implied true b h = h refl
implied false b h = refl

pub no-not : (b : Bool) → not b ≡ no b
unfolding no
no-not true = refl
no-not false = refl

pub not-implied : (a b : Bool) → implies a b ≡ false → (a ≡ true) × (b ≡ false)
unfolding implies
not-implied true b h = (refl, h)
not-implied false b h = absurd (not-both-ways refl h)

-- two tests that hold together are one
pub same_truth : (a b : Bool) → (a ≡ true → b ≡ true) → (b ≡ true → a ≡ true) → a ≡ b
same_truth true b f g = sym (f refl)
same_truth false true f g = g refl
same_truth false false f g = refl
