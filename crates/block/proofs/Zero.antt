-- The zero test says that every byte is zero, both ways; and how a loop comes to it.
use mathlib.Core.Path.{◌≡◌, refl, ap, sym, ◌∙◌}
use mathlib.Core.Bool.{Bool, true, false}
use mathlib.Core.List.{List, [], ◌∷◌}
use mathlib.Core.Logic.{⊎_elim}
use Prim.Native.Nat.{ℕ, zero, suc, ◌<◌}
use native.Mathlib.Omega.{arith}
use lib.Bits.{bit_or, or_zero_r, or_add_and, and_le_l}
use lib.Dec.{eqb}
use lib.ListN.{length, get_or}
use borrow.Author.Tests.{eqb-true, eqb-false, eq-eqb, ne_eqb}
use Rattle.laws.specs.Choice.{both}
use Rattle.laws.specs.Scan.{all}
use Rattle.laws.proofs.Choice.{not-both-ways, true-or-false, both-false-right}
use Rattle.laws.proofs.Scan.{all-at, all-is, all-fails}
use Rattle.std.specs.List.{fold}
use Rattle.block.specs.Block.{all_zero}

both_one : (a : Bool) → both a true ≡ a
unfolding both
both_one true = refl
both_one false = refl

-- a test that does not hold at all below n fails at some number below n
pub all-some : (p : ℕ → Bool) (n : ℕ) → all p n ≡ false → (i : ℕ) × (i < n) × (p i ≡ false)
unfolding all
all-some p zero h = absurd (not-both-ways refl h)
all-some p (suc n) h = ⊎_elim
    (λ (t : p n ≡ true).
    let e : all p n ≡ false = sym (both_one (all p n)) ∙ ap (both (all p n)) (sym t) ∙ h in
    let q : (i : ℕ) × (i < n) × (p i ≡ false) = all-some p n e in
    (q.0, omega arith, q.2))
    (λ (f : p n ≡ false). (n, omega arith, f))
    (true-or-false (p n))

module _ (m : List ℕ) where
  pub all_zero-at : all_zero m ≡ true → (i : ℕ) → i < length m → get_or m i 0 ≡ 0
  unfolding all_zero
  all_zero-at h i l = eqb-true (get_or m i 0) 0 (all-at (λ (j : ℕ). eqb (get_or m j 0) 0) (length m) h i l)

  pub all_zero-is : ((i : ℕ) → i < length m → get_or m i 0 ≡ 0) → all_zero m ≡ true
  unfolding all_zero
  all_zero-is h = all-is (λ (j : ℕ). eqb (get_or m j 0) 0) (length m) (λ i l. eq-eqb (get_or m i 0) 0 (h i l))

  pub all_zero-not : (i : ℕ) → i < length m → (get_or m i 0 ≡ 0 → ⊥) → all_zero m ≡ false
  unfolding all_zero
  all_zero-not i l n = all-fails (λ (j : ℕ). eqb (get_or m j 0) 0) (length m) i l (ne_eqb (get_or m i 0) 0 n)

pub all_zero-some : (m : List ℕ) → all_zero m ≡ false → (i : ℕ) × (i < length m) × (get_or m i 0 ≡ 0 → ⊥)
unfolding all_zero
all_zero-some m h =
    let q : (i : ℕ) × (i < length m) × (eqb (get_or m i 0) 0 ≡ false) = all-some (λ (j : ℕ). eqb (get_or m j 0) 0) (length m) h in
    (q.0, q.1, eqb-false (get_or m q.0 0) 0 q.2)

both_assoc : (a b c : Bool) → both a (both b c) ≡ both (both a b) c
unfolding both
both_assoc true b c = refl
both_assoc false b c = refl

-- from the front
all-front : (p : ℕ → Bool) (n : ℕ) → all p (suc n) ≡ both (p 0) (all (λ i. p (suc i)) n)
unfolding all both
all-front p zero = sym (both_one (p 0))
all-front p (suc n) = ap (λ (b : Bool). both b (p (suc n))) (all-front p n) ∙ sym (both_assoc (p 0) (all (λ i. p (suc i)) n) (p (suc n)))

or_zero : (a x : ℕ) → eqb (bit_or a x) 0 ≡ both (eqb a 0) (eqb x 0)
unfolding both
or_zero a zero = ap (λ (n : ℕ). eqb n 0) (or_zero_r a) ∙ sym (both_one (eqb a 0))
or_zero a (suc x) =
    ne_eqb _ _ (λ (z : bit_or a (suc x) ≡ 0). absurd (omega (arith, or_add_and a (suc x), and_le_l a (suc x)))) ∙ sym (both-false-right (eqb a 0) _ (ne_eqb (suc x) 0 (λ (z : suc x ≡ 0). absurd (omega arith))))

-- the bits that are 1 in any byte are none exactly if all bytes are zero
fold_zero : (any : ℕ) (m : List ℕ) → eqb (fold bit_or any m) 0 ≡ both (eqb any 0) (all_zero m)
unfolding all both all_zero
fold_zero any [] = sym (both_one (eqb any 0))
fold_zero any (x ∷ xs) =
    fold_zero (bit_or any x) xs
    ∙ ap (λ (b : Bool). both b (all_zero xs)) (or_zero any x)
    ∙ sym (both_assoc (eqb any 0) (eqb x 0) (all_zero xs))
    ∙ ap (both (eqb any 0)) (sym (all-front (λ j. eqb (get_or (x ∷ xs) j 0) 0) (length xs)))

pub zero-folded : (m : List ℕ) → eqb (fold bit_or 0 m) 0 ≡ all_zero m
unfolding both
zero-folded m = fold_zero 0 m
