-- Rows of zeros, and rows with the same bytes.
use mathlib.Core.Path.{◌≡◌, refl, ap, sym, ◌∙◌}
use mathlib.Core.List.{List}
use mathlib.Core.Bool.{true}
use Prim.Native.Nat.{ℕ}
use native.Mathlib.Omega.{arith}
use lib.Dec.{eqb}
use lib.ListN.{length, get_or, replicate, length-replicate, get_or-replicate}
use lib.Seq.{ext_get_or}
use borrow.Author.Tests.{eq-eqb, eqb-true}
use Rattle.laws.specs.Scan.{all}
use Rattle.laws.proofs.Choice.{both-when, both_true, both_left, both_right}
use Rattle.laws.proofs.Scan.{all-is, all-at, all_same}
use Rattle.block.specs.Block.{all_zero}
use Rattle.block.proofs.Zero.{all_zero-at, all_zero-is}
use Rattle.form.specs.Test.{same}

pub zeros-zero : (n : ℕ) → all_zero (replicate n 0) ≡ true
zeros-zero n = all_zero-is (replicate n 0) (λ i h. get_or-replicate n i 0 0 (omega (arith, length-replicate {A = ℕ} n 0)))

pub zero-zeros : (l : List ℕ) (n : ℕ) → length l ≡ n → all_zero l ≡ true → l ≡ replicate n 0
zero-zeros l n h z =
    ext_get_or 0 l (replicate n 0) (h ∙ sym (length-replicate {A = ℕ} n 0)) (λ i s. all_zero-at l z i s ∙ sym (get_or-replicate n i 0 0 (omega arith)))

pub same-is : (a b : List ℕ) → same a b ≡ true → a ≡ b
unfolding same
same-is a b h =
    ext_get_or 0 a b (eqb-true (length a) (length b) (both_left _ _ h))
    (λ i s. eqb-true (get_or a i 0) (get_or b i 0) (all-at (λ k. eqb (get_or a k 0) (get_or b k 0)) (length a) (both_right _ _ h) i s))

pub same_self : (a : List ℕ) → same a a ≡ true
unfolding same
same_self a = both_true _ _ (eq-eqb (length a) (length a) refl) (all-is (λ k. eqb (get_or a k 0) (get_or a k 0)) (length a) (λ k l. eq-eqb (get_or a k 0) (get_or a k 0) refl))

-- the same as a row of zeros: all zero
pub same-zeros : (a : List ℕ) (n : ℕ) → length a ≡ n → same a (replicate n 0) ≡ all_zero a
unfolding same all_zero
same-zeros a n h =
    let l : length a ≡ length {A = ℕ} (replicate n 0) = h ∙ sym (length-replicate {A = ℕ} n 0) in
    let e : all (λ k. eqb (get_or a k 0) (get_or (replicate n 0) k 0)) (length a) ≡ all (λ k. eqb (get_or a k 0) 0) (length a) =
    all_same (λ k. eqb (get_or a k 0) (get_or (replicate n 0) k 0)) (λ k. eqb (get_or a k 0) 0) (length a) (λ k s. ap (eqb (get_or a k 0)) (get_or-replicate n k 0 0 (omega arith))) in
    both-when _ _ (eq-eqb (length a) (length {A = ℕ} (replicate n 0)) l) ∙ e
