-- What a chain over a row or a range says, as the scans of laws say it.
use mathlib.Core.Path.{◌≡◌, refl, sym, ap, ◌∙◌}
use mathlib.Core.Bool.{Bool, true, false, ◌&&◌, ◌||◌}
use mathlib.Core.List.{List, [], ◌∷◌}
use mathlib.Core.Logic.{⊎_elim}
use Prim.Native.Nat.{ℕ, zero, suc, ◌+◌}
use native.Mathlib.Omega.{arith}
use lib.Dec.{leb}
use lib.ListN.{length, get_or, take, drop}
use borrow.Author.Tests.{le-leb, lt-leb}
use Rattle.std.specs.List.{list_all, list_any, range_with_len}
use Rattle.laws.specs.Choice.{both, implies, no}
use Rattle.laws.specs.Scan.{all, some}
use Rattle.laws.proofs.Scan.{all_same, all-is}
use Rattle.laws.proofs.Splice.{lt-or-ge}

both_and : (a b : Bool) → (a && b) ≡ both a b
unfolding both
both_and true b = refl
both_and false b = refl

both_round : (a b c : Bool) → both (both a b) c ≡ both a (both b c)
unfolding both
both_round true b c = refl
both_round false b c = refl

no_or : (a b : Bool) → (a || b) ≡ no (both (no a) (no b))
unfolding both no
no_or true b = refl
no_or false true = refl
no_or false false = refl

no_twice : (a : Bool) → no (no a) ≡ a
unfolding no
no_twice true = refl
no_twice false = refl

-- the first by itself
all-front : (p : ℕ → Bool) (n : ℕ) → all p (suc n) ≡ both (p 0) (all (λ i. p (suc i)) n)
unfolding all both
all-front p zero = and_true (p 0)
  where
    and_true : (b : Bool) → both true b ≡ both b true
    and_true true = refl
    and_true false = refl
all-front p (suc n) = ap (λ (b : Bool). both b (p (suc n))) (all-front p n) ∙ both_round (p 0) (all (λ i. p (suc i)) n) (p (suc n))

module _ (p : ℕ → Bool) where
  all_along : (a n : ℕ) → list_all p (range_with_len a n) ≡ all (λ i. p (a + i)) n
  unfolding all
  all_along a zero = refl
  all_along a (suc n) =
      both_and _ _ ∙ ap (both (p a)) (all_along (a + 1) n ∙ all_same _ _ n (λ k l. ap p (omega arith)))
      ∙ ap (λ (j : ℕ). both (p j) (all (λ i. p (a + suc i)) n)) (omega arith) ∙ sym (all-front (λ i. p (a + i)) n)

  some_along : (a n : ℕ) → list_any p (range_with_len a n) ≡ some (λ i. p (a + i)) n
  unfolding some all no
  some_along a zero = refl
  some_along a (suc n) =
      no_or _ _ ∙ ap (λ (b : Bool). no (both (no (p a)) (no b))) (some_along (a + 1) n)
      ∙ ap (λ (b : Bool). no (both (no (p a)) b)) (no_twice _ ∙ all_same _ _ n (λ k l. ap (λ (j : ℕ). no (p j)) (omega arith)))
      ∙ ap (λ (j : ℕ). no (both (no (p j)) (all (λ i. no (p (a + suc i))) n))) (omega arith) ∙ ap no (sym (all-front (λ i. no (p (a + i))) n))

  -- over 0..n
  pub all-range : (n : ℕ) → list_all p (range_with_len 0 n) ≡ all p n
  all-range n = all_along 0 n ∙ all_same _ p n (λ k l. ap p (omega arith))

  pub some-range : (n : ℕ) → list_any p (range_with_len 0 n) ≡ some p n
  unfolding some
  some-range n = some_along 0 n ∙ ap no (all_same _ _ n (λ k l. ap (λ (j : ℕ). no (p j)) (omega arith)))

module _ {A : Type 0} (p : A → Bool) (d : A) where
  -- the first t, where those past the end pass
  pub all-taken : p d ≡ true → (t : ℕ) (xs : List A) → list_all p (take t xs) ≡ all (λ i. p (get_or xs i d)) t
  unfolding all
  all-taken e zero xs = refl
  all-taken e (suc t) [] = sym (all-is (λ i. p d) (suc t) (λ k l. e))
  all-taken e (suc t) (x ∷ xs) = both_and _ _ ∙ ap (both (p x)) (all-taken e t xs) ∙ sym (all-front (λ i. p (get_or (x ∷ xs) i d)) t)

  all_whole : (xs : List A) → list_all p xs ≡ all (λ i. p (get_or xs i d)) (length xs)
  unfolding all
  all_whole [] = refl
  all_whole (x ∷ xs) = both_and _ _ ∙ ap (both (p x)) (all_whole xs) ∙ sym (all-front (λ i. p (get_or (x ∷ xs) i d)) (length xs))

  -- those from l on
  pub all-dropped : (l : ℕ) (xs : List A) → list_all p (drop l xs) ≡ all (λ i. implies (leb l i) (p (get_or xs i d))) (length xs)
  unfolding all implies both
  all-dropped zero xs = all_whole xs ∙ all_same _ _ (length xs) (λ k l. rw (le-leb 0 k (omega arith)) refl)
  all-dropped (suc l) [] = refl
  all-dropped (suc l) (x ∷ xs) =
      all-dropped l xs ∙ all_same _ _ (length xs) (λ k h. ap (λ (b : Bool). implies b (p (get_or xs k d))) (up l k))
      ∙ rw (lt-leb (suc l) 0 (omega arith)) refl ∙ sym (all-front (λ i. implies (leb (suc l) i) (p (get_or (x ∷ xs) i d))) (length xs))
    where
      up : (l k : ℕ) → leb l k ≡ leb (suc l) (suc k)
      up l k = ⊎_elim (λ h. lt-leb l k h ∙ sym (lt-leb (suc l) (suc k) (omega arith))) (λ h. le-leb l k h ∙ sym (le-leb (suc l) (suc k) (omega arith))) (lt-or-ge k l)
