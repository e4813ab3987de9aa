-- The limits' test says 1 ≤ n ≤ the most leaves, both ways; and a top level that has leaves is 1 or 2.
use mathlib.Core.Path.{◌≡◌}
use mathlib.Core.Bool.{true, false}
use mathlib.Core.Logic.{◌⊎◌, inl, inr}
use Prim.Native.Nat.{ℕ, ◌≤◌, ◌<◌}
use native.Mathlib.Decide.{ℕ_discrete}
use native.Mathlib.Omega.{arith}
use lib.Dec.{leb}
use borrow.Author.Tests.{leb-true, le-leb, lt-leb, ne_eqb}
use Rattle.laws.proofs.Choice.{both_true, both_left, both_right, both-false-left, both-false-right}
use Rattle.geometry.specs.TagMemory.{in_limits_of, most_leaves_of}

module _ (top n : ℕ) where
  pub in_limits-least : in_limits_of top n ≡ true → 1 ≤ n
  unfolding in_limits_of
  in_limits-least h = leb-true 1 n (both_left (leb 1 n) (leb n (most_leaves_of top)) h)

  pub in_limits-most : in_limits_of top n ≡ true → n ≤ most_leaves_of top
  unfolding in_limits_of
  in_limits-most h = leb-true n (most_leaves_of top) (both_right (leb 1 n) (leb n (most_leaves_of top)) h)

  pub in_limits-is : 1 ≤ n → n ≤ most_leaves_of top → in_limits_of top n ≡ true
  unfolding in_limits_of
  in_limits-is h l = both_true (leb 1 n) (leb n (most_leaves_of top)) (le-leb 1 n h) (le-leb n (most_leaves_of top) l)

  pub in_limits-none : n < 1 → in_limits_of top n ≡ false
  unfolding in_limits_of
  in_limits-none h = both-false-left (leb 1 n) (leb n (most_leaves_of top)) (lt-leb 1 n h)

  pub in_limits-over : most_leaves_of top < n → in_limits_of top n ≡ false
  unfolding in_limits_of
  in_limits-over h = both-false-right (leb 1 n) (leb n (most_leaves_of top)) (lt-leb n (most_leaves_of top) h)

  pub in_limits-top : in_limits_of top n ≡ true → (top ≡ 1) ⊎ (top ≡ 2)
  in_limits-top h = go (ℕ_discrete top 1) (ℕ_discrete top 2)
    where
      go : Dec (top ≡ 1) → Dec (top ≡ 2) → (top ≡ 1) ⊎ (top ≡ 2)
      go (yes q) d = inl q
      go (no p) (yes q) = inr q
      go (no p) (no q) = absurd (let none : most_leaves_of top ≡ 0 = rw (ne_eqb _ _ p, ne_eqb _ _ q) in omega (arith, in_limits-least h, in_limits-most h))
