-- Which leaves have a tag in the row, and that a leaf whose groups are the row's says the same by its bytes.
use mathlib.Core.Path.{◌≡◌, sym, ap, ◌∙◌}
use mathlib.Core.Bool.{true, false}
use mathlib.Core.List.{List}
use mathlib.Core.Logic.{◌⊎◌, inl, inr, ⊎_elim}
use Prim.Native.Nat.{ℕ, ◌*◌, ◌<◌}
use lib.Dec.{eqb}
use borrow.Author.Tests.{eq-eqb, eqb-true}
use lib.ListN.{length}
use Rattle.geometry.proofs.Places.{slot_of, slot_of-lt, group_on-slot_of, leaf_of-group_on, byte_of-group_on}
use Rattle.geometry.specs.TagMemory.{group_on, leaf_of, byte_of}
use Rattle.laws.specs.Choice.{no}
use Rattle.laws.proofs.Choice.{true-or-false, no_false, not-both-ways}
use Rattle.laws.proofs.Scan.{all-at, all-is, all_same}
use Rattle.block.specs.Block.{group_at, all_zero}
use Rattle.flat.specs.Flat.{Row, tagged}
use Rattle.flat.proofs.Views.{empty_group, groups-empty}

module _ (row : Row) (k : ℕ) where
  pub untagged : tagged row k ≡ false → (g : ℕ) → leaf_of g ≡ k → row g ≡ 0
  unfolding tagged
  untagged e g q =
      let z : eqb (row (group_on k (slot_of g))) 0 ≡ true = all-at (λ j. eqb (row (group_on k j)) 0) 16 (no_false _ e) (slot_of g) (slot_of-lt g) in
      let p : group_on k (slot_of g) ≡ g = rw (← q) (group_on-slot_of g) in
      ap row (sym p) ∙ eqb-true _ _ z

  pub tagged-at : (g : ℕ) → leaf_of g ≡ k → (row g ≡ 0 → ⊥) → tagged row k ≡ true
  tagged-at g q n = ⊎_elim (λ e. e) (λ e. absurd (n (untagged e g q))) (true-or-false (tagged row k))

  pub tagged-none : ((g : ℕ) → leaf_of g ≡ k → row g ≡ 0) → tagged row k ≡ false
  unfolding tagged no
  tagged-none f = rw (all-is (λ j. eqb (row (group_on k j)) 0) 16 (λ j q. eq-eqb _ _ (f (group_on k j) (leaf_of-group_on k j q))))

  pub tagged-same : (row' : Row) → ((g : ℕ) → leaf_of g ≡ k → row' g ≡ row g) → tagged row' k ≡ tagged row k
  unfolding tagged
  tagged-same row' f = ap no (all_same (λ j. eqb (row' (group_on k j)) 0) (λ j. eqb (row (group_on k j)) 0) 16 (λ j q. ap (λ (v : ℕ). eqb v 0) (f (group_on k j) (leaf_of-group_on k j q))))

  -- a leaf whose groups are the row's is tagged exactly if some byte is not zero
  pub tagged-leaf : (c : List ℕ) → length c ≡ 64 → ((g : ℕ) → leaf_of g ≡ k → row g ≡ group_at c (byte_of g)) → tagged row k ≡ no (all_zero c)
  unfolding no
  tagged-leaf c lc f = go (true-or-false (all_zero c))
    where
      go : (all_zero c ≡ true) ⊎ (all_zero c ≡ false) → tagged row k ≡ no (all_zero c)
      go (inl z) = rw z (tagged-none (λ g q. f g q ∙ empty_group c lc g z))
      go (inr z) = rw z (⊎_elim (λ e. e) (λ e. absurd (not-both-ways (groups-empty c lc (λ j q. zero-at j q e)) z)) (true-or-false (tagged row k)))
        where
          zero-at : (j : ℕ) → j < 16 → tagged row k ≡ false → group_at c (4 * j) ≡ 0
          zero-at j q e =
              ap (group_at c) (sym (byte_of-group_on k j q)) ∙ sym (f (group_on k j) (leaf_of-group_on k j q)) ∙ untagged e (group_on k j) (leaf_of-group_on k j q)
