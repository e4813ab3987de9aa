-- Laws of the groups in the tags: a put makes one group and leaves every other; and whether any group of a run is not zero, by its bytes.
use mathlib.Core.Path.{◌≡◌, sym, ap, ◌∙◌}
use mathlib.Core.Bool.{true, false, not}
use mathlib.Core.List.{List}
use mathlib.Core.Logic.{inl, inr, ⊎_elim}
use Prim.Native.Nat.{ℕ, zero, suc, ◌+◌, ◌-◌, ◌*◌, ◌/◌, ◌%◌, ◌≤◌, ◌<◌, min}
use native.Mathlib.Omega.{arith}
use lib.Dec.{eqb}
use lib.ListN.{length, take, drop, get_or, replicate}
use borrow.Author.Tests.{eqb-true, eqb-false, eq-eqb, not-true, not-false}
use Rattle.laws.specs.Choice.{implies}
use Rattle.laws.specs.Bytes.{part, bytes}
use Rattle.laws.specs.Scan.{all}
use Rattle.laws.proofs.Choice.{implies_true, implied, not-implied, same_truth}
use Rattle.laws.proofs.Splice.{lt-or-ge, get_d_part}
use Rattle.laws.proofs.Put.{length_part, length-put_w}
use Rattle.laws.proofs.Value.{length-bytes}
use Rattle.laws.proofs.Scan.{all-at, all-is}
use Rattle.laws.proofs.Writes.{get_d_replicate}
use Rattle.geometry.specs.TagMemory.{groups, block_place, group_place}
use Rattle.geometry.proofs.Places.{group-inside}
use Rattle.geometry.proofs.Groups.{group_place-is, block_place-groups}
use Rattle.block.specs.Block.{group_at, put_group, all_zero}
use Rattle.block.proofs.Groups.{group_at-not, group_at-fits, group_at-put_group-same, group_at-put_group-other}
use Rattle.block.proofs.Zero.{all_zero-at, all_zero-is, all-some}
use Rattle.prediction.specs.Runs.{run_of, group_in, any_in}
use Rattle.prediction.proofs.RunsOf.{run_of-from, run_of-to, run_of-is}

pub length-put_group : (tags : List ℕ) (a v : ℕ) → length (put_group tags a v) ≡ length tags
length-put_group tags a v = length-put_w 4 tags a (bytes 4 v) (length-bytes 4 v)

pub group_at-zeros : (k a : ℕ) → group_at (replicate k 0) a ≡ 0
group_at-zeros k a = ⊎_elim (λ h. group_at-not (replicate k 0) a h)
    (λ h. omega (arith, group_at-fits (replicate k 0) a h, get_d_replicate {A = ℕ} k a 0, get_d_replicate {A = ℕ} k (a + 1) 0, get_d_replicate {A = ℕ} k (a + 2) 0, get_d_replicate {A = ℕ} k (a + 3) 0))
    (lt-or-ge (length (replicate k 0)) (a + 4))

module _ (n : ℕ) (tags : List ℕ) (l : length tags ≡ block_place n) where
  -- a group's four bytes are there
  pub group-there : (g : ℕ) → g < groups n → group_place g + 4 ≤ length tags
  group-there g h = let i = group-inside n g h in omega arith

  pub group_in-put-same : (g v : ℕ) → g < groups n → v < 4294967296 → group_in (put_group tags (group_place g) v) g ≡ v
  group_in-put-same g v h m = group_at-put_group-same tags (group_place g) v (group-there g h) m

  pub group_in-put-other : (g v k : ℕ) → g < groups n → k < groups n → (k ≡ g → ⊥) → group_in (put_group tags (group_place g) v) k ≡ group_in tags k
  group_in-put-other g v k h m d =
      group_at-put_group-other tags (group_place g) v (group_place k) (group-there g h) (group-there k m)
      (⊎_elim (λ q. inl (apart k g q)) (λ q. inr (apart g k (next q))) (lt-or-ge k g))
    where
      apart : (i j : ℕ) → i < j → group_place i + 4 ≤ group_place j
      apart i j q = let a = group_place-is i in let b = group_place-is j in omega arith

      next : g ≤ k → g < k
      next q = ⊎_elim (λ (e : g < k). e) (λ (e : k ≤ g). absurd (d (omega arith))) (lt-or-ge g k)

-- a group is zero exactly if its four bytes are
module _ (m : List ℕ) (a : ℕ) (h : a + 4 ≤ length m) where
  zero-group : ((j : ℕ) → j < 4 → get_or m (a + j) 0 ≡ 0) → group_at m a ≡ 0
  zero-group z =
      let e : a + 0 ≡ a = omega arith in
      let z0 : get_or m a 0 ≡ 0 = rw e at (z 0 (omega arith)) in
      omega (arith, group_at-fits m a h, z 1 (omega arith), z 2 (omega arith), z 3 (omega arith))

  zero-bytes : group_at m a ≡ 0 → (j : ℕ) → j < 4 → get_or m (a + j) 0 ≡ 0
  zero-bytes z zero l = let e : a + 0 ≡ a = omega arith in rw e (omega (arith, group_at-fits m a h))
  zero-bytes z (suc zero) l = omega (arith, group_at-fits m a h)
  zero-bytes z (suc (suc zero)) l = omega (arith, group_at-fits m a h)
  zero-bytes z (suc (suc (suc zero))) l = omega (arith, group_at-fits m a h)
  zero-bytes z (suc (suc (suc (suc j)))) l = absurd (omega arith)

-- Run r, from group a = r c on up to group e: c groups, or those that are left.
module _ (n c r a e : ℕ) (tags : List ℕ) (p : 0 < c) (l : length tags ≡ block_place n) (from : a ≡ r * c) (starts : a < groups n) (end : e ≡ min (a + c) (groups n)) where
  run_fits : 4 * a + 4 * (e - a) ≤ length tags
  run_fits = let b = block_place-groups n in omega arith

  -- the groups are zero: so is each byte
  zero_of : all (λ (g : ℕ). implies (eqb (run_of c g) r) (eqb (group_in tags g) 0)) (groups n) ≡ true → (i : ℕ) → i < 4 * (e - a) → get_or tags (4 * a + i) 0 ≡ 0
  zero_of h i q =
      let g = a + i / 4 in
      let b : g < groups n = omega arith in
      let o : r * c ≤ g = omega arith in
      let t : g < r * c + c = omega arith in
      let z : group_in tags g ≡ 0 = eqb-true _ _ (implies_true _ _ (all-at (λ (g : ℕ). implies (eqb (run_of c g) r) (eqb (group_in tags g) 0)) (groups n) h g b)
      (eq-eqb (run_of c g) r (run_of-is c g r p o t))) in
      let w : 4 * a + i ≡ group_place g + i % 4 = omega (arith, group_place-is g) in
      rw w (zero-bytes tags (group_place g) (group-there n tags l g b) z (i % 4) (omega arith))

  -- the bytes are zero: so is each group
  zero_in : all_zero (part tags (4 * a) (4 * (e - a))) ≡ true → (g : ℕ) → g < groups n → run_of c g ≡ r → group_in tags g ≡ 0
  zero_in h g b q =
      let o : r * c ≤ g = run_of-from c g r p q in
      let t : g < r * c + c = run_of-to c g r p q in
      let u : g < e = omega arith in
      zero-group tags (group_place g) (group-there n tags l g b)
      (λ j s. let f : group_place g + j ≡ 4 * a + (4 * (g - a) + j) = omega (arith, group_place-is g) in
      let v : 4 * (g - a) + j < 4 * (e - a) = omega arith in
      let w : 4 * (g - a) + j < length (part tags (4 * a) (4 * (e - a))) = omega (arith, length_part tags (4 * a) (4 * (e - a)) run_fits) in
      rw f (sym (get_d_part tags (4 * a) (4 * (e - a)) (4 * (g - a) + j) v) ∙ all_zero-at (part tags (4 * a) (4 * (e - a))) h (4 * (g - a) + j) w))

  any_in-part : not (all_zero (part tags (4 * a) (4 * (e - a)))) ≡ any_in n c tags r
  unfolding any_in
  any_in-part = ap not (same_truth _ _
      (λ h. all-is (λ (g : ℕ). implies (eqb (run_of c g) r) (eqb (group_in tags g) 0)) (groups n)
      (λ g b. implied (eqb (run_of c g) r) (eqb (group_in tags g) 0) (λ q. eq-eqb _ _ (zero_in h g b (eqb-true _ _ q)))))
      (λ h. all_zero-is (part tags (4 * a) (4 * (e - a)))
      (λ i q. let s : i < 4 * (e - a) = omega (arith, length_part tags (4 * a) (4 * (e - a)) run_fits) in
      get_d_part tags (4 * a) (4 * (e - a)) i s ∙ zero_of h i s)))

  -- as code cuts it out
  pub any_in-cut : (at to : ℕ) → at ≡ group_place a → to ≡ group_place e → not (all_zero (take (to - at) (drop at tags))) ≡ any_in n c tags r
  unfolding part
  any_in-cut at to x y =
      let f : at ≡ 4 * a = x ∙ group_place-is a in
      let w : to - at ≡ 4 * (e - a) = omega (arith, y, group_place-is e) in
      rw (w, f) any_in-part

-- what it says: a group of the run that is not zero, and none if it says no
module _ (n c : ℕ) (tags : List ℕ) (r : ℕ) where
  pub any_in-none : any_in n c tags r ≡ false → (g : ℕ) → g < groups n → run_of c g ≡ r → group_in tags g ≡ 0
  unfolding any_in
  any_in-none h g b e =
      let t : all (λ (g : ℕ). implies (eqb (run_of c g) r) (eqb (group_in tags g) 0)) (groups n) ≡ true = not-false _ h in
      eqb-true _ _ (implies_true _ _ (all-at (λ (g : ℕ). implies (eqb (run_of c g) r) (eqb (group_in tags g) 0)) (groups n) t g b) (eq-eqb (run_of c g) r e))

  pub any_in-some : any_in n c tags r ≡ true → (g : ℕ) × (g < groups n) × (run_of c g ≡ r) × (group_in tags g ≡ 0 → ⊥)
  unfolding any_in
  any_in-some h =
      let q = all-some (λ (g : ℕ). implies (eqb (run_of c g) r) (eqb (group_in tags g) 0)) (groups n) (not-true _ h) in
      let f = not-implied _ _ q.2 in
      (q.0, q.1, eqb-true _ _ f.0, eqb-false _ _ f.1)
