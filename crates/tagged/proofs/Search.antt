-- The search for the lowest tagged group goes by leaves with a mark: between them every group reads zero.
use mathlib.Core.Path.{◌≡◌, refl, ap, sym, ◌∙◌}
use mathlib.Core.Bool.{true}
use mathlib.Core.List.{List}
use mathlib.Core.Logic.{⊎_elim}
use Prim.Native.Nat.{ℕ, ◌+◌, ◌-◌, ◌≤◌, ◌<◌}
use native.Mathlib.Omega.{arith}
use Rattle.laws.specs.Scan.{first_from}
use Rattle.laws.proofs.Scan.{first_from-≤, first_from-≥, first_from-holds, first_from-before, first_from-hit, first_from-none, first_from-skip, first_from-short, first_from-go-on}
use Rattle.laws.proofs.Splice.{lt-or-ge}
use Rattle.geometry.specs.TagMemory.{leaf_of, groups, group_place}
use Rattle.geometry.proofs.Places.{leaf_of-lt, leaf_of-ge, leaf_of-≤, groups-≤, groups-leaf_of, group-lt}
use Rattle.block.specs.Block.{group_at}
use Rattle.memory.specs.PlainReading.{marked, next_marked}
use Rattle.tagged.specs.Tagged.{is_tagged, is_marked}
use Rattle.tagged.proofs.Marked.{untagged, zero-bytes, other-bytes}

-- the leaf of a group between a leaf's first group and the next leaf's
pub leaf_of-is : (k g : ℕ) → groups k ≤ g → g < groups (k + 1) → leaf_of g ≡ k
leaf_of-is k g h l = omega (arith, leaf_of-ge k g h, leaf_of-lt (k + 1) g l)

module _ (n : ℕ) (m : List ℕ) where
  -- no mark is left: no group is
  pub none_left : (g b : ℕ) → g < b → leaf_of (b - 1) + 1 ≤ first_from (is_marked n m) (leaf_of g) (leaf_of (b - 1) + 1) → first_from (is_tagged n m) g b ≡ b
  none_left g b l e = first_from-none (is_tagged n m) g b (λ h q r.
      let u : h ≤ b - 1 = omega arith in
      let w : leaf_of h ≤ leaf_of (b - 1) = leaf_of-≤ h (b - 1) u in
      untagged n m h (first_from-before (is_marked n m) (leaf_of g) (leaf_of (b - 1) + 1) (leaf_of h) (leaf_of-≤ g h q) (omega arith)))

  -- before the first leaf with a mark no group is tagged
  pub skip-to : (g b k end upto : ℕ) → k ≡ first_from (is_marked n m) (leaf_of g) end → g ≤ upto → ((c : ℕ) → g ≤ c → groups k ≤ c → upto ≤ c)
      → first_from (is_tagged n m) upto b ≡ first_from (is_tagged n m) g b
  skip-to g b k end upto e h f = first_from-skip (is_tagged n m) g upto b h (λ c q r. ⊎_elim
      (λ (l : c < groups k). let u : leaf_of c < k = leaf_of-lt k c l in
      untagged n m c (first_from-before (is_marked n m) (leaf_of g) end (leaf_of c) (leaf_of-≤ g c q) (omega arith)))
      (λ (l : groups k ≤ c). absurd (let u : upto ≤ c = f c q l in omega arith)) (lt-or-ge c (groups k)))

  pub next-leaf : (k end : ℕ) → next_marked n m k end ≡ first_from (is_marked n m) k end
  unfolding next_marked marked is_marked
  next-leaf k end = refl

  -- among the groups of a leaf with a mark
  module _ (k g b at v : ℕ) (h : groups k ≤ g) (l : g < b) (u : b ≤ groups (k + 1)) (t : is_marked n m k ≡ true)
      (e : at ≡ group_place g) (f : v ≡ group_at m at) where
    leaf-marked : is_marked n m (leaf_of g) ≡ true
    leaf-marked = ap (is_marked n m) (leaf_of-is k g h (omega arith)) ∙ t

    its-bytes : v ≡ group_at m (group_place g)
    its-bytes = f ∙ ap (group_at m) e

    pub hit-group : (v ≡ 0 → ⊥) → first_from (is_tagged n m) g b ≡ g
    hit-group z = first_from-hit (is_tagged n m) g b l (other-bytes n m g leaf-marked (λ q. z (its-bytes ∙ q)))

    pub skip-group : v ≡ 0 → first_from (is_tagged n m) (g + 1) b ≡ first_from (is_tagged n m) g b
    skip-group z = first_from-skip (is_tagged n m) g (g + 1) b (omega arith) (λ c q r.
        let y : c ≡ g = omega arith in rw y (zero-bytes n m g leaf-marked (sym its-bytes ∙ z)))

-- a turn of the search from group g: leaf x is that of group b - 1, y that of g, k the first leaf with a mark from y to x
module _ (n : ℕ) (m : List ℕ) (g b x y : ℕ) (l : g < b) (u : b ≤ groups n) (e : x ≡ leaf_of (b - 1)) (f : y ≡ leaf_of g) where
  pub last-few : x < n
  last-few = omega (arith, leaf_of-lt n (b - 1) (omega arith))

  pub first-last : y ≤ x
  first-last = omega (arith, leaf_of-≤ g (b - 1) (omega arith))

  module _ (k : ℕ) (h : k ≡ first_from (is_marked n m) y (x + 1)) where
    from-here : k ≡ first_from (is_marked n m) (leaf_of g) (leaf_of (b - 1) + 1)
    from-here = rw (f, e) at h

    pub none_here : k ≡ x + 1 → first_from (is_tagged n m) g b ≡ b
    none_here z = none_left n m g b l (omega (arith, from-here))

    module _ (z : k ≡ x + 1 → ⊥) where
      k-below : k < x + 1
      k-below = let q : first_from (is_marked n m) y (x + 1) ≤ x + 1 = first_from-≤ (is_marked n m) y (x + 1) in omega arith

      pub k-few : k < n
      k-few = omega (arith, k-below, last-few)

      pub k-low : groups k < b
      k-low =
          let q : k ≤ leaf_of (b - 1) = omega (arith, k-below) in
          omega (arith, groups-≤ k (leaf_of (b - 1)) q, groups-leaf_of (b - 1))

      pub k-high : g < groups (k + 1)
      k-high =
          let q : y ≤ first_from (is_marked n m) y (x + 1) = first_from-≥ (is_marked n m) y (x + 1) (omega (arith, first-last)) in
          group-lt (k + 1) g (omega arith)

      pub k-marked : is_marked n m k ≡ true
      k-marked = ap (is_marked n m) h ∙ first_from-holds (is_marked n m) y (x + 1) (omega (arith, k-below))

      -- its groups from g on below b: from s below t
      module _ (p q s t : ℕ) (i : p ≡ groups k) (j : q ≡ groups (k + 1)) (a : g ≤ s) (c : (d : ℕ) → g ≤ d → p ≤ d → s ≤ d)
          (o : t ≤ b) (v : (d : ℕ) → d ≤ b → d ≤ q → d ≤ t) where
        pub further : g < t
        further = let w : g + 1 ≤ t = v (g + 1) (omega arith) (omega (arith, k-high)) in omega arith

        pub ordered : s ≤ t
        ordered = c t (omega (arith, further)) (v p (omega (arith, k-low)) (omega (arith, groups-≤ k (k + 1) (omega arith))))

        to-leaf : first_from (is_tagged n m) s b ≡ first_from (is_tagged n m) g b
        to-leaf = skip-to n m g b k (leaf_of (b - 1) + 1) s from-here a (λ d w r. c d w (omega arith))

        pub found_here : (r : ℕ) → r ≡ first_from (is_tagged n m) s t → r < t → r ≡ first_from (is_tagged n m) g b
        found_here r w d = w ∙ sym (first_from-short (is_tagged n m) s t b o (omega arith)) ∙ to-leaf

        pub goes_on : (r : ℕ) → r ≡ first_from (is_tagged n m) s t → t ≤ r → first_from (is_tagged n m) t b ≡ first_from (is_tagged n m) g b
        goes_on r w d = first_from-go-on (is_tagged n m) s t b ordered (omega arith) ∙ to-leaf
