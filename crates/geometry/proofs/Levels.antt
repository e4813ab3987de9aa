-- Levels: each level's blocks are numbered after those below, so that a number tells its level and its block; and how many there are.
use mathlib.Core.Path.{◌≡◌, refl, sym, ap, subst}
use mathlib.Core.Bool.{true}
use mathlib.Core.Logic.{◌⊎◌, inl, inr, ⊎_elim}
use Prim.Native.Nat.{ℕ, zero, suc, ◌+◌, ◌*◌, ◌≤◌, ◌<◌}
use native.Mathlib.Nat.{eq-or-lt_of_le, le_of_suc-le-suc, suc-mul}
use native.Mathlib.Numerals.{add-one}
use native.Mathlib.Omega.{arith}
use Rattle.laws.proofs.Splice.{lt-or-ge}
use Rattle.geometry.specs.TagMemory.{leaf_of, groups, map_block_of, map_blocks, index, count, base, block_on, block_over, blocks_of, most_leaves_of, in_limits_of}
use Rattle.geometry.proofs.Places.{leaf_of-lt, leaf_of-few, map_block_of-lt, map_block_of-few, map_blocks-most}
use Rattle.geometry.proofs.Limits.{in_limits-top, in_limits-most}

-- a group's block of each level
pub index-0 : (g : ℕ) → index 0 g ≡ leaf_of g
unfolding index
index-0 g = refl

pub index-next : (e g : ℕ) → index (suc e) g ≡ map_block_of (index e g)
unfolding index
index-next e g = refl

-- level by level, from the leaf's
pub index-more : (i g : ℕ) {k j : ℕ} → k ≡ index i g → j ≡ map_block_of k → j ≡ index (i + 1) g
index-more i g e m = rw (m, e, add-one) (sym (index-next i g))

-- of a group below 16n it is one of its level's blocks
pub index-lt : (e n g : ℕ) → g < groups n → index e g < count e n
unfolding index
index-lt zero n g h = leaf_of-lt n g h
index-lt (suc e) n g h = map_block_of-lt (count e n) (index e g) (index-lt e n g h)

-- groups of one block are of one block above it
pub index-above : (e c g h : ℕ) → e ≤ c → index e g ≡ index e h → index c g ≡ index c h
unfolding index
index-above e zero g h l q = let z : e ≡ 0 = omega arith in subst (λ (d : ℕ). index d g ≡ index d h) z q
index-above e (suc c) g h l q =
    ⊎_elim (λ z. subst (λ (d : ℕ). index d g ≡ index d h) z q) (λ z. ap map_block_of (index-above e c g h (le_of_suc-le-suc z) q)) (eq-or-lt_of_le l)

-- no level has more blocks than there are leaves
pub count_most : (e n : ℕ) → count e n ≤ n
count_most zero n = omega arith
count_most (suc e) n = omega (arith, map_blocks-most (count e n), count_most e n)

module _ (n : ℕ) where
  pub base-next : (e : ℕ) → base (suc e) n ≡ base e n + count e n
  base-next zero = omega arith
  base-next (suc e) = refl

  pub base-rises : (e c : ℕ) → e ≤ c → base e n ≤ base c n
  base-rises e zero l = let z : e ≡ 0 = omega arith in subst (λ (d : ℕ). base d n ≤ base 0 n) (sym z) (omega arith)
  base-rises e (suc c) l =
      ⊎_elim
      (λ z. subst (λ (d : ℕ). base d n ≤ base (suc c) n) (sym z) (omega arith))
      (λ z. let h : base e n ≤ base c n = base-rises e c (le_of_suc-le-suc z) in omega (arith, base-next c))
      (eq-or-lt_of_le l)

  -- the blocks below a level and those of it, level by level
  pub base_more : (i : ℕ) {b c : ℕ} → b ≡ base i n → c ≡ count i n → b + c ≡ base (i + 1) n
  base_more i p q = rw (p, q, add-one) (sym (base-next i))

  pub count-more : (i : ℕ) {c d : ℕ} → c ≡ count i n → d ≡ map_blocks c → d ≡ count (i + 1) n
  count-more i p q = rw (q, p, add-one) refl

  pub blocks_of-is : (top : ℕ) {b : ℕ} → b ≡ base (top + 1) n → b ≡ blocks_of top n
  blocks_of-is top e = rw add-one at e

  -- so there are not many below level e
  pub base-few : (m e : ℕ) → n ≤ m → base e n ≤ e * m
  base-few m zero h = omega arith
  base-few m (suc e) h = omega (arith, base-next e, base-few m e h, count_most e n, suc-mul e m)

  -- a block of level e has a number below those of any level above
  pub block_on-lt : (e c k : ℕ) → e < c → k < count e n → block_on e n k < base c n
  block_on-lt e c k l h = omega (arith, base-next e, base-rises (suc e) c l)

  -- a number tells its level, and in a level its block
  pub block_on-level : (e c k j : ℕ) → k < count e n → j < count c n → block_on e n k ≡ block_on c n j → e ≡ c
  block_on-level e c k j p q z =
      ⊎_elim
      (λ l. absurd (omega (arith, block_on-lt e c k l p)))
      (λ l. ⊎_elim (λ y. sym y) (λ y. absurd (omega (arith, block_on-lt c e j y q))) (eq-or-lt_of_le l))
      (lt-or-ge e c)

  pub block_on-same : (e k j : ℕ) → block_on e n k ≡ block_on e n j → k ≡ j
  block_on-same e k j z = omega arith

-- more leaves have no fewer blocks
map_blocks-≤ : (m n : ℕ) → m ≤ n → map_blocks m ≤ map_blocks n
unfolding map_blocks
map_blocks-≤ m n h = omega arith

count-≤ : (e m n : ℕ) → m ≤ n → count e m ≤ count e n
count-≤ zero m n h = h
count-≤ (suc e) m n h = map_blocks-≤ (count e m) (count e n) (count-≤ e m n h)

pub base-≤ : (e m n : ℕ) → m ≤ n → base e m ≤ base e n
base-≤ zero m n h = omega arith
base-≤ (suc e) m n h = omega (arith, base-next m e, base-next n e, base-≤ e m n h, count-≤ e m n h)

-- the most blocks: a line's word has room for 16,777,215
pub most-2 : blocks_of 1 (most_leaves_of 1) ≡ 262656
unfolding map_blocks
most-2 = refl

pub most-3 : blocks_of 2 (most_leaves_of 2) ≡ 1050628
unfolding map_blocks
most-3 = refl

pub leaves-most : (top n : ℕ) → in_limits_of top n ≡ true → n ≤ 1048576
leaves-most top n h = go top (in_limits-top top n h) (in_limits-most top n h)
  where
    go : (e : ℕ) → (e ≡ 1) ⊎ (e ≡ 2) → n ≤ most_leaves_of e → n ≤ 1048576
    go e (inl q) m = let z : n ≤ most_leaves_of 1 = rw q at m in omega arith
    go e (inr q) m = let z : n ≤ most_leaves_of 2 = rw q at m in omega arith

-- a number of 32 bits has room for the blocks over a group, of each level that a byte can name
pub index-few : (e g : ℕ) → 16 * index e g ≤ g
unfolding index
index-few zero g = leaf_of-few g
index-few (suc e) g = omega (arith, map_block_of-few (index e g), index-few e g)

pub block_over-few : (top e n g : ℕ) → in_limits_of top n ≡ true → e < 256 → g < 4294967296 → block_over e n g < 4294967296
block_over-few top e n g h l k = omega (arith, base-few n 1048576 e (leaves-most top n h), index-few e g)

pub blocks_of-most : (top n : ℕ) → in_limits_of top n ≡ true → blocks_of top n ≤ 1050628
blocks_of-most top n h = go top (in_limits-top top n h) (in_limits-most top n h)
  where
    go : (e : ℕ) → (e ≡ 1) ⊎ (e ≡ 2) → n ≤ most_leaves_of e → blocks_of e n ≤ 1050628
    go e (inl q) m = let z : n ≤ most_leaves_of 1 = rw q at m in rw q (omega (arith, base-≤ 2 n (most_leaves_of 1) z, most-2))
    go e (inr q) m = let z : n ≤ most_leaves_of 2 = rw q at m in rw q (omega (arith, base-≤ 3 n (most_leaves_of 2) z, most-3))
