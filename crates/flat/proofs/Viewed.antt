-- The view of rows: what their lines and memory contain, by level and block. A change of one block's content is a change of the view there alone.
use mathlib.Core.Path.{◌≡◌, sym, ap, ◌∙◌}
use mathlib.Core.Bool.{Bool, true, false}
use mathlib.Core.Logic.{◌⊎◌, inl, inr, ⊎_elim}
use Prim.Native.Nat.{ℕ, suc, ◌<◌, ◌≤◌}
use native.Mathlib.Nat.{zero-add}
use native.Mathlib.Omega.{arith}
use native.Mathlib.Decide.{ℕ_discrete}
use lib.Dec.{eqb, ltb, leb}
use borrow.Author.Tests.{lt-ltb, ltb-true, le-leb, leb-true}
use Rattle.laws.specs.Choice.{pick, both}
use Rattle.laws.specs.Bytes.{Bytes}
use Rattle.laws.proofs.Choice.{true-or-false, both_true, both-when, both_left, both_right, both-false-left}
use Rattle.geometry.specs.TagMemory.{groups, leaf_of, byte_of, map_block_of, count, base, block_on, blocks_of}
use Rattle.geometry.proofs.Places.{leaf_of-lt}
use Rattle.geometry.proofs.Levels.{base-next, block_on-lt, block_on-level, block_on-same}
use Rattle.block.specs.Block.{group_at}
use Rattle.memory.specs.True.{block_at}
use Rattle.line.specs.Find.{line_of}
use Rattle.rules.specs.State.{Rows}
use Rattle.rules.proofs.Lined.{Has, low, line_of-is, line_of-has}
use Rattle.flat.proofs.Views.{bit_on}
use Rattle.flat.proofs.Contents.{content, Good, Backed, Same}
use Rattle.flat.proofs.Rows.{Only}
use Rattle.flat.proofs.Contained.{View}
use Rattle.flat.proofs.Does.{Else, Stays, Brought}

-- block j of level e exists
unfoldable pub exists : (top n e j : ℕ) → Bool
exists top n e j = both (leb e top) (ltb j (count e n))

abbrev pub view_of : (top n l : ℕ) → Rows → View
view_of top n l r = record {
  group = λ g. pick (exists top n 0 (leaf_of g)) (group_at (content l r (block_on 0 n (leaf_of g))) (byte_of g)) 0;
  bits = λ e k. both (exists top n (suc e) (map_block_of k)) (eqb (bit_on (content l r (block_on (suc e) n (map_block_of k))) k) 1);
  lined = λ e j. both (exists top n e j) (ltb (line_of r.lines l (block_on e n j)) l);
}

-- the blocks between the leaves and the top blocks are lists of bytes, also what memory has of them: such a one is empty exactly if its bits are all 0
abbrev pub Between : (top n l : ℕ) → Rows → Type 0
Between top n l r = (b : ℕ) → n ≤ b → b < base top n → Bytes (content l r b) × Bytes (block_at r.memory b)

module _ (top n : ℕ) where
  module _ (e j : ℕ) where
    pub exists-is : e ≤ top → j < count e n → exists top n e j ≡ true
    unfolding exists
    exists-is p q = both_true _ _ (le-leb _ _ p) (lt-ltb _ _ q)

    pub exists-count : exists top n e j ≡ true → j < count e n
    unfolding exists
    exists-count t = ltb-true _ _ (both_right (leb e top) _ t)

    pub exists-low : exists top n e j ≡ true → block_on e n j < blocks_of top n
    unfolding exists
    exists-low t =
        let p : e ≤ top = leb-true _ _ (both_left (leb e top) _ t) in
        block_on-lt n e (suc top) j (omega arith) (ltb-true _ _ (both_right (leb e top) _ t))

  module _ (l : ℕ) (r : Rows) where
    pub group-is : (g : ℕ) → g < groups n → (view_of top n l r).group g ≡ group_at (content l r (leaf_of g)) (byte_of g)
    group-is g q = rw (exists-is 0 (leaf_of g) (omega arith) (leaf_of-lt n g q), zero-add (leaf_of g))

    pub bits_is : (e k : ℕ) → e < top → map_block_of k < count (suc e) n → (view_of top n l r).bits e k ≡ eqb (bit_on (content l r (block_on (suc e) n (map_block_of k))) k) 1
    bits_is e k p q = both-when _ _ (exists-is (suc e) (map_block_of k) p q)

    pub lined-is : (e j : ℕ) → e ≤ top → j < count e n → (view_of top n l r).lined e j ≡ ltb (line_of r.lines l (block_on e n j)) l
    lined-is e j p q = both-when _ _ (exists-is e j p q)

    pub lined-has : (e j : ℕ) → (view_of top n l r).lined e j ≡ true → Has r.lines (line_of r.lines l (block_on e n j)) (block_on e n j)
    lined-has e j t = line_of-has r.lines l (block_on e n j) (ltb-true _ _ (both_right (exists top n e j) _ t))

    pub has-lined : {B : ℕ} → Good B l r → (e j i : ℕ) → exists top n e j ≡ true → Has r.lines i (block_on e n j) → (view_of top n l r).lined e j ≡ true
    has-lined G e j i t h = both_true _ _ t (rw (line_of-is G.apart i (block_on e n j) h) (lt-ltb _ _ (low G.apart i (block_on e n j) h)))

module _ (top n : ℕ) {l : ℕ} {r : Rows} (r' : Rows) (G : Good (blocks_of top n) l r) where
  -- no content changes
  module _ (same : (b : ℕ) → b < blocks_of top n → content l r' b ≡ content l r b) where
    groups-stay : (g : ℕ) → (view_of top n l r').group g ≡ (view_of top n l r).group g
    groups-stay g = go (true-or-false (exists top n 0 (leaf_of g)))
      where
        go : (exists top n 0 (leaf_of g) ≡ true) ⊎ (exists top n 0 (leaf_of g) ≡ false) → (view_of top n l r').group g ≡ (view_of top n l r).group g
        go (inl t) = rw (same _ (exists-low top n 0 (leaf_of g) t))
        go (inr f) = rw f

    bits-stay : (e k : ℕ) → (view_of top n l r').bits e k ≡ (view_of top n l r).bits e k
    bits-stay e k = go (true-or-false (exists top n (suc e) (map_block_of k)))
      where
        go : (exists top n (suc e) (map_block_of k) ≡ true) ⊎ (exists top n (suc e) (map_block_of k) ≡ false) → (view_of top n l r').bits e k ≡ (view_of top n l r).bits e k
        go (inl t) = rw (same _ (exists-low top n (suc e) (map_block_of k) t))
        go (inr f) = both-false-left _ _ f ∙ sym (both-false-left _ _ f)

  backed-bytes : Backed (blocks_of top n) l r r' → Between top n l r → (b : ℕ) → n ≤ b → b < base top n → Bytes (block_at r'.memory b)
  backed-bytes f B b p q = ⊎_elim (λ z. rw z (B b p q).1) (λ z. rw z (B b p q).0) (f b (omega (arith, base-next n top)))

  pub stays_of : Same (blocks_of top n) l r r' → Stays (view_of top n l r) (view_of top n l r')
  stays_of s = record {
    groups = groups-stay s.same;
    bits = bits-stay s.same;
    lined = λ e j t. has-lined top n l r G e j _ (both_left _ _ t) (s.had _ _ (lined-has top n l r' e j t));
  }

  -- block j of level e alone may change
  module _ (e j : ℕ) (el : e ≤ top) (jl : j < count e n) (o : Only (blocks_of top n) l r r' (block_on e n j)) where
    other : (c i : ℕ) → exists top n c i ≡ true → (c ≡ e → i ≡ j → ⊥) → block_on c n i ≡ block_on e n j → ⊥
    other c i t d z =
        let p : c ≡ e = block_on-level n c e i j (exists-count top n c i t) jl z in
        d p (block_on-same n e i j (ap (λ (a : ℕ). block_on a n i) (sym p) ∙ z))

    lined-else : (c i : ℕ) → (c ≡ e → i ≡ j → ⊥) → (view_of top n l r').lined c i ≡ true → (view_of top n l r).lined c i ≡ true
    lined-else c i d t = let x = both_left _ _ t in has-lined top n l r G c i _ x (o.had _ _ (other c i x d) (lined-has top n l r' c i t))

    stays : (c i : ℕ) → exists top n c i ≡ true → (c ≡ e → i ≡ j → ⊥) → content l r' (block_on c n i) ≡ content l r (block_on c n i)
    stays c i t d = o.same _ (exists-low top n c i t) (other c i t d)

    pub else-of : Else (view_of top n l r) (view_of top n l r') e j
    else-of = record {
      groups = λ g d. group g d (true-or-false (exists top n 0 (leaf_of g)));
      bits = λ c k d. bit c k d (true-or-false (exists top n (suc c) (map_block_of k)));
      lined = lined-else;
    }
      where
        group : (g : ℕ) → (0 ≡ e → leaf_of g ≡ j → ⊥) → (exists top n 0 (leaf_of g) ≡ true) ⊎ (exists top n 0 (leaf_of g) ≡ false) → (view_of top n l r').group g ≡ (view_of top n l r).group g
        group g d (inl t) = rw (stays 0 (leaf_of g) t d)
        group g d (inr f) = rw f

        bit : (c k : ℕ) → (suc c ≡ e → map_block_of k ≡ j → ⊥) → (exists top n (suc c) (map_block_of k) ≡ true) ⊎ (exists top n (suc c) (map_block_of k) ≡ false)
            → (view_of top n l r').bits c k ≡ (view_of top n l r).bits c k
        bit c k d (inl t) = rw (stays (suc c) (map_block_of k) t d)
        bit c k d (inr f) = both-false-left _ _ f ∙ sym (both-false-left _ _ f)

    pub brought-of : content l r' (block_on e n j) ≡ content l r (block_on e n j) → Brought (view_of top n l r) (view_of top n l r') e j
    brought-of h = record { groups = groups-stay all_same; bits = bits-stay all_same; lined = lined-else }
      where
        all_same : (b : ℕ) → b < blocks_of top n → content l r' b ≡ content l r b
        all_same b q = go (ℕ_discrete b (block_on e n j))
          where
            go : Dec (b ≡ block_on e n j) → content l r' b ≡ content l r b
            go (yes z) = rw z h
            go (no z) = o.same b q z

    pub between-of : Between top n l r → (n ≤ block_on e n j → block_on e n j < base top n → Bytes (content l r' (block_on e n j))) → Between top n l r'
    between-of B y b p q = (go (ℕ_discrete b (block_on e n j)), backed-bytes o.backed B b p q)
      where
        go : Dec (b ≡ block_on e n j) → Bytes (content l r' b)
        go (yes z) = rw z (y (rw z at p) (rw z at q))
        go (no z) = rw (o.same b (omega (arith, base-next n top)) z) (B b p q).0

  pub between-same : Same (blocks_of top n) l r r' → Between top n l r → Between top n l r'
  between-same s B b p q = (rw (s.same b (omega (arith, base-next n top))) (B b p q).0, backed-bytes s.backed B b p q)
