-- Clearing: every bit of the top blocks reads 0 after it and every block below them is as it was, so no block below the top counts and every group reads 0.
use mathlib.Core.Path.{◌≡◌, ap, sym, subst, ◌∙◌}
use mathlib.Core.List.{List, append-nil}
use mathlib.Core.Bool.{true, false}
use mathlib.Core.Logic.{⊎_elim}
use Prim.Native.Nat.{ℕ, zero, suc, ◌+◌, ◌-◌, ◌*◌, ◌≤◌, ◌<◌}
use native.Mathlib.Omega.{arith}
use borrow.Rule.Slice.PartMut.{put_mid}
use lib.ListN.{length, take, drop, get_or, replicate, length-append, length-take, length-replicate, get_or-replicate, get_or-append, get_or-eq_default}
use lib.Seq.{take_all, get_or-take, get_or-append-add, length-take-le, ext_get_or}
use Rattle.geometry.specs.TagMemory.{groups, tag_of, in_limits, length_of, memory_length, base, block_place, bit_place, map_block_of, map_bit_of, leaf_of}
use Rattle.laws.proofs.Splice.{lt-or-ge, get_d_part}
use Rattle.geometry.proofs.Tags.{tag_of-0}
use Rattle.geometry.proofs.Places.{bit_place-after}
use Rattle.block.proofs.BitsOf.{bit_at-zero}
use Rattle.memory.specs.PlainReading.{bit_over, leaf_bit, counts, plain_group_of, plain_group, plain_reading}
use Rattle.memory.specs.True.{block_at, is_true_of, is_true, cleared_of, cleared_map}
use Rattle.memory.proofs.Parts.{zeros-is, length-of-part, part-short}
use Rattle.memory.proofs.Reading.{counts-0, counts-stale, plain_group_of-0, accepted}
use Rattle.memory.proofs.Truth.{true_from-all, true_on-0}

-- the top blocks come after those of a memory of one level less
pub top-place-is : (top n : ℕ) {a : ℕ} → 0 < top → a ≡ length_of (top - 1) n → a ≡ block_place (base top n)
top-place-is top n h e = let z : suc (top - 1) ≡ top = omega arith in e ∙ ap (λ (x : ℕ). block_place (base x n)) z

module _ (top n : ℕ) (m : List ℕ) where
  -- no byte of a top block is there
  pub cleared_of-none : length m ≤ block_place (base top n) → cleared_of top n m ≡ m
  cleared_of-none h =
      let e : length m - 64 * base top n ≡ 0 = omega arith in
      rw (e, take_all (64 * base top n) m h) (append-nil m)

  -- the tail `&mut m[a..]` comes back as zeros
  pub cleared_of-is : (a : ℕ) {y : List ℕ} → a ≡ block_place (base top n) → a ≤ length m → y ≡ replicate (length (take (length m - a) (drop a m))) 0
      → put_mid a (length m - a) m y ≡ cleared_of top n m
  cleared_of-is a e h q = ap (put_mid a (length m - a) m) q ∙ zeros-is m a h ∙ rw e

  pub length-cleared_of : length (cleared_of top n m) ≡ length m
  length-cleared_of = simp (length-append, length-take, length-replicate) (omega arith)

  -- "zeroes only top blocks": they are the last
  pub cleared_of-top : (i : ℕ) → block_place (base top n) ≤ i → get_or (cleared_of top n m) i 0 ≡ 0
  cleared_of-top i h = ⊎_elim
      (λ (l : i < length m).
      let e : length (take (64 * base top n) m) ≡ 64 * base top n = length-take-le (64 * base top n) m (omega arith) in
      let f : i ≡ length (take (64 * base top n) m) + (i - 64 * base top n) = omega arith in
      rw f (get_or-append-add (take (64 * base top n) m) (replicate (length m - 64 * base top n) 0) (i - 64 * base top n) 0
      ∙ get_or-replicate (length m - 64 * base top n) (i - 64 * base top n) 0 0 (omega arith)))
      (λ (l : length m ≤ i). get_or-eq_default (cleared_of top n m) 0 (omega (arith, length-cleared_of)))
      (lt-or-ge i (length m))

  pub cleared_of-below : (i : ℕ) → i < block_place (base top n) → get_or (cleared_of top n m) i 0 ≡ get_or m i 0
  cleared_of-below i h = ⊎_elim
      (λ (l : i < length m).
      let e : i < length (take (64 * base top n) m) = simp length-take (omega arith) in
      get_or-append (take (64 * base top n) m) (replicate (length m - 64 * base top n) 0) 0 i e ∙ get_or-take (64 * base top n) m i 0 h)
      (λ (l : length m ≤ i). get_or-eq_default (cleared_of top n m) 0 (omega (arith, length-cleared_of)) ∙ sym (get_or-eq_default m 0 l))
      (lt-or-ge i (length m))

  -- each block below the top as it was
  pub cleared_of-block : (b : ℕ) → b < base top n → block_at (cleared_of top n m) b ≡ block_at m b
  cleared_of-block b h =
      ext_get_or 0 (block_at (cleared_of top n m) b) (block_at m b) (length-of-part (cleared_of top n m) m (64 * b) 64 length-cleared_of)
      (λ i l. let q : i < 64 = part-short (cleared_of top n m) (64 * b) 64 i l in
      get_d_part (cleared_of top n m) (64 * b) 64 i q ∙ cleared_of-below (64 * b + i) (omega arith) ∙ sym (get_d_part m (64 * b) 64 i q))

module _ (t n : ℕ) (m : List ℕ) where
  -- every bit of the top blocks reads 0
  pub cleared_of-bit : (k : ℕ) → bit_over t n (cleared_of (suc t) n m) k ≡ 0
  cleared_of-bit k = bit_at-zero (cleared_of (suc t) n m) (bit_place t n k) (map_bit_of k) (cleared_of-top (suc t) n m (bit_place t n k) (bit_place-after t n k))

  -- so no block below the top counts
  pub cleared_of-counts : (d e k : ℕ) → e + suc d ≡ suc t → counts (suc d) e n (cleared_of (suc t) n m) k ≡ false
  cleared_of-counts zero e k q =
      let z : t ≡ e = omega arith in
      counts-0 0 e n (cleared_of (suc t) n m) k (λ b. absurd (omega (arith, subst (λ (c : ℕ). bit_over c n (cleared_of (suc t) n m) k ≡ 0) z (cleared_of-bit k), b)))
  cleared_of-counts (suc d) e k q = counts-stale (suc d) e n (cleared_of (suc t) n m) k (cleared_of-counts d (suc e) (map_block_of k) (omega arith))

  -- a cleared memory is true
  pub cleared_of-true : is_true_of (suc t) n (cleared_of (suc t) n m) ≡ true
  cleared_of-true = true_from-all n (cleared_of (suc t) n m) (suc t) 0 (λ r c l q k h. true_on-0 (suc r) c n (cleared_of (suc t) n m) k (cleared_of-counts r c k (omega arith)))

  -- and every group reads 0
  pub cleared_of-group : (g : ℕ) → plain_group_of (suc t) n (cleared_of (suc t) n m) g ≡ 0
  cleared_of-group g = plain_group_of-0 (suc t) n (cleared_of (suc t) n m) g (cleared_of-counts t 0 (leaf_of g) (omega arith))

-- of two levels: the map
module _ (n : ℕ) (m : List ℕ) where
  pub length-cleared_map : length (cleared_map n m) ≡ length m
  unfolding cleared_map
  length-cleared_map = length-cleared_of 1 n m

  -- "sets every map byte to 0"
  pub cleared_map-map : (i : ℕ) → block_place n ≤ i → get_or (cleared_map n m) i 0 ≡ 0
  unfolding cleared_map
  cleared_map-map i h = cleared_of-top 1 n m i h

  -- "and touches nothing else"
  pub cleared_map-leaves : (i : ℕ) → i < block_place n → get_or (cleared_map n m) i 0 ≡ get_or m i 0
  unfolding cleared_map
  cleared_map-leaves i h = cleared_of-below 1 n m i h

  -- each leaf as it was
  pub cleared_map-leaf : (k : ℕ) → k < n → block_at (cleared_map n m) k ≡ block_at m k
  unfolding cleared_map
  cleared_map-leaf k h = cleared_of-block 1 n m k h

  -- every bit of the map reads 0
  pub cleared_map-bit : (k : ℕ) → leaf_bit n (cleared_map n m) k ≡ 0
  unfolding cleared_map leaf_bit
  cleared_map-bit k = cleared_of-bit 0 n m k

  pub cleared_map-true : is_true n (cleared_map n m) ≡ true
  unfolding cleared_map is_true
  cleared_map-true = cleared_of-true 0 n m

  pub cleared_map-group : (g : ℕ) → plain_group n (cleared_map n m) g ≡ 0
  unfolding cleared_map plain_group
  cleared_map-group g = cleared_of-group 0 n m g

  pub cleared_map-reading : (g : ℕ) → in_limits n ≡ true → length m ≡ memory_length n → g < groups n → plain_reading n (cleared_map n m) g ≡ 0
  cleared_map-reading g h l q = accepted n (cleared_map n m) g h (length-cleared_map ∙ l) q ∙ cleared_map-group g

  -- tag by tag
  pub cleared_map-tag : (g j : ℕ) → tag_of (plain_group n (cleared_map n m) g) j ≡ 0
  cleared_map-tag g j = rw (cleared_map-group g) (tag_of-0 j)
