-- Groups, bits and zero bytes of one block in a row of blocks, and what a write into one block leaves of the others.
use mathlib.Core.Path.{◌≡◌, refl, sym, ap, ◌∙◌}
use mathlib.Core.Bool.{true, false}
use mathlib.Core.List.{List}
use Prim.Native.Nat.{ℕ, zero, suc, ◌+◌, ◌*◌, ◌/◌, ◌%◌, ◌<◌, ◌≤◌}
use native.Mathlib.Omega.{arith}
use native.Mathlib.Decide.{ℕ_discrete}
use lib.Count.{count_trailing_zeros}
use lib.Dec.{eqb}
use borrow.Author.Tests.{eq-eqb, ne_eqb, eqb-false}
use lib.ListN.{length, get_or, set, length-set}
use lib.Seq.{ext_get_or, get_or-set_same, get_or-set_other}
use Rattle.geometry.proofs.Places.{byte_of-lt, byte_of-apart, map_byte_of-lt, map_bit_of-lt, map-one, map_block_of-child, map_byte_of-child, map_bit_of-child}
use Rattle.laws.specs.Choice.{pick, both}
use Rattle.laws.specs.Scan.{all}
use Rattle.laws.specs.Bits.{bit_of, with_bit}
use Rattle.laws.specs.Bytes.{splice, bytes, Bytes}
use Rattle.laws.proofs.Bits.{lowest-one, with_bit-lt}
use Rattle.laws.proofs.Writes.{get_d_replicate}
use Rattle.laws.proofs.Splice.{length-splice, get_d_part, splice-in}
use Rattle.laws.proofs.Put.{length_part}
use Rattle.laws.proofs.Value.{length-bytes}
use Rattle.geometry.specs.TagMemory.{leaf_of, byte_of, values, block_bits, map_block_of, map_byte_of, map_bit_of}
use Rattle.memory.specs.True.{block_at}
use Rattle.block.specs.Block.{group_at, put_group, bit_at, put_bit, all_zero}
use Rattle.block.proofs.Groups.{group_at-fits, put_group-fits, group_at-put_group-same, group_at-put_group-other}
use Rattle.block.proofs.BitsOf.{put_bit-is, bit_at_lt, bit_at-zero, bit_at-put_bit-same, bit_at-put_bit-bit, bit_at-put_bit-byte}
use Rattle.block.proofs.Zero.{all_zero-at, all_zero-is}
use Rattle.rules.proofs.Blocks.{Has64, block-length, block_fit, splice-here, splice-there}
use Rattle.rules.specs.Step.{zeros}
use Rattle.flat.specs.Flat.{Row, put}

module _ (m : List ℕ) (b : ℕ) (h : Has64 m b) where
  pub group-block : (o : ℕ) → o + 4 ≤ 64 → group_at m (64 * b + o) ≡ group_at (block_at m b) o
  group-block o q =
      let e0 : get_or (block_at m b) o 0 ≡ get_or m (64 * b + o) 0 = get_d_part m (64 * b) 64 o (omega arith) in
      let e1 : get_or (block_at m b) (o + 1) 0 ≡ get_or m (64 * b + (o + 1)) 0 = get_d_part m (64 * b) 64 (o + 1) (omega arith) in
      let e2 : get_or (block_at m b) (o + 2) 0 ≡ get_or m (64 * b + (o + 2)) 0 = get_d_part m (64 * b) 64 (o + 2) (omega arith) in
      let e3 : get_or (block_at m b) (o + 3) 0 ≡ get_or m (64 * b + (o + 3)) 0 = get_d_part m (64 * b) 64 (o + 3) (omega arith) in
      let s1 : 64 * b + o + 1 ≡ 64 * b + (o + 1) = omega arith in
      let s2 : 64 * b + o + 2 ≡ 64 * b + (o + 2) = omega arith in
      let s3 : 64 * b + o + 3 ≡ 64 * b + (o + 3) = omega arith in
      group_at-fits m (64 * b + o) (omega arith) ∙ rw (s1, s2, s3, ← e0, ← e1, ← e2, ← e3) (sym (group_at-fits (block_at m b) o (omega (arith, block-length m b h))))

  pub bit-block : (o k : ℕ) → o < 64 → bit_at m (64 * b + o) k ≡ bit_at (block_at m b) o k
  unfolding bit_at
  bit-block o k q = rw (get_d_part m (64 * b) 64 o q)

  -- a group put into this block
  module _ (o v : ℕ) (q : o + 4 ≤ 64) where
    as-block : put_group m (64 * b + o) v ≡ splice m (64 * b) (put_group (block_at m b) o v)
    as-block =
        let l4 : length (bytes 4 v) ≡ 4 = length-bytes 4 v in
        put_group-fits m (64 * b + o) v (omega arith)
        ∙ sym (splice-in m (64 * b) 64 o (bytes 4 v) h (omega arith))
        ∙ ap (splice m (64 * b)) (sym (put_group-fits (block_at m b) o v (omega (arith, block-length m b h))))

    pub group-length : length (put_group (block_at m b) o v) ≡ 64
    group-length =
        let l4 : length (bytes 4 v) ≡ 4 = length-bytes 4 v in
        ap length (put_group-fits (block_at m b) o v (omega (arith, block-length m b h)))
        ∙ length-splice (block_at m b) o (bytes 4 v) (omega (arith, block-length m b h)) ∙ block-length m b h

    pub group-here : block_at (put_group m (64 * b + o) v) b ≡ put_group (block_at m b) o v
    group-here = rw as-block (splice-here m b h (put_group (block_at m b) o v) group-length)

    pub group-there : (c : ℕ) → Has64 m c → (c ≡ b → ⊥) → block_at (put_group m (64 * b + o) v) c ≡ block_at m c
    group-there c hc n = rw as-block (splice-there m b h (put_group (block_at m b) o v) group-length c hc n)

    pub group-whole : length (put_group m (64 * b + o) v) ≡ length m
    group-whole = ap length as-block ∙ length-splice m (64 * b) (put_group (block_at m b) o v) (block_fit m b h (put_group (block_at m b) o v) group-length)

  -- a bit put into this block
  module _ (o k v : ℕ) (q : o < 64) (kl : k < 8) where
    pub bit-whole : length (put_bit m (64 * b + o) k v) ≡ length m
    bit-whole = ap length (put_bit-is m (64 * b + o) k v kl) ∙ length-set m (64 * b + o) _

    pub bit_length : length (put_bit (block_at m b) o k v) ≡ 64
    bit_length = ap length (put_bit-is (block_at m b) o k v kl) ∙ length-set (block_at m b) o _ ∙ block-length m b h

    pub bit-there : (c : ℕ) → Has64 m c → (c ≡ b → ⊥) → block_at (put_bit m (64 * b + o) k v) c ≡ block_at m c
    bit-there c hc n =
        let lc : length (block_at (put_bit m (64 * b + o) k v) c) ≡ 64 = length_part (put_bit m (64 * b + o) k v) (64 * c) 64 (omega (arith, bit-whole)) in
        ext_get_or 0 (block_at (put_bit m (64 * b + o) k v) c) (block_at m c) (lc ∙ sym (length_part m (64 * c) 64 hc))
        (λ i s. get_d_part (put_bit m (64 * b + o) k v) (64 * c) 64 i (omega arith)
        ∙ rw (put_bit-is m (64 * b + o) k v kl) (get_or-set_other m (64 * b + o) (64 * c + i) _ 0 (λ e. n (let i64 : i < 64 = omega arith in omega arith)))
        ∙ sym (get_d_part m (64 * c) 64 i (omega arith)))

    pub bit-here : block_at (put_bit m (64 * b + o) k v) b ≡ put_bit (block_at m b) o k v
    bit-here =
        let lb : length (block_at (put_bit m (64 * b + o) k v) b) ≡ 64 = length_part (put_bit m (64 * b + o) k v) (64 * b) 64 (omega (arith, bit-whole)) in
        ext_get_or 0 (block_at (put_bit m (64 * b + o) k v) b) (put_bit (block_at m b) o k v) (lb ∙ sym bit_length)
        (λ i s. get_d_part (put_bit m (64 * b + o) k v) (64 * b) 64 i (omega arith)
        ∙ rw (put_bit-is m (64 * b + o) k v kl, put_bit-is (block_at m b) o k v kl, get_d_part m (64 * b) 64 o q) (at i (omega arith) (ℕ_discrete i o)))
      where
        at : (i : ℕ) → i < 64 → Dec (i ≡ o)
            → get_or (set m (64 * b + o) (with_bit (get_or m (64 * b + o) 0) k v)) (64 * b + i) 0 ≡ get_or (set (block_at m b) o (with_bit (get_or m (64 * b + o) 0) k v)) i 0
        at i l (yes e) = rw e (get_or-set_same m (64 * b + o) _ 0 (omega arith) ∙ sym (get_or-set_same (block_at m b) o _ 0 (omega (arith, block-length m b h))))
        at i l (no e) = get_or-set_other m (64 * b + o) (64 * b + i) _ 0 (λ p. e (omega arith)) ∙ sym (get_d_part m (64 * b) 64 i l) ∙ sym (get_or-set_other (block_at m b) o i _ 0 e)

-- One block of 64 bytes as its 16 groups.
module _ (c : List ℕ) (lc : length c ≡ 64) where
  pub group-same : (g v : ℕ) → v < values → group_at (put_group c (byte_of g) v) (byte_of g) ≡ v
  group-same g v q = group_at-put_group-same c (byte_of g) v (omega (arith, byte_of-lt g)) q

  pub group-other : (g h v : ℕ) → leaf_of h ≡ leaf_of g → (h ≡ g → ⊥) → group_at (put_group c (byte_of g) v) (byte_of h) ≡ group_at c (byte_of h)
  group-other g h v e n = group_at-put_group-other c (byte_of g) v (byte_of h) (omega (arith, byte_of-lt g)) (omega (arith, byte_of-lt h)) (byte_of-apart h g e n)

  -- the groups of the leaf with v put in
  pub put-groups : (g h v : ℕ) → v < values → leaf_of h ≡ leaf_of g → group_at (put_group c (byte_of g) v) (byte_of h) ≡ put (λ i. group_at c (byte_of i)) g v h
  put-groups g h v q e = go (ℕ_discrete h g)
    where
      go : Dec (h ≡ g) → group_at (put_group c (byte_of g) v) (byte_of h) ≡ put (λ i. group_at c (byte_of i)) g v h
      go (yes p) = rw (eq-eqb h g p, p) (group-same g v q)
      go (no p) = rw (ne_eqb h g p) (group-other g h v e p)

  pub empty_group : (g : ℕ) → all_zero c ≡ true → group_at c (byte_of g) ≡ 0
  empty_group g z =
      let low = byte_of-lt g in
      let e0 = all_zero-at c z (byte_of g) (omega arith) in
      let e1 = all_zero-at c z (byte_of g + 1) (omega arith) in
      let e2 = all_zero-at c z (byte_of g + 2) (omega arith) in
      let e3 = all_zero-at c z (byte_of g + 3) (omega arith) in
      group_at-fits c (byte_of g) (omega arith) ∙ omega arith

  pub groups-empty : ((j : ℕ) → j < 16 → group_at c (4 * j) ≡ 0) → all_zero c ≡ true
  groups-empty f = all_zero-is c (λ i l. byte (i / 4) (i % 4) i (omega arith) (omega arith) (omega arith))
    where
      byte : (q r i : ℕ) → i ≡ 4 * q + r → r < 4 → q < 16 → get_or c i 0 ≡ 0
      byte q zero i e rl ql = let z = f q ql in let s = group_at-fits c (4 * q) (omega arith) in let p : i ≡ 4 * q = omega arith in rw p (omega arith)
      byte q (suc zero) i e rl ql = let z = f q ql in let s = group_at-fits c (4 * q) (omega arith) in let p : i ≡ 4 * q + 1 = omega arith in rw p (omega arith)
      byte q (suc (suc zero)) i e rl ql = let z = f q ql in let s = group_at-fits c (4 * q) (omega arith) in let p : i ≡ 4 * q + 2 = omega arith in rw p (omega arith)
      byte q (suc (suc (suc zero))) i e rl ql = let z = f q ql in let s = group_at-fits c (4 * q) (omega arith) in let p : i ≡ 4 * q + 3 = omega arith in rw p (omega arith)
      byte q (suc (suc (suc (suc r)))) i e rl ql = absurd (omega arith)

  pub put-long : (g v : ℕ) → length (put_group c (byte_of g) v) ≡ 64
  put-long g v =
      let low = byte_of-lt g in
      let l4 : length (bytes 4 v) ≡ 4 = length-bytes 4 v in
      ap length (put_group-fits c (byte_of g) v (omega arith)) ∙ length-splice c (byte_of g) (bytes 4 v) (omega arith) ∙ lc

-- One block of 64 bytes as its 512 bits: that over block k, of those whose bits the block has.
abbrev pub bit_on : List ℕ → ℕ → ℕ
bit_on c k = bit_at c (map_byte_of k) (map_bit_of k)

pub bit-0 : (c : List ℕ) (k : ℕ) → eqb (bit_on c k) 1 ≡ false → bit_on c k ≡ 0
bit-0 c k e = let z : bit_on c k < 2 = bit_at_lt c (map_byte_of k) (map_bit_of k) in let y : (bit_on c k ≡ 1 → ⊥) = eqb-false _ _ e in omega arith

module _ (c : List ℕ) (lc : length c ≡ 64) where
  pub empty-bit : (k : ℕ) → all_zero c ≡ true → bit_on c k ≡ 0
  empty-bit k z = bit_at-zero c (map_byte_of k) (map_bit_of k) (all_zero-at c z (map_byte_of k) (omega (arith, map_byte_of-lt k)))

  -- a byte that is not zero has a bit 1
  pub bits-empty : Bytes c → (j : ℕ) → ((k : ℕ) → map_block_of k ≡ j → bit_on c k ≡ 0) → all_zero c ≡ true
  unfolding Bytes bit_at
  bits-empty B j f = all_zero-is c (λ i l. byte i (omega arith) (ℕ_discrete (get_or c i 0) 0))
    where
      byte : (i : ℕ) → i < 64 → Dec (get_or c i 0 ≡ 0) → get_or c i 0 ≡ 0
      byte i l (yes e) = e
      byte i l (no e) =
          let o = lowest-one 8 (get_or c i 0) (omega arith) (B i) in
          let q = count_trailing_zeros 8 (get_or c i 0) in
          let z : bit_of (get_or c (map_byte_of (block_bits * j + (8 * i + q))) 0) (map_bit_of (block_bits * j + (8 * i + q))) ≡ 0 = f (block_bits * j + (8 * i + q)) (map_block_of-child j (8 * i + q) (let y = o.0 in omega arith)) in
          let y : bit_of (get_or c i 0) q ≡ 0 = rw (map_byte_of-child j i q l o.0, map_bit_of-child j i q o.0) at z in
          let w = o.1 in
          absurd (omega arith)

  module _ (k v : ℕ) (vl : v < 2) where
    -- the bits of the block with that over k made v
    pub put-bits : (i : ℕ) → map_block_of i ≡ map_block_of k → bit_on (put_bit c (map_byte_of k) (map_bit_of k) v) i ≡ pick (eqb i k) v (bit_on c i)
    put-bits i e = go (ℕ_discrete i k) (ℕ_discrete (map_byte_of i) (map_byte_of k))
      where
        go : Dec (i ≡ k) → Dec (map_byte_of i ≡ map_byte_of k) → bit_on (put_bit c (map_byte_of k) (map_bit_of k) v) i ≡ pick (eqb i k) v (bit_on c i)
        go (yes p) d = rw (eq-eqb i k p, p) (bit_at-put_bit-same c (map_byte_of k) (map_bit_of k) v (omega (arith, map_byte_of-lt k)) (map_bit_of-lt k) vl)
        go (no p) (yes d) = rw (ne_eqb i k p, d) (bit_at-put_bit-bit c (map_byte_of k) (map_bit_of k) v (map_bit_of i) (omega (arith, map_byte_of-lt k)) (map_bit_of-lt k) vl (λ z. p (map-one i k e d (sym z))))
        go (no p) (no d) = rw (ne_eqb i k p) (bit_at-put_bit-byte c (map_byte_of k) (map_bit_of k) v (map_byte_of i) (map_bit_of i) (map_bit_of-lt k) d)

    pub put-bytes : Bytes c → Bytes (put_bit c (map_byte_of k) (map_bit_of k) v)
    unfolding Bytes
    put-bytes B i = rw (put_bit-is c (map_byte_of k) (map_bit_of k) v (map_bit_of-lt k)) (go (ℕ_discrete i (map_byte_of k)))
      where
        go : Dec (i ≡ map_byte_of k) → get_or (set c (map_byte_of k) (with_bit (get_or c (map_byte_of k) 0) (map_bit_of k) v)) i 0 < 256
        go (yes p) = rw (p, get_or-set_same c (map_byte_of k) (with_bit (get_or c (map_byte_of k) 0) (map_bit_of k) v) 0 (omega (arith, map_byte_of-lt k))) (with_bit-lt (get_or c (map_byte_of k) 0) (map_bit_of k) 8 v (map_bit_of-lt k) vl (B (map_byte_of k)))
        go (no p) = rw (get_or-set_other c (map_byte_of k) i (with_bit (get_or c (map_byte_of k) 0) (map_bit_of k) v) 0 p) (B i)

-- 64 zero bytes
pub zeros-long : length zeros ≡ 64
zeros-long = refl

pub zeros-empty : all_zero zeros ≡ true
unfolding all_zero all both
zeros-empty = refl

pub zeros-bytes : Bytes zeros
unfolding Bytes
zeros-bytes i = rw (get_d_replicate {A = ℕ} 64 i 0) (omega arith)

-- and v put into them: every other group is 0
pub new-leaf : (row : Row) (g h v : ℕ) → v < values → leaf_of h ≡ leaf_of g → row h ≡ 0 → put row g v h ≡ group_at (put_group zeros (byte_of g) v) (byte_of h)
new-leaf row g h v q e z =
    ap (pick (eqb h g) v) (z ∙ sym (empty_group zeros zeros-long h zeros-empty)) ∙ sym (put-groups zeros zeros-long g h v q e)
