-- A leaf's mark is a bit of a map byte, so the ones of the map's bytes count marked leaves; a group of a leaf without mark reads zero.
use mathlib.Core.Path.{◌≡◌, ap, sym, ◌∙◌}
use mathlib.Core.Bool.{Bool, true, false}
use mathlib.Core.List.{List}
use Prim.Native.Nat.{ℕ, ◌+◌, ◌-◌, ◌*◌, ◌/◌, ◌%◌, ◌^◌, ◌≤◌, ◌<◌}
use native.Mathlib.Omega.{arith}
use lib.Count.{ones}
use lib.ListN.{length, get_or}
use borrow.Author.Tests.{eq-eqb, ne_eqb, eqb-true, eqb-false}
use Rattle.laws.specs.Choice.{no}
use Rattle.laws.specs.Scan.{count_from}
use Rattle.laws.proofs.Bits.{is_set, ones-between}
use Rattle.laws.proofs.Scan.{count_from-most, count_from-add, count_from-same, count_from-shift}
use Rattle.geometry.specs.TagMemory.{leaf_of, memory_length, block_place, group_place, map_place}
use Rattle.geometry.proofs.Places.{map_place-byte, map_bit_of-byte, bit-inside, leaf-has-bit}
use Rattle.block.specs.Block.{bit_at, group_at}
use Rattle.memory.specs.PlainReading.{leaf_bit, plain_group}
use Rattle.memory.proofs.Reading.{plain_group-0, plain_group-1}
use Rattle.tagged.specs.Tagged.{is_tagged, is_marked}

module _ (n : ℕ) (m : List ℕ) where
  -- the map's byte j
  abbrev byte : ℕ → ℕ
  byte j = get_or m (block_place n + j) 0

  marked-bit : (j i : ℕ) → i < 8 → is_marked n m (8 * j + i) ≡ is_set (byte j) i
  unfolding is_marked leaf_bit bit_at
  marked-bit j i h = rw (map_place-byte n j i h, map_bit_of-byte j i h)

  -- its ones, masked at both ends
  pub byte-count : (j s t : ℕ) → byte j < 256 → s ≤ t → t ≤ 8
      → ones (byte j / 2 ^ s % 2 ^ (t - s)) ≡ count_from (is_marked n m) (8 * j + s) (8 * j + t)
  byte-count j s t h l u =
      ones-between (byte j) s t h l u
      ∙ count_from-same (is_set (byte j)) (λ (i : ℕ). is_marked n m (8 * j + i)) s t (λ k g q. sym (marked-bit j k (omega arith)))
      ∙ sym (count_from-shift (is_marked n m) (8 * j) s t)

  -- as code reads them
  pub byte-ones : (j s t at r : ℕ) → at ≡ block_place n + j → get_or m at 0 < 256 → s ≤ t → t ≤ 8 → r ≡ get_or m at 0 / 2 ^ s % 2 ^ (t - s)
      → ones r ≡ count_from (is_marked n m) (8 * j + s) (8 * j + t)
  byte-ones j s t at r e h l u f = ap ones f ∙ rw e (byte-count j s t (rw e at h) l u)

  -- a whole byte more
  pub bytes-more : (j i x r : ℕ) → j ≤ i → x ≡ count_from (is_marked n m) (8 * j) (8 * i) → r ≡ count_from (is_marked n m) (8 * i + 0) (8 * i + 8)
      → x + r ≡ count_from (is_marked n m) (8 * j) (8 * (i + 1))
  bytes-more j i x r h p q =
      let e : 8 * i + 0 ≡ 8 * i = omega arith in
      let f : 8 * i + 8 ≡ 8 * (i + 1) = omega arith in
      let y : r ≡ count_from (is_marked n m) (8 * i) (8 * (i + 1)) = rw (e, f) at q in
      omega (arith, count_from-add (is_marked n m) (8 * j) (8 * i) (8 * (i + 1)) (omega arith) (omega arith))

  pub bytes_most : (j i x r : ℕ) → j ≤ i → x ≡ count_from (is_marked n m) (8 * j) (8 * i) → r ≡ count_from (is_marked n m) (8 * i + 0) (8 * i + 8)
      → x + r ≤ 8 * (i + 1)
  bytes_most j i x r h p q = omega (arith, bytes-more j i x r h p q, count_from-most (is_marked n m) (8 * j) (8 * (i + 1)) (omega arith))

  -- from leaf k to leaf l, in one byte
  pub one_byte : (k l j s t r : ℕ) → 8 * j + s ≡ k → 8 * j + t ≡ l + 1 → r ≡ count_from (is_marked n m) (8 * j + s) (8 * j + t)
      → r ≡ count_from (is_marked n m) k (l + 1)
  one_byte k l j s t r e f q = rw (e, f) at q

  -- and in more: the first byte from bit s on, whole bytes, the last byte below bit t
  module _ (k l j i s t x y z : ℕ) (e : 8 * j + s ≡ k) (f : 8 * i + t ≡ l + 1) (h : j < i) (u : s ≤ 8)
      (p : x ≡ count_from (is_marked n m) (8 * j + s) (8 * j + 8)) (q : y ≡ count_from (is_marked n m) (8 * (j + 1)) (8 * i))
      (r : z ≡ count_from (is_marked n m) (8 * i + 0) (8 * i + t)) where
    pub more_bytes : x + y + z ≡ count_from (is_marked n m) k (l + 1)
    more_bytes =
        let a : 8 * j + 8 ≡ 8 * (j + 1) = omega arith in
        let b : 8 * i + 0 ≡ 8 * i = omega arith in
        let v : x ≡ count_from (is_marked n m) k (8 * (j + 1)) = rw (e, a) at p in
        let w : z ≡ count_from (is_marked n m) (8 * i) (l + 1) = rw (b, f) at r in
        omega (arith, count_from-add (is_marked n m) k (8 * (j + 1)) (8 * i) (omega arith) (omega arith), count_from-add (is_marked n m) k (8 * i) (l + 1) (omega arith) (omega arith))

    pub more-most : x + y + z ≤ l + 1
    more-most = omega (arith, more_bytes, count_from-most (is_marked n m) k (l + 1) (omega arith))

  -- a byte with the bit of a leaf below n lies in memory
  pub byte_inside : (j : ℕ) → 8 * j < n → length m ≡ memory_length n → block_place n + j < length m
  byte_inside j h l =
      let e : map_place n (8 * j + 0) ≡ block_place n + j = map_place-byte n j 0 (omega arith) in
      omega (arith, bit-inside n (8 * j + 0) (leaf-has-bit n (8 * j + 0) (omega arith)))

  pub marked-is : (k : ℕ) → leaf_bit n m k ≡ 1 → is_marked n m k ≡ true
  unfolding is_marked
  marked-is k h = eq-eqb (leaf_bit n m k) 1 h

  pub marked-not : (k : ℕ) → (leaf_bit n m k ≡ 1 → ⊥) → is_marked n m k ≡ false
  unfolding is_marked
  marked-not k h = ne_eqb (leaf_bit n m k) 1 h

  -- a group of a leaf without mark reads zero
  pub untagged : (g : ℕ) → is_marked n m (leaf_of g) ≡ false → is_tagged n m g ≡ false
  unfolding is_marked is_tagged no
  untagged g h = rw (plain_group-0 n m g (eqb-false (leaf_bit n m (leaf_of g)) 1 h))

  -- one of a leaf with a mark reads as its bytes are
  pub zero-bytes : (g : ℕ) → is_marked n m (leaf_of g) ≡ true → group_at m (group_place g) ≡ 0 → is_tagged n m g ≡ false
  unfolding is_marked is_tagged no
  zero-bytes g h z = rw (plain_group-1 n m g (eqb-true (leaf_bit n m (leaf_of g)) 1 h), z)

  pub other-bytes : (g : ℕ) → is_marked n m (leaf_of g) ≡ true → (group_at m (group_place g) ≡ 0 → ⊥) → is_tagged n m g ≡ true
  unfolding is_marked is_tagged no
  other-bytes g h z = rw (plain_group-1 n m g (eqb-true (leaf_bit n m (leaf_of g)) 1 h), ne_eqb (group_at m (group_place g)) 0 z)

  -- "a set tag": some tag of the group is not zero exactly if the group is not
  pub tagged-not : (g : ℕ) → is_tagged n m g ≡ true → plain_group n m g ≡ 0 → ⊥
  unfolding is_tagged no
  tagged-not g h z = let q : ◌≡◌ {A = Bool} false true = rw z at h in let y : ◌≡◌ {A = ℕ} 0 1 = cc in omega arith

  pub tagged_is : (g : ℕ) → (plain_group n m g ≡ 0 → ⊥) → is_tagged n m g ≡ true
  unfolding is_tagged no
  tagged_is g h = rw (ne_eqb (plain_group n m g) 0 h)
