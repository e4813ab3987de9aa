-- The true test, over levels; of two levels it means 01's sentence, both ways.
use mathlib.Core.Path.{◌≡◌, refl, ap, sym, subst, ◌∙◌}
use mathlib.Core.List.{List}
use mathlib.Core.Bool.{Bool, true, false, not}
use mathlib.Core.Logic.{⊎_elim}
use Prim.Native.Nat.{ℕ, zero, suc, ◌+◌, ◌-◌, ◌*◌, ◌/◌, ◌%◌, ◌≤◌, ◌<◌}
use native.Mathlib.Nat.{eq-or-lt_of_le, zero-add}
use native.Mathlib.Omega.{arith}
use lib.Bits.{bit_and, and_le_l, and_le_r}
use lib.Count.{count_trailing_zeros}
use lib.Dec.{eqb}
use lib.ListN.{length, get_or, get_or-eq_default}
use borrow.Author.Tests.{eq-eqb, ne_eqb, eqb-true, eqb-false, lt-ltb, le-ltb, not-true}
use Rattle.geometry.proofs.Places.{map_place-byte, map_bit_of-byte, leaf-has-bit, bit_place-after, map_block_of-child}
use Rattle.geometry.proofs.Levels.{base-next}
use Rattle.laws.specs.Choice.{both, implies}
use Rattle.laws.specs.Bits.{bit_of}
use Rattle.laws.specs.Bytes.{Bytes}
use Rattle.laws.specs.Scan.{all}
use Rattle.laws.proofs.Bits.{bit_of-0, value-bit, lowest-one, lowest-off, others-stay}
use Rattle.laws.proofs.Choice.{not-both-ways, true-or-false, no-not, both_true, both-when, both_left, both_right, both-false-left}
use Rattle.laws.proofs.Scan.{all-at, all-is, all-fails}
use Rattle.laws.proofs.Splice.{lt-or-ge, get_d_part}
use Rattle.geometry.specs.TagMemory.{block_bits, map_blocks, count, base, block_on, block_place, bit_place, map_place, map_block_of, map_bit_of}
use Rattle.block.specs.Block.{bit_at, all_zero}
use Rattle.block.proofs.BitsOf.{bit_at_lt, bit_at-not}
use Rattle.block.proofs.Zero.{all-some, all_zero-some, all_zero-not}
use Rattle.memory.specs.PlainReading.{bit_over, leaf_bit, counts}
use Rattle.memory.specs.True.{block_at, some_block, true_on, true_at, true_bit, map_word, true_word, true_block, true_level, true_from, is_true_of, is_true, SomeByte, TrueMemory}
use Rattle.memory.proofs.Parts.{part-short}
use Rattle.memory.proofs.Reading.{counts-0, counts-stale, counts-leaf}

pub leaf_bit-lt : (n : ℕ) (m : List ℕ) (k : ℕ) → leaf_bit n m k < 2
unfolding leaf_bit
leaf_bit-lt n m k = bit_at_lt m (map_place n k) (map_bit_of k)

not-true-so : (b : Bool) → (b ≡ true → ⊥) → b ≡ false
not-true-so b h = ⊎_elim (λ t. absurd (h t)) (λ f. f) (true-or-false b)

no_one : (b : ℕ) → b < 2 → (b ≡ 1 → ⊥) → b ≡ 0
no_one b l h = omega arith

-- a block that is not all zero has some byte that is not, and the other way round
some_byte : (m : List ℕ) (k : ℕ) → all_zero (block_at m k) ≡ false → SomeByte m k
some_byte m k h =
    let q : (i : ℕ) × (i < length (block_at m k)) × (get_or (block_at m k) i 0 ≡ 0 → ⊥) = all_zero-some (block_at m k) h in
    let b : q.0 < 64 = part-short m (64 * k) 64 q.0 q.1 in
    (q.0, b, λ z. q.2 (get_d_part m (64 * k) 64 q.0 b ∙ z))

not-all-zero : (m : List ℕ) (k : ℕ) → SomeByte m k → all_zero (block_at m k) ≡ false
not-all-zero m k (i, b, z) =
    let e : get_or (block_at m k) i 0 ≡ get_or m (64 * k + i) 0 = get_d_part m (64 * k) 64 i b in
    ⊎_elim
    (λ (l : i < length (block_at m k)). all_zero-not (block_at m k) i l (λ q. z (sym e ∙ q)))
    (λ (l : length (block_at m k) ≤ i). absurd (z (sym e ∙ get_or-eq_default (block_at m k) 0 l)))
    (lt-or-ge i (length (block_at m k)))

-- a block past the last is not there, another is by its bytes
module _ (b c : ℕ) (m : List ℕ) (k : ℕ) where
  some_block-past : c ≤ k → some_block b c m k ≡ false
  some_block-past l = both-false-left _ _ (le-ltb k c l)

  some_block-is : k < c → some_block b c m k ≡ not (all_zero (block_at m (b + k)))
  some_block-is l = both-when _ _ (lt-ltb k c l) ∙ sym (no-not (all_zero (block_at m (b + k))))

  -- of one bit: it is 0, or 1 over such a block
  pub true_bit-0 : (leaf_bit (b + c) m k ≡ 1 → ⊥) → true_bit b c m k ≡ true
  unfolding implies
  true_bit-0 h = rw (ne_eqb _ _ h)

  pub true_bit-past : leaf_bit (b + c) m k ≡ 1 → c ≤ k → true_bit b c m k ≡ false
  unfolding implies
  true_bit-past h l = rw (eq-eqb _ _ h) (some_block-past l)

  pub true_bit-1 : leaf_bit (b + c) m k ≡ 1 → k < c → true_bit b c m k ≡ not (all_zero (block_at m (b + k)))
  unfolding implies
  true_bit-1 h l = rw (eq-eqb _ _ h) (some_block-is l)

-- the same by whether the block counts that the bit is over
module _ (d e n : ℕ) (m : List ℕ) (k : ℕ) where
  pub true_on-0 : counts d e n m k ≡ false → true_on d e n m k ≡ true
  unfolding implies
  true_on-0 h = rw h

  true_on-past : counts d e n m k ≡ true → count e n ≤ k → true_on d e n m k ≡ false
  unfolding implies
  true_on-past h l = rw h (some_block-past (base e n) (count e n) m k l)

  pub true_on-1 : counts d e n m k ≡ true → k < count e n → true_on d e n m k ≡ not (all_zero (block_at m (block_on e n k)))
  unfolding implies
  true_on-1 h l = rw h (some_block-is (base e n) (count e n) m k l)

  -- in a block that counts, by the bit
  true_on-bit : counts d (suc e) n m (map_block_of k) ≡ true → true_on (suc d) e n m k ≡ true_bit (base e n) (count e n) m k
  unfolding both leaf_bit
  true_on-bit h = rw (h, base-next n e)

-- a memory is true exactly if each bit of each level c from e up is, r levels below the one under the top
module _ (n : ℕ) (m : List ℕ) where
  abbrev Each : (d e : ℕ) → Type 0
  Each d e = (r c : ℕ) → e ≤ c → c + suc r ≡ e + d → (k : ℕ) → k < block_bits * count (suc c) n → true_on (suc r) c n m k ≡ true

  pub true_from-at : (d e : ℕ) → true_from d e n m ≡ true → Each d e
  true_from-at zero e h r c l q = absurd (omega arith)
  true_from-at (suc d) e h r c l q = ⊎_elim
      (λ (z : e ≡ c). let y : d ≡ r = omega arith in
      subst (λ (x : ℕ). (k : ℕ) → k < block_bits * count (suc x) n → true_on (suc r) x n m k ≡ true) z
      (subst (λ (x : ℕ). (k : ℕ) → k < block_bits * count (suc e) n → true_on (suc x) e n m k ≡ true) y
      (all-at (true_on (suc d) e n m) (block_bits * count (suc e) n) (both_right (true_from d (suc e) n m) _ h))))
      (λ (z : e < c). true_from-at d (suc e) (both_left (true_from d (suc e) n m) _ h) r c z (omega arith))
      (eq-or-lt_of_le l)

  pub true_from-all : (d e : ℕ) → Each d e → true_from d e n m ≡ true
  true_from-all zero e h = refl
  true_from-all (suc d) e h = both_true _ _
      (true_from-all d (suc e) (λ r c l q. h r c (omega arith) (omega arith)))
      (all-is (true_on (suc d) e n m) (block_bits * count (suc e) n) (h d e (omega arith) (omega arith)))

module _ (n : ℕ) (m : List ℕ) where
  pub is_true-at : is_true n m ≡ true → (k : ℕ) → k < block_bits * map_blocks n → true_at n m k ≡ true
  unfolding is_true true_at
  is_true-at h k l = true_from-at n m 1 0 h 0 0 (omega arith) (omega arith) k l

  pub is_true-all : ((k : ℕ) → k < block_bits * map_blocks n → true_at n m k ≡ true) → is_true n m ≡ true
  unfolding is_true true_at both
  is_true-all h = all-is (true_on 1 0 n m) (block_bits * map_blocks n) h

  -- of one bit
  pub true_at-0 : (k : ℕ) → (leaf_bit n m k ≡ 1 → ⊥) → true_at n m k ≡ true
  unfolding true_at
  true_at-0 k h = true_on-0 1 0 n m k (counts-leaf n m k ∙ ne_eqb (leaf_bit n m k) 1 h)

  pub true_at-past : (k : ℕ) → leaf_bit n m k ≡ 1 → n ≤ k → true_at n m k ≡ false
  unfolding true_at
  true_at-past k h l = true_on-past 1 0 n m k (counts-leaf n m k ∙ eq-eqb (leaf_bit n m k) 1 h) l

  pub true_at-1 : (k : ℕ) → leaf_bit n m k ≡ 1 → k < n → true_at n m k ≡ not (all_zero (block_at m k))
  unfolding true_at
  true_at-1 k h l = true_on-1 1 0 n m k (counts-leaf n m k ∙ eq-eqb (leaf_bit n m k) 1 h) l ∙ ap (λ (b : ℕ). not (all_zero (block_at m b))) (zero-add k)

  -- the test comes out true: the statement holds
  pub true-means : is_true n m ≡ true → TrueMemory n m
  true-means h = record {
    over = λ k l b. some_byte m k (not-true (all_zero (block_at m k)) (sym (true_at-1 k b l) ∙ is_true-at h k (leaf-has-bit n k l)));
    past = λ k l q. no_one (leaf_bit n m k) (leaf_bit-lt n m k) (λ b. not-both-ways (is_true-at h k q) (true_at-past k b l));
  }

  -- the statement holds: the test comes out true
  pub means-true : TrueMemory n m → is_true n m ≡ true
  means-true t = is_true-all (λ k q. ⊎_elim
      (λ (l : k < n). ⊎_elim
      (λ (b : eqb (leaf_bit n m k) 1 ≡ true). let o : leaf_bit n m k ≡ 1 = eqb-true (leaf_bit n m k) 1 b in
      true_at-1 k o l ∙ ap not (not-all-zero m k (t.over k l o)))
      (λ (b : eqb (leaf_bit n m k) 1 ≡ false). true_at-0 k (eqb-false (leaf_bit n m k) 1 b))
      (true-or-false (eqb (leaf_bit n m k) 1)))
      (λ (l : n ≤ k). true_at-0 k (λ b. let z : leaf_bit n m k ≡ 0 = t.past k l q in omega arith))
      (lt-or-ge k n))

  -- a word of the map at a time: its bits are those of 32 leaves
  pub word-bit : Bytes m → (i x : ℕ) → x < 32 → bit_of (map_word n m i) x ≡ leaf_bit n m (32 * i + x)
  unfolding map_word leaf_bit bit_at
  word-bit B i x h =
      let e : 32 * i + x ≡ 8 * (4 * i + x / 8) + x % 8 = omega arith in
      let l : x % 8 < 8 = omega arith in
      let p : block_place n + 4 * i + x / 8 ≡ block_place n + (4 * i + x / 8) = omega arith in
      rw e (rw (map_place-byte n (4 * i + x / 8) (x % 8) l, map_bit_of-byte (4 * i + x / 8) (x % 8) l, ← p) (value-bit m B (block_place n + 4 * i) 4 x (omega arith)))

-- bits in parts: those from a on are good, w of them, or one is not
module _ (p : ℕ → Bool) (a w : ℕ) where
  all_more : all p a ≡ true → all (λ x. p (a + x)) w ≡ true → all p (a + w) ≡ true
  all_more h l = all-is p (a + w) (λ k q. ⊎_elim
      (λ (z : k < a). all-at p a h k z)
      (λ (z : a ≤ k). let e : k ≡ a + (k - a) = omega arith in rw e (all-at (λ (x : ℕ). p (a + x)) w l (k - a) (omega arith)))
      (lt-or-ge k a))

  all-part : (i : ℕ) → a + w ≤ i → all (λ x. p (a + x)) w ≡ false → all p i ≡ false
  all-part i l h =
      let q : (x : ℕ) × (x < w) × (p (a + x) ≡ false) = all-some (λ (x : ℕ). p (a + x)) w h in
      all-fails p i (a + q.0) (omega (arith, q.1)) q.2

-- the bits over level e, D levels below the top, in block j above it, which is one level nearer
module _ (D d e c n : ℕ) (m : List ℕ) (j : ℕ) (p : D ≡ suc d) (q : c ≡ suc e) where
  -- a block that does not count is passed over
  pub block-stale : counts d c n m j ≡ false → true_block D e n m j ≡ true
  unfolding true_block
  block-stale h = rw p (all-is (λ (x : ℕ). true_on (suc d) e n m (block_bits * j + x)) block_bits (λ x l.
      let f : counts d (suc e) n m (map_block_of (block_bits * j + x)) ≡ false = rw (map_block_of-child j x l, ← q) h in
      true_on-0 (suc d) e n m (block_bits * j + x) (counts-stale d e n m (block_bits * j + x) f)))

  -- in another, a word at a time
  module _ (h : counts d c n m j ≡ true) (b s : ℕ) (u : b ≡ base e n) (v : s ≡ count e n) where
    in-word : (i x : ℕ) → i < 16 → x < 32 → true_on D e n m (block_bits * j + (32 * i + x)) ≡ true_bit b s m (32 * (16 * j + i) + x)
    in-word i x l r =
        let z : block_bits * j + (32 * i + x) ≡ 32 * (16 * j + i) + x = omega arith in
        let f : counts d (suc e) n m (map_block_of (block_bits * j + (32 * i + x))) ≡ true = rw (map_block_of-child j (32 * i + x) (omega arith), ← q) h in
        rw (p, u, v) (true_on-bit d e n m (block_bits * j + (32 * i + x)) f ∙ ap (true_bit (base e n) (count e n) m) z)

    pub words_more : (i : ℕ) → i < 16 → all (λ x. true_on D e n m (block_bits * j + x)) (32 * i) ≡ true → true_word b s m (16 * j + i) ≡ true
        → all (λ x. true_on D e n m (block_bits * j + x)) (32 * (i + 1)) ≡ true
    unfolding true_word
    words_more i l t w =
        let z : 32 * (i + 1) ≡ 32 * i + 32 = omega arith in
        rw z (all_more (λ (x : ℕ). true_on D e n m (block_bits * j + x)) (32 * i) 32 t
        (all-is (λ (x : ℕ). true_on D e n m (block_bits * j + (32 * i + x))) 32 (λ x r. in-word i x l r ∙ all-at (λ (y : ℕ). true_bit b s m (32 * (16 * j + i) + y)) 32 w x r)))

    pub words-fail : (i : ℕ) → i < 16 → true_word b s m (16 * j + i) ≡ false → true_block D e n m j ≡ false
    unfolding true_word true_block
    words-fail i l w =
        let f : (x : ℕ) × (x < 32) × (true_bit b s m (32 * (16 * j + i) + x) ≡ false) = all-some (λ (y : ℕ). true_bit b s m (32 * (16 * j + i) + y)) 32 w in
        all-fails (λ (x : ℕ). true_on D e n m (block_bits * j + x)) block_bits (32 * i + f.0) (omega (arith, f.1)) (in-word i f.0 l f.1 ∙ f.2)

-- the bits over level e, a block above it at a time
module _ (d e n : ℕ) (m : List ℕ) where
  pub words-all : (j i : ℕ) → i ≡ 16 → all (λ x. true_on d e n m (block_bits * j + x)) (32 * i) ≡ true → true_block d e n m j ≡ true
  unfolding true_block
  words-all j i z t = let y : 32 * i ≡ block_bits = omega arith in rw y at t

  pub blocks_more : (j : ℕ) → all (true_on d e n m) (block_bits * j) ≡ true → true_block d e n m j ≡ true → all (true_on d e n m) (block_bits * (j + 1)) ≡ true
  unfolding true_block
  blocks_more j t b = let z : block_bits * (j + 1) ≡ block_bits * j + block_bits = omega arith in rw z (all_more (true_on d e n m) (block_bits * j) block_bits t b)

  pub blocks-fail : (j : ℕ) → j < count (suc e) n → true_block d e n m j ≡ false → true_level d e n m ≡ false
  unfolding true_block
  blocks-fail j l b = all-part (true_on d e n m) (block_bits * j) block_bits (block_bits * count (suc e) n) (omega arith) b

  pub blocks-all : (j : ℕ) → j ≡ count (suc e) n → all (true_on d e n m) (block_bits * j) ≡ true → true_level d e n m ≡ true
  blocks-all j z t = rw z at t

-- without a byte over level e there is no bit 1
pub level-none : (D d e n : ℕ) (m : List ℕ) → D ≡ suc d → length m ≤ block_place (base e n + count e n) → true_level D e n m ≡ true
level-none D d e n m p h = rw p (all-is (true_on (suc d) e n m) (block_bits * count (suc e) n) (λ k l.
    true_on-0 (suc d) e n m k (counts-0 d e n m k (λ b.
    let z : bit_over e n m k ≡ 0 = bit_at-not m (bit_place e n k) (map_bit_of k) (omega (arith, base-next n e, bit_place-after e n k)) in
    omega arith))))

-- the levels, from the leaves' on
module _ (top n : ℕ) (m : List ℕ) where
  abbrev pub LevelsTo : ℕ → Type 0
  LevelsTo e = (c : ℕ) → c < e → true_level (top - c) c n m ≡ true

  pub levels-more : (e : ℕ) → LevelsTo e → true_level (top - e) e n m ≡ true → LevelsTo (e + 1)
  levels-more e h t c l = ⊎_elim
      (λ (z : c ≡ e). subst (λ (x : ℕ). true_level (top - x) x n m ≡ true) (sym z) t)
      (λ (z : c < e). h c z)
      (eq-or-lt_of_le (omega arith))

  pub levels-all : (e : ℕ) → e ≡ top → LevelsTo e → is_true_of top n m ≡ true
  levels-all e z h = true_from-all n m top 0 (λ r c l q k b.
      let y : top - c ≡ suc r = omega arith in
      subst (λ (x : ℕ). true_on x c n m k ≡ true) y (all-at (true_on (top - c) c n m) (block_bits * count (suc c) n) (h c (omega arith)) k b))

  pub levels-fail : (e : ℕ) → e < top → true_level (top - e) e n m ≡ false → is_true_of top n m ≡ false
  levels-fail e l h = not-true-so (is_true_of top n m) (λ t.
      let y : suc (top - suc e) ≡ top - e = omega arith in
      not-both-ways
      (all-is (true_on (top - e) e n m) (block_bits * count (suc e) n)
      (subst (λ (x : ℕ). (k : ℕ) → k < block_bits * count (suc e) n → true_on x e n m k ≡ true) y (true_from-at n m top 0 t (top - suc e) e (omega arith) (omega arith))))
      h)

-- in word i the bits of `bits` are left to look at: the others are good
pub record Left (b c : ℕ) (m : List ℕ) (i bits : ℕ) : Type 0 where
  pub small : bits < 4294967296
  pub good : (x : ℕ) → x < 32 → bit_of bits x ≡ 0 → true_bit b c m (32 * i + x) ≡ true
  pub marked : (x : ℕ) → x < 32 → bit_of bits x ≡ 1 → leaf_bit (b + c) m (32 * i + x) ≡ 1

pub left-all : (b c : ℕ) (m : List ℕ) (i bits : ℕ) → Bytes m → bits ≡ map_word (b + c) m i → bits < 4294967296 → Left b c m i bits
left-all b c m i bits B e l =
    record {
      small = l;
      good = λ x h z. true_bit-0 b c m (32 * i + x) (λ o. absurd (omega (arith, word-bit (b + c) m B i x h, ap (λ (y : ℕ). bit_of y x) e)));
      marked = λ x h o. sym (word-bit (b + c) m B i x h) ∙ ap (λ (y : ℕ). bit_of y x) (sym e) ∙ o;
    }

pub left-none : (b c : ℕ) (m : List ℕ) (i bits : ℕ) → Left b c m i bits → bits ≡ 0 → true_word b c m i ≡ true
unfolding true_word
left-none b c m i bits L e = all-is (λ (y : ℕ). true_bit b c m (32 * i + y)) 32 (λ x h. L.good x h (rw e (bit_of-0 x)))

-- the lowest one of them
module _ (b c : ℕ) (m : List ℕ) (i bits k : ℕ) (L : Left b c m i bits) (some : bits ≡ 0 → ⊥) (e : k ≡ 32 * i + count_trailing_zeros 32 bits) where
  positive : 0 < bits
  positive = ⊎_elim (λ (z : bits < 1). absurd (some (omega arith))) (λ (z : 1 ≤ bits). omega arith) (lt-or-ge bits 1)

  pub some-bit : (count_trailing_zeros 32 bits < 32) × (bit_of bits (count_trailing_zeros 32 bits) ≡ 1)
  some-bit = lowest-one 32 bits positive L.small

  pub left-bit : leaf_bit (b + c) m k ≡ 1
  left-bit = rw e (L.marked (count_trailing_zeros 32 bits) some-bit.0 some-bit.1)

  pub left-fails : true_bit b c m k ≡ false → true_word b c m i ≡ false
  unfolding true_word
  left-fails h = all-fails (λ (y : ℕ). true_bit b c m (32 * i + y)) 32 (count_trailing_zeros 32 bits) some-bit.0 (ap (true_bit b c m) (sym e) ∙ h)

  pub left-fewer : true_bit b c m k ≡ true → Left b c m i (bit_and bits (bits - 1))
  left-fewer h =
      record {
        small = omega (arith, L.small, and_le_l bits (bits - 1));
        good = λ x l z. ⊎_elim
            (λ (q : eqb x (count_trailing_zeros 32 bits) ≡ true). let f : x ≡ count_trailing_zeros 32 bits = eqb-true x (count_trailing_zeros 32 bits) q in rw f (ap (true_bit b c m) (sym e) ∙ h))
            (λ (q : eqb x (count_trailing_zeros 32 bits) ≡ false). L.good x l (sym (others-stay 32 bits x positive L.small (eqb-false x (count_trailing_zeros 32 bits) q)) ∙ z))
            (true-or-false (eqb x (count_trailing_zeros 32 bits)));
        marked = λ x l o. ⊎_elim
            (λ (q : eqb x (count_trailing_zeros 32 bits) ≡ true).
            let f : x ≡ count_trailing_zeros 32 bits = eqb-true x (count_trailing_zeros 32 bits) q in
            let g : bit_of (bit_and bits (bits - 1)) x ≡ 0 = rw f (lowest-off 32 bits positive L.small) in
            absurd (omega arith))
            (λ (q : eqb x (count_trailing_zeros 32 bits) ≡ false). L.marked x l (sym (others-stay 32 bits x positive L.small (eqb-false x (count_trailing_zeros 32 bits) q)) ∙ o))
            (true-or-false (eqb x (count_trailing_zeros 32 bits)));
      }

  pub fewer : bit_and bits (bits - 1) < bits
  fewer = omega (arith, positive, and_le_r bits (bits - 1))
