-- The records of a true memory are good; the memory made of good records has n's length, is true, and its records are those.
use mathlib.Core.Path.{◌≡◌, ap, sym, ◌∙◌, subst}
use mathlib.Core.List.{List, [], ◌∷◌, ◌++◌}
use mathlib.Core.Bool.{true, false, not}
use mathlib.Core.Logic.{◌⊎◌, inl, inr, ⊎_elim}
use Prim.Native.Nat.{ℕ, zero, suc, ◌+◌, ◌*◌, ◌-◌, ◌≤◌, ◌<◌}
use native.Mathlib.Nat.{eq-or-lt_of_le, le_of_suc-le-suc, not-suc-le-zero}
use native.Mathlib.Numerals.{add-one}
use native.Mathlib.Omega.{arith}
use lib.Dec.{eqb}
use lib.ListN.{length, take, get_or, set, replicate, length-set, length-replicate, get_or-replicate, get_or-eq_default}
use lib.Seq.{take_all, take-suc, get_or-set_same, get_or-set_other}
use borrow.Author.Tests.{eqb-true, eqb-false, le-leb, lt-ltb}
use Rattle.laws.specs.Choice.{no}
use Rattle.laws.specs.Bits.{with_bit}
use Rattle.laws.specs.Bytes.{part, splice, Bytes}
use Rattle.laws.proofs.Bits.{with_bit-lt}
use Rattle.laws.proofs.Writes.{get_d_replicate as get_d-zeros}
use Rattle.laws.proofs.Scan.{all-is, all-at}
use Rattle.laws.proofs.Splice.{lt-or-ge, length-splice, get_d-before, get_d-in, get_d_after, part_same, part-other}
use Rattle.laws.proofs.Parts.{part-set}
use Rattle.laws.proofs.Put.{put_w-fits}
use Rattle.geometry.specs.TagMemory.{memory_length, map_place, map_bit_of}
use Rattle.geometry.proofs.Places.{map_place-is, map_place-same, map_bit_of-lt, bit-inside, leaf-has-bit}
use Rattle.block.specs.Block.{bit_at, put_bit, all_zero}
use Rattle.block.proofs.BitsOf.{put_bit-is, bit_at-zero, bit_at-put_bit-same, bit_at-put_bit-bit, bit_at-put_bit-byte}
use Rattle.memory.specs.PlainReading.{leaf_bit}
use Rattle.memory.specs.True.{block_at, is_true}
use Rattle.memory.proofs.Truth.{is_true-at, is_true-all, true_at-0, true_at-1}
use Rattle.form.specs.Encode.{Record, none, Sized, record_of, records_below, records_of}
use Rattle.form.specs.Test.{lowest, good_above, good_record}
use Rattle.form.specs.Calls.{put_record, filled, memory_of}
use Rattle.laws.proofs.Choice.{both_true, true-or-false, no-not}
use Rattle.form.proofs.Records.{Marked, marked, marked-is, records-sized, length-below, length-rises, below_none, below-take, below-skip}
use Rattle.archive.specs.Theorems.{listed, Good}
use Rattle.archive.proofs.Written.{leaf-above, leaf-below, leaf-some}

-- the records of a true memory
module _ (n : ℕ) (mem : List ℕ) (long : length mem ≡ memory_length n) (t : is_true n mem ≡ true) where
  rises : (p : ℕ) (k : Marked n mem n p) → lowest 0 (listed (records_of n mem)) p ≤ k.leaf
  unfolding lowest
  rises zero k = omega arith
  rises (suc p) k =
      let q : Marked n mem n p = marked n mem n p (omega (arith, length-rises n mem k.leaf n (omega (arith, k.below)), k.place)) in
      rw (marked-is n mem n p q)
      (⊎_elim
      (λ (l : q.leaf < k.leaf). omega arith)
      (λ (g : k.leaf ≤ q.leaf). absurd (omega (arith, length-rises n mem k.leaf q.leaf g, k.place, q.place)))
      (lt-or-ge q.leaf k.leaf))

  some : (k : ℕ) → k < n → leaf_bit n mem k ≡ 1 → no (all_zero (block_at mem k)) ≡ true
  some k l b = sym (no-not (all_zero (block_at mem k))) ∙ sym (true_at-1 n mem k b l) ∙ is_true-at n mem t k (leaf-has-bit n k l)

  good-at : (p : ℕ) → p < length (records_of n mem) → good_record n 0 (listed (records_of n mem)) p ≡ true
  unfolding good_record good_above
  good-at p l =
      let k : Marked n mem n p = marked n mem n p l in
      rw (marked-is n mem n p k)
      (both_true _ _ (le-leb _ _ (rises p k)) (both_true _ _ (lt-ltb _ _ k.below) (some k.leaf k.below k.bit)))

  pub true-records-good : Good n (records_of n mem)
  true-records-good = record { sized = records-sized n mem (omega arith); each = all-is (good_record n 0 (listed (records_of n mem))) (length (records_of n mem)) good-at }

zeros-bytes : (k : ℕ) → Bytes (replicate k 0)
unfolding Bytes
zeros-bytes k i = rw (get_d-zeros {A = ℕ} k i 0) (omega arith)

-- one record put into a memory of n leaves
module _ (n : ℕ) (mem : List ℕ) (r : Record) (long : length mem ≡ memory_length n) (below : r.leaf < n) (size : length r.content ≡ 64) where
  abbrev leafs : List ℕ
  leafs = splice mem (64 * r.leaf) r.content

  room : 64 * r.leaf + length r.content ≤ length mem
  room = omega arith

  put_is : put_record n mem r ≡ put_bit leafs (map_place n r.leaf) (map_bit_of r.leaf) 1
  unfolding put_record
  put_is = rw (put_w-fits 64 mem (64 * r.leaf) r.content (omega arith))

  set_is : put_record n mem r ≡ set leafs (map_place n r.leaf) (with_bit (get_or leafs (map_place n r.leaf) 0) (map_bit_of r.leaf) 1)
  set_is = put_is ∙ put_bit-is leafs (map_place n r.leaf) (map_bit_of r.leaf) 1 (map_bit_of-lt r.leaf)

  leafs-long : length leafs ≡ memory_length n
  leafs-long = length-splice mem (64 * r.leaf) r.content room ∙ long

  pub length-put : length (put_record n mem r) ≡ memory_length n
  length-put = ap length set_is ∙ length-set leafs (map_place n r.leaf) (with_bit (get_or leafs (map_place n r.leaf) 0) (map_bit_of r.leaf) 1) ∙ leafs-long

  here : map_place n r.leaf < length leafs
  here = omega (arith, leafs-long, bit-inside n r.leaf (leaf-has-bit n r.leaf below))

  -- the leaves' bytes are not the map's
  bit-leafs : (k : ℕ) → leaf_bit n leafs k ≡ leaf_bit n mem k
  unfolding leaf_bit bit_at
  bit-leafs k = rw (get_d_after mem (64 * r.leaf) r.content room (map_place n k) (omega (arith, map_place-is n k)))

  pub put-bit : leaf_bit n (put_record n mem r) r.leaf ≡ 1
  unfolding leaf_bit
  put-bit = rw put_is (bit_at-put_bit-same leafs (map_place n r.leaf) (map_bit_of r.leaf) 1 here (map_bit_of-lt r.leaf) (omega arith))

  other-bit : (k : ℕ) → (k ≡ r.leaf → ⊥) → leaf_bit n (put_bit leafs (map_place n r.leaf) (map_bit_of r.leaf) 1) k ≡ leaf_bit n leafs k
  unfolding leaf_bit
  other-bit k ne =
      ⊎_elim
      (λ (e : eqb (map_place n k) (map_place n r.leaf) ≡ true).
      let f : map_place n k ≡ map_place n r.leaf = eqb-true (map_place n k) (map_place n r.leaf) e in
      rw f (bit_at-put_bit-bit leafs (map_place n r.leaf) (map_bit_of r.leaf) 1 (map_bit_of k) here (map_bit_of-lt r.leaf) (omega arith) (λ q. ne (map_place-same n k r.leaf f (sym q)))))
      (λ (e : eqb (map_place n k) (map_place n r.leaf) ≡ false).
      bit_at-put_bit-byte leafs (map_place n r.leaf) (map_bit_of r.leaf) 1 (map_place n k) (map_bit_of k) (map_bit_of-lt r.leaf) (eqb-false (map_place n k) (map_place n r.leaf) e))
      (true-or-false (eqb (map_place n k) (map_place n r.leaf)))

  pub put-other-bit : (k : ℕ) → (k ≡ r.leaf → ⊥) → leaf_bit n (put_record n mem r) k ≡ leaf_bit n mem k
  put-other-bit k ne = ap (λ (l : List ℕ). leaf_bit n l k) put_is ∙ other-bit k ne ∙ bit-leafs k

  block-set : (k : ℕ) → k < n → block_at (put_record n mem r) k ≡ block_at leafs k
  block-set k l =
      ap (λ (x : List ℕ). block_at x k) set_is
      ∙ part-set leafs (map_place n r.leaf) (with_bit (get_or leafs (map_place n r.leaf) 0) (map_bit_of r.leaf) 1) (64 * k) 64 (omega (arith, map_place-is n r.leaf)) (omega (arith, leafs-long))

  pub put-leaf : block_at (put_record n mem r) r.leaf ≡ r.content
  put-leaf = block-set r.leaf below ∙ ap (part leafs (64 * r.leaf)) (sym size) ∙ part_same mem (64 * r.leaf) r.content room

  pub put-other-leaf : (k : ℕ) → k < n → (k ≡ r.leaf → ⊥) → block_at (put_record n mem r) k ≡ block_at mem k
  put-other-leaf k l ne = block-set k l ∙ part-other mem (64 * r.leaf) r.content (64 * k) 64 room (omega arith) (beside k r.leaf ne)
    where
      beside : (k l : ℕ) → (k ≡ l → ⊥) → (64 * k + 64 ≤ 64 * l) ⊎ (64 * l + length r.content ≤ 64 * k)
      beside k l ne = ⊎_elim (λ (q : k < l). inl (omega arith)) (λ (q : l ≤ k). ⊎_elim (λ (e : l ≡ k). absurd (ne (sym e))) (λ (s : l < k). inr (omega arith)) (eq-or-lt_of_le q)) (lt-or-ge k l)

  -- bytes stay bytes
  leafs-bytes : Bytes mem → Bytes r.content → (i : ℕ) → get_or leafs i 0 < 256
  unfolding Bytes
  leafs-bytes B C i =
      ⊎_elim
      (λ (q : i < 64 * r.leaf). rw (get_d-before mem (64 * r.leaf) r.content room i q) (B i))
      (λ (q : 64 * r.leaf ≤ i).
      ⊎_elim
      (λ (s : i < 64 * r.leaf + 64).
      let e : 64 * r.leaf + (i - 64 * r.leaf) ≡ i = omega arith in
      let f : get_or leafs i 0 ≡ get_or r.content (i - 64 * r.leaf) 0 = ap (λ (x : ℕ). get_or leafs x 0) (sym e) ∙ get_d-in mem (64 * r.leaf) r.content room (i - 64 * r.leaf) (omega arith) in
      rw f (C (i - 64 * r.leaf)))
      (λ (s : 64 * r.leaf + 64 ≤ i). rw (get_d_after mem (64 * r.leaf) r.content room i (omega arith)) (B i))
      (lt-or-ge i (64 * r.leaf + 64)))
      (lt-or-ge i (64 * r.leaf))

  pub put-bytes : Bytes mem → Bytes r.content → Bytes (put_record n mem r)
  unfolding Bytes
  put-bytes B C i =
      let a : ℕ = map_place n r.leaf in
      let v : ℕ = with_bit (get_or leafs a 0) (map_bit_of r.leaf) 1 in
      let f : get_or (put_record n mem r) i 0 ≡ get_or (set leafs a v) i 0 = ap (λ (l : List ℕ). get_or l i 0) set_is in
      ⊎_elim
      (λ (e : eqb i a ≡ true).
      let g : get_or (set leafs a v) i 0 ≡ v = ap (λ (x : ℕ). get_or (set leafs a v) x 0) (eqb-true i a e) ∙ get_or-set_same leafs a v 0 here in
      rw (f, g) (with_bit-lt (get_or leafs a 0) (map_bit_of r.leaf) 8 1 (map_bit_of-lt r.leaf) (omega arith) (leafs-bytes B C a)))
      (λ (e : eqb i a ≡ false). rw (f, get_or-set_other leafs a i v 0 (eqb-false i a e)) (leafs-bytes B C i))
      (true-or-false (eqb i a))

-- the memory of good records
module _ (n : ℕ) (rs : List Record) (G : Good n rs) where
  abbrev leaf : ℕ → ℕ
  leaf p = (listed rs p).leaf

  good-p : (p : ℕ) → p < length rs → good_record n 0 (listed rs) p ≡ true
  good-p p l = all-at (good_record n 0 (listed rs)) (length rs) G.each p l

  below-n : (p : ℕ) → p < length rs → leaf p < n
  below-n p l = leaf-below n (listed rs) p (good-p p l)

  size-p : (p : ℕ) → p < length rs → length (listed rs p).content ≡ 64
  unfolding Sized
  size-p p l = G.sized p l

  next-above : (p : ℕ) → suc p < length rs → leaf p < leaf (suc p)
  unfolding lowest
  next-above p l = omega (arith, leaf-above n (listed rs) (suc p) (good-p (suc p) l))

  pub rising : (p q : ℕ) → q < p → p < length rs → leaf q < leaf p
  rising zero q h l = absurd (not-suc-le-zero h)
  rising (suc p) q h l =
      ⊎_elim (λ (e : q ≡ p). rw e (next-above p l)) (λ (s : q < p). omega (arith, rising p q s (omega arith), next-above p l)) (eq-or-lt_of_le (le_of_suc-le-suc h))

  pub length-filled : (p : ℕ) → p ≤ length rs → length (filled n rs p) ≡ memory_length n
  unfolding filled
  length-filled zero h = length-replicate {A = ℕ} (memory_length n) 0
  length-filled (suc p) h = length-put n (filled n rs p) (listed rs p) (length-filled p (omega arith)) (below-n p (omega arith)) (size-p p (omega arith))

  pub bytes-filled : ((q : ℕ) → q < length rs → Bytes (listed rs q).content) → (p : ℕ) → p ≤ length rs → Bytes (filled n rs p)
  unfolding filled
  bytes-filled C zero h = zeros-bytes (memory_length n)
  bytes-filled C (suc p) h = put-bytes n (filled n rs p) (listed rs p) (length-filled p (omega arith)) (below-n p (omega arith)) (size-p p (omega arith)) (bytes-filled C p (omega arith)) (C p (omega arith))

  -- the bits: 1 for the recorded leaves, 0 for the others
  pub bit-recorded : (p q : ℕ) → q < p → p ≤ length rs → leaf_bit n (filled n rs p) (leaf q) ≡ 1
  unfolding filled
  bit-recorded zero q h l = absurd (not-suc-le-zero h)
  bit-recorded (suc p) q h l =
      let F : List ℕ = filled n rs p in
      let lf : length F ≡ memory_length n = length-filled p (omega arith) in
      ⊎_elim
      (λ (e : q ≡ p). rw e (put-bit n F (listed rs p) lf (below-n p (omega arith)) (size-p p (omega arith))))
      (λ (s : q < p).
      let r : leaf q < leaf p = rising p q s (omega arith) in
      put-other-bit n F (listed rs p) lf (below-n p (omega arith)) (size-p p (omega arith)) (leaf q) (λ e. absurd (omega arith)) ∙ bit-recorded p q s (omega arith))
      (eq-or-lt_of_le (le_of_suc-le-suc h))

  no-bit : (k : ℕ) → leaf_bit n (replicate (memory_length n) 0) k ≡ 0
  unfolding leaf_bit
  no-bit k = bit_at-zero (replicate (memory_length n) 0) (map_place n k) (map_bit_of k)
      (⊎_elim (λ (l : map_place n k < memory_length n). get_or-replicate (memory_length n) (map_place n k) 0 0 l)
      (λ (g : memory_length n ≤ map_place n k). get_or-eq_default (replicate (memory_length n) 0) 0 {n = map_place n k} (omega (arith, length-replicate {A = ℕ} (memory_length n) 0)))
      (lt-or-ge (map_place n k) (memory_length n)))

  pub bit-other : (p k : ℕ) → p ≤ length rs → ((q : ℕ) → q < p → k ≡ leaf q → ⊥) → leaf_bit n (filled n rs p) k ≡ 0
  unfolding filled
  bit-other zero k l ne = no-bit k
  bit-other (suc p) k l ne =
      put-other-bit n (filled n rs p) (listed rs p) (length-filled p (omega arith)) (below-n p (omega arith)) (size-p p (omega arith)) k (ne p (omega arith))
      ∙ bit-other p k (omega arith) (λ q h. ne q (omega arith))

  -- the recorded leaves' bytes
  pub leaf-recorded : (p q : ℕ) → q < p → p ≤ length rs → block_at (filled n rs p) (leaf q) ≡ (listed rs q).content
  unfolding filled
  leaf-recorded zero q h l = absurd (not-suc-le-zero h)
  leaf-recorded (suc p) q h l =
      let F : List ℕ = filled n rs p in
      let lf : length F ≡ memory_length n = length-filled p (omega arith) in
      ⊎_elim
      (λ (e : q ≡ p). rw e (put-leaf n F (listed rs p) lf (below-n p (omega arith)) (size-p p (omega arith))))
      (λ (s : q < p).
      let r : leaf q < leaf p = rising p q s (omega arith) in
      put-other-leaf n F (listed rs p) lf (below-n p (omega arith)) (size-p p (omega arith)) (leaf q) (below-n q (omega arith)) (λ e. absurd (omega arith)) ∙ leaf-recorded p q s (omega arith))
      (eq-or-lt_of_le (le_of_suc-le-suc h))

  abbrev mem : List ℕ
  mem = memory_of n rs

  pub length-memory : length mem ≡ memory_length n
  length-memory = length-filled (length rs) (omega arith)

  -- a leaf is recorded, or not
  looked : (k p : ℕ) → ((q : ℕ) × (q < p) × (k ≡ leaf q)) ⊎ ((q : ℕ) → q < p → k ≡ leaf q → ⊥)
  looked k zero = inr (λ q h e. absurd (not-suc-le-zero h))
  looked k (suc p) =
      ⊎_elim
      (λ (e : eqb k (leaf p) ≡ true). inl (p, omega arith, eqb-true k (leaf p) e))
      (λ (e : eqb k (leaf p) ≡ false).
      ⊎_elim
      (λ w. inl (w.0, omega (arith, w.1), w.2))
      (λ ne. inr (λ q h f. ⊎_elim (λ (s : q ≡ p). eqb-false k (leaf p) e (f ∙ ap leaf s)) (λ (s : q < p). ne q s f) (eq-or-lt_of_le (le_of_suc-le-suc h))))
      (looked k p))
      (true-or-false (eqb k (leaf p)))

  pub memory-true : is_true n mem ≡ true
  memory-true =
      is_true-all n mem (λ k h.
      ⊎_elim
      (λ w.
      let q : ℕ = w.0 in
      let l : q < length rs = w.1 in
      let b : leaf_bit n mem (leaf q) ≡ 1 = bit-recorded (length rs) q l (omega arith) in
      rw w.2 (true_at-1 n mem (leaf q) b (below-n q l) ∙ ap (λ (x : List ℕ). not (all_zero x)) (leaf-recorded (length rs) q l (omega arith)) ∙ ap not (leaf-some n (listed rs) q (good-p q l))))
      (λ ne. let z : leaf_bit n mem k ≡ 0 = bit-other (length rs) k (omega arith) ne in true_at-0 n mem k (λ b. absurd (omega arith)))
      (looked k (length rs)))

  -- the records of the leaves below leaf k are the first ones of the list
  record Upto (k : ℕ) : Type 0 where
    count : ℕ
    some : count ≤ length rs
    same : records_below n mem k ≡ take count rs
    lower : (q : ℕ) → q < count → leaf q < k
    higher : (q : ℕ) → count ≤ q → q < length rs → k ≤ leaf q

  -- a leaf that no record has is passed over
  passed : (k : ℕ) → ((q : ℕ) → q < length rs → k ≡ leaf q → ⊥) → records_below n mem (k + 1) ≡ records_below n mem k
  passed k ne = let z : leaf_bit n mem k ≡ 0 = bit-other (length rs) k (omega arith) ne in below-skip n mem k (λ b. absurd (omega arith))

  -- a recorded leaf's record is taken
  taken : (k p : ℕ) → p < length rs → k ≡ leaf p → records_below n mem k ≡ take p rs → records_below n mem (k + 1) ≡ take (suc p) rs
  taken k p l e s =
      let b : leaf_bit n mem k ≡ 1 = ap (leaf_bit n mem) e ∙ bit-recorded (length rs) p l (omega arith) in
      let c : block_at mem k ≡ (listed rs p).content = ap (block_at mem) e ∙ leaf-recorded (length rs) p l (omega arith) in
      let r : record_of mem k ≡ listed rs p = λ i. record { leaf = e i; content = c i } in
      below-take n mem k b ∙ (λ i. s i ++ (r i ∷ [])) ∙ sym (take-suc rs p none l)

  next : (k : ℕ) → Upto k → Upto (k + 1)
  next k U =
      ⊎_elim
      (λ (l : U.count < length rs).
      ⊎_elim
      (λ (t : eqb k (leaf U.count) ≡ true).
      let e : k ≡ leaf U.count = eqb-true k (leaf U.count) t in
      record {
        count = suc U.count;
        some = l;
        same = taken k U.count l e U.same;
        lower = λ q h. ⊎_elim (λ (s : q ≡ U.count). rw s (omega arith)) (λ (s : q < U.count). omega (arith, U.lower q s)) (eq-or-lt_of_le (le_of_suc-le-suc h));
        higher = λ q h g. omega (arith, rising q U.count h g);
      })
      (λ (t : eqb k (leaf U.count) ≡ false).
      let u : k ≡ leaf U.count → ⊥ = eqb-false k (leaf U.count) t in
      let a : k < leaf U.count = ⊎_elim (λ (e : k ≡ leaf U.count). absurd (u e)) (λ (s : k < leaf U.count). s) (eq-or-lt_of_le (U.higher U.count (omega arith) l)) in
      let b : (q : ℕ) → U.count ≤ q → q < length rs → k < leaf q =
      λ q h g. ⊎_elim (λ (e : U.count ≡ q). rw (← e) a) (λ (s : U.count < q). omega (arith, a, rising q U.count s g)) (eq-or-lt_of_le h) in
      record {
        count = U.count;
        some = U.some;
        same = passed k (λ q h e. ⊎_elim (λ (s : q < U.count). absurd (omega (arith, U.lower q s))) (λ (s : U.count ≤ q). absurd (omega (arith, b q s h))) (lt-or-ge q U.count)) ∙ U.same;
        lower = λ q h. omega (arith, U.lower q h);
        higher = λ q h g. omega (arith, b q h g);
      })
      (true-or-false (eqb k (leaf U.count))))
      (λ (l : length rs ≤ U.count).
      record {
        count = U.count;
        some = U.some;
        same = passed k (λ q h e. absurd (omega (arith, U.lower q (omega arith)))) ∙ U.same;
        lower = λ q h. omega (arith, U.lower q h);
        higher = λ q h g. absurd (omega arith);
      })
      (lt-or-ge U.count (length rs))

  upto : (k : ℕ) → Upto k
  upto zero = record { count = 0; some = omega arith; same = below_none n mem; lower = λ q h. absurd (not-suc-le-zero h); higher = λ q h g. omega arith }
  upto (suc k) = subst Upto (add-one k) (next k (upto k))

  pub memory-records : records_of n mem ≡ rs
  memory-records =
      let U : Upto n = upto n in
      ⊎_elim
      (λ (l : U.count < length rs). absurd (omega (arith, U.higher U.count (omega arith) l, below-n U.count l)))
      (λ (l : length rs ≤ U.count). U.same ∙ take_all U.count rs l)
      (lt-or-ge U.count (length rs))

  pub few-records : length rs ≤ n
  few-records = omega (arith, length-below n mem n, ap length memory-records)
