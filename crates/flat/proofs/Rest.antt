-- Where nothing is under way and no line is changed, memory holds every block as it is: plain reading is the row, and memory is true.
-- And the other way: over a true memory with no lines, what it reads is what the rows mean.
use mathlib.Core.Path.{◌≡◌, refl, sym, ap, ◌∙◌, subst, fun_ext}
use mathlib.Core.Bool.{true, false, not}
use mathlib.Core.List.{List}
use mathlib.Core.Logic.{◌⊎◌, inl, inr, ⊎_elim}
use Prim.Native.Nat.{ℕ, zero, suc, ◌+◌, ◌*◌, ◌<◌, ◌≤◌}
use native.Mathlib.Nat.{zero-add}
use native.Mathlib.Omega.{arith}
use lib.Dec.{eqb}
use lib.ListN.{length}
use borrow.Author.Tests.{ltb-true, eqb-true}
use Rattle.laws.specs.Choice.{both}
use Rattle.laws.specs.Bytes.{Bytes}
use Rattle.laws.proofs.Choice.{not-both-ways, true-or-false, both_left, both_right, both-false-left, implies_true, no_true, never_true}
use Rattle.laws.proofs.Splice.{lt-or-ge}
use Rattle.geometry.specs.TagMemory.{leaf_of, byte_of, group_on, block_bits, map_block_of, map_byte_of, map_bit_of, count, base, block_on, blocks_of, length_of, bit_place}
use Rattle.geometry.proofs.Places.{byte_of-lt, leaf_of-group_on, byte_of-group_on, map_byte_of-lt, map_bit_of-lt, child-is, bit_place-past}
use Rattle.geometry.proofs.Levels.{base-rises, block_on-lt}
use Rattle.block.specs.Block.{group_at, all_zero}
use Rattle.block.proofs.BitsOf.{bit_at-not}
use Rattle.memory.specs.PlainReading.{bit_over, counts, plain_group_of}
use Rattle.memory.specs.True.{block_at, true_on, is_true_of}
use Rattle.memory.proofs.Truth.{true_on-0, true_on-1, true_from-at, true_from-all}
use Rattle.tracker.specs.declared.Tracker.{Tracker}
use Rattle.tracker.specs.Tracker.{idle, is_idle}
use Rattle.line.specs.Word.{changed}
use Rattle.rules.specs.State.{Rows, tracker_at}
use Rattle.rules.proofs.Lined.{at, Has, low}
use Rattle.rules.proofs.Blocks.{block-length}
use Rattle.flat.specs.Flat.{Row}
use Rattle.flat.proofs.Views.{bit_on, bit-0, group-block, bit-block, empty_group, groups-empty, empty-bit, bits-empty}
use Rattle.flat.proofs.Contents.{content, Good, content-in, content-out, lined-or-not}
use Rattle.flat.proofs.Contained.{View, Contained}
use Rattle.flat.proofs.Lives.{lives, plain_in, Empty, True, rest-reads, rest-true, begins-contained}
use Rattle.flat.proofs.Viewed.{view_of, exists-is, exists-count, bits_is, lined-has}
use Rattle.flat.proofs.Played.{Means}

-- the bits of a block that exists are those below
bit-range : (c k : ℕ) → map_block_of k < c → k < block_bits * c
bit-range c k h = omega (arith, child-is k, map_byte_of-lt k, map_bit_of-lt k)

bit_past : (c k : ℕ) → c ≤ map_block_of k → block_bits * c ≤ k
bit_past c k h = omega (arith, child-is k)

-- Rows whose contents are memory's.
module _ (t n : ℕ) {l : ℕ} {r : Rows} (G : Good (blocks_of (suc t) n) l r) (in_memory : (b : ℕ) → content l r b ≡ block_at r.memory b) where
  abbrev top : ℕ
  top = suc t

  abbrev m : List ℕ
  m = r.memory

  abbrev v : View
  v = view_of top n l r

  -- a block that is not there reads 0; one that is there and is all zero too
  absent-empty : (e k : ℕ) → count e n ≤ k → Empty v e k
  absent-empty zero k q = λ g e. rw (never_true (λ z. let y = exists-count top n 0 (leaf_of g) z in omega arith))
  absent-empty (suc e) k q = λ i p. both-false-left _ _ (never_true (λ z. let y = exists-count top n (suc e) (map_block_of i) z in omega arith))

  there : (e k : ℕ) → e ≤ top → k < count e n → block_on e n k < blocks_of top n
  there e k el kl = block_on-lt n e (suc top) k (omega arith) kl

  long : (e k : ℕ) → e ≤ top → k < count e n → length (block_at m (block_on e n k)) ≡ 64
  long e k el kl = block-length m (block_on e n k) (omega (arith, G.memory-long, there e k el kl))

  -- its groups and bits, in memory
  group-memory : (g : ℕ) → leaf_of g < n → v.group g ≡ group_at (block_at m (block_on 0 n (leaf_of g))) (byte_of g)
  group-memory g q = rw (exists-is top n 0 (leaf_of g) (omega arith) q, in_memory (block_on 0 n (leaf_of g)))

  bit-memory : (e k : ℕ) → e < top → map_block_of k < count (suc e) n → v.bits e k ≡ eqb (bit_on (block_at m (block_on (suc e) n (map_block_of k))) k) 1
  bit-memory e k el q = bits_is top n l r e k el q ∙ rw (in_memory (block_on (suc e) n (map_block_of k)))

  zero-empty : (e k : ℕ) → e ≤ top → k < count e n → all_zero (block_at m (block_on e n k)) ≡ true → Empty v e k
  zero-empty zero k el kl z = λ g q. group-memory g (rw q kl) ∙ rw q (empty_group (block_at m (block_on 0 n k)) (long 0 k el kl) g z)
  zero-empty (suc e) k el kl z = λ i q. bit-memory e i el (rw q kl) ∙ rw (q, empty-bit (block_at m (block_on (suc e) n k)) (long (suc e) k el kl) i z)

  -- memory counts a block exactly if the view does: a block that counts is there
  module _ (exist : (d e k : ℕ) → e + suc d ≡ top → counts (suc d) e n m k ≡ true → lives v.bits (suc d) e k ≡ true → k < count e n) where
    over-is : (e k : ℕ) → e < top → map_block_of k < count (suc e) n → eqb (bit_over e n m k) 1 ≡ v.bits e k
    over-is e k el q =
        ap (λ (b : ℕ). eqb b 1) (bit-block m (block_on (suc e) n (map_block_of k)) (omega (arith, G.memory-long, there (suc e) (map_block_of k) el q)) (map_byte_of k) (map_bit_of k) (map_byte_of-lt k))
        ∙ sym (bit-memory e k el q)

    counts-lives : (d e k : ℕ) → e + suc d ≡ top → counts (suc d) e n m k ≡ lives v.bits (suc d) e k
    counts-lives zero e k q = ap (both true) (go (lt-or-ge (map_block_of k) (count (suc e) n)))
      where
        go : (map_block_of k < count (suc e) n) ⊎ (count (suc e) n ≤ map_block_of k) → eqb (bit_over e n m k) 1 ≡ v.bits e k
        go (inl p) = over-is e k (omega arith) p
        go (inr p) =
            let z : suc e ≡ top = omega arith in
            let y : length m ≡ length_of (suc e) n = G.memory-long ∙ ap (λ (c : ℕ). length_of c n) (sym z) in
            ap (λ (b : ℕ). eqb b 1) (bit_at-not m (bit_place e n k) (map_bit_of k) (omega (arith, bit_place-past e n k (bit_past _ k p))))
            ∙ sym (both-false-left _ _ (never_true (λ x. let h = exists-count top n (suc e) (map_block_of k) x in omega arith)))
    counts-lives (suc d) e k q = go (counts-lives d (suc e) (map_block_of k) (omega arith)) (true-or-false (lives v.bits (suc d) (suc e) (map_block_of k)))
      where
        go : counts (suc d) (suc e) n m (map_block_of k) ≡ lives v.bits (suc d) (suc e) (map_block_of k)
            → (lives v.bits (suc d) (suc e) (map_block_of k) ≡ true) ⊎ (lives v.bits (suc d) (suc e) (map_block_of k) ≡ false)
            → both (counts (suc d) (suc e) n m (map_block_of k)) (eqb (bit_over e n m k) 1) ≡ both (lives v.bits (suc d) (suc e) (map_block_of k)) (v.bits e k)
        go up (inl z) = rw (up, over-is e k (omega arith) (exist d (suc e) (map_block_of k) (omega arith) (up ∙ z) z))
        go up (inr z) = both-false-left _ _ (up ∙ z) ∙ sym (both-false-left _ _ z)

    plain-is : (g : ℕ) → plain_group_of top n m g ≡ plain_in top v g
    plain-is g = go (true-or-false (lives v.bits top 0 (leaf_of g)))
      where
        same : counts top 0 n m (leaf_of g) ≡ lives v.bits top 0 (leaf_of g)
        same = counts-lives t 0 (leaf_of g) (omega arith)

        go : (lives v.bits top 0 (leaf_of g) ≡ true) ⊎ (lives v.bits top 0 (leaf_of g) ≡ false) → plain_group_of top n m g ≡ plain_in top v g
        go (inl z) =
            let q : leaf_of g < n = exist t 0 (leaf_of g) (omega arith) (same ∙ z) z in
            rw (same, z) (group-block m (leaf_of g) (omega (arith, G.memory-long, there 0 (leaf_of g) (omega arith) q)) (byte_of g) (byte_of-lt g)
            ∙ ap (λ (b : ℕ). group_at (block_at m b) (byte_of g)) (sym (zero-add (leaf_of g))) ∙ sym (group-memory g q))
        go (inr z) = rw (same, z)

-- At rest, clean.
module _ {t n l : ℕ} {r : Rows} {ts : List Tracker} {row : Row} (M : Means (suc t) n l r ts row)
    (rest : (x : ℕ) → is_idle (tracker_at ts x) ≡ true) (clean : (i : ℕ) → i < l → changed (at r.lines i) ≡ false) where
  clean-memory : (b : ℕ) → content l r b ≡ block_at r.memory b
  clean-memory b = go (lined-or-not M.good b)
    where
      go : ((i : ℕ) × Has r.lines i b) ⊎ ((i : ℕ) → Has r.lines i b → ⊥) → content l r b ≡ block_at r.memory b
      go (inl o) = content-in M.good o.0 b o.1 ∙ M.good.clean o.0 b o.1 (clean o.0 (low M.good.apart o.0 b o.1))
      go (inr o) = content-out M.good b o

  true-view : True (suc t) (view_of (suc t) n l r)
  true-view = rest-true M.contained.agrees rest

  is-there : (d e k : ℕ) → e + suc d ≡ suc t → counts (suc d) e n r.memory k ≡ true → lives (view_of (suc t) n l r).bits (suc d) e k ≡ true → k < count e n
  is-there d e k q c z = ⊎_elim (λ p. p) (λ p. absurd (true-view d e k q z (absent-empty t n M.good clean-memory e k p))) (lt-or-ge k (count e n))

  -- plain reading is the row
  pub reads-row : (g : ℕ) → plain_group_of (suc t) n r.memory g ≡ row g
  reads-row g = plain-is t n M.good clean-memory is-there g ∙ rest-reads M.contained.agrees rest g

  -- and the memory is true
  pub reads-true : is_true_of (suc t) n r.memory ≡ true
  reads-true = true_from-all n r.memory (suc t) 0 (λ d e _ q k _. go d e k (q ∙ zero-add (suc t)) (true-or-false (counts (suc d) e n r.memory k)))
    where
      go : (d e k : ℕ) → e + suc d ≡ suc t → (counts (suc d) e n r.memory k ≡ true) ⊎ (counts (suc d) e n r.memory k ≡ false) → true_on (suc d) e n r.memory k ≡ true
      go d e k q (inr c) = true_on-0 (suc d) e n r.memory k c
      go d e k q (inl c) =
          let z : lives (view_of (suc t) n l r).bits (suc d) e k ≡ true = sym (counts-lives t n M.good clean-memory is-there d e k q) ∙ c in
          let kl : k < count e n = is-there d e k q c z in
          true_on-1 (suc d) e n r.memory k c kl ∙ ap not (never_true (λ a. true-view d e k q z (zero-empty t n M.good clean-memory e k (omega arith) kl a)))

-- A true memory, with every line free and every tracker idle; what it has of the blocks between the leaves and the top is bytes.
module _ (t n l : ℕ) (r : Rows) (ts : List Tracker) (lb : length r.bytes ≡ 64 * l) (lm : length r.memory ≡ length_of (suc t) n) (ll : l ≤ length r.lines)
    (free : (i b : ℕ) → Has r.lines i b → ⊥) (rest : (x : ℕ) → tracker_at ts x ≡ idle) (tr : is_true_of (suc t) n r.memory ≡ true)
    (fits : (b : ℕ) → n ≤ b → b < base (suc t) n → Bytes (block_at r.memory b)) where
  begin-good : Good (blocks_of (suc t) n) l r
  begin-good = record {
    bytes-long = lb;
    memory-long = lm;
    apart = record {
      long = ll;
      above = λ i q. never_true (λ u. free i _ (record { is-used = u; is_block = refl }));
      exists = λ i b h. absurd (free i b h);
      one = λ i j b h h'. absurd (free i b h);
    };
    clean = λ i b h e. absurd (free i b h);
  }

  begin-memory : (b : ℕ) → content l r b ≡ block_at r.memory b
  begin-memory b = content-out begin-good b (λ i h. free i b h)

  abbrev view0 : View
  view0 = view_of (suc t) n l r

  -- a block that counts is there, and some byte of it is not zero
  counted : (d e k : ℕ) → e + suc d ≡ suc t → counts (suc d) e n r.memory k ≡ true → (k < count e n) × (all_zero (block_at r.memory (block_on e n k)) ≡ false)
  counted d e k q c = by (above d e k q c)
    where
      inside : (e k : ℕ) → suc e ≡ suc t → bit_over e n r.memory k ≡ 1 → map_block_of k < count (suc e) n
      inside e k q o = ⊎_elim (λ p. p) (λ p. absurd (
          let y : length r.memory ≡ length_of (suc e) n = lm ∙ ap (λ (c : ℕ). length_of c n) (sym q) in
          let z : bit_over e n r.memory k ≡ 0 = bit_at-not r.memory (bit_place e n k) (map_bit_of k) (omega (arith, bit_place-past e n k (bit_past _ k p))) in
          omega arith)) (lt-or-ge (map_block_of k) (count (suc e) n))

      tested : (d e k : ℕ) → e + suc d ≡ suc t → map_block_of k < count (suc e) n → true_on (suc d) e n r.memory k ≡ true
      tested d e k q p = true_from-at n r.memory (suc t) 0 tr d e (omega arith) (omega arith) k (bit-range (count (suc e) n) k p)

      by : map_block_of k < count (suc e) n → (k < count e n) × (all_zero (block_at r.memory (block_on e n k)) ≡ false)
      by p = let y = implies_true _ _ (tested d e k q p) c in (ltb-true _ _ (both_left _ _ y), no_true _ (both_right _ _ y))

      above : (d e k : ℕ) → e + suc d ≡ suc t → counts (suc d) e n r.memory k ≡ true → map_block_of k < count (suc e) n
      above zero e k q c = inside e k (omega arith) (eqb-true _ _ (both_right _ _ c))
      above (suc d) e k q c =
          let h = both_left _ _ c in
          let y = implies_true _ _ (tested d (suc e) (map_block_of k) (omega arith) (above d (suc e) (map_block_of k) (omega arith) h)) h in
          ltb-true _ _ (both_left _ _ y)

  exist0 : (d e k : ℕ) → e + suc d ≡ suc t → counts (suc d) e n r.memory k ≡ true → lives view0.bits (suc d) e k ≡ true → k < count e n
  exist0 d e k q c z = (counted d e k q c).0

  empty-zero : (e k : ℕ) → e < suc t → k < count e n → Empty view0 e k → all_zero (block_at r.memory (block_on e n k)) ≡ true
  empty-zero zero k el kl E = groups-empty (block_at r.memory (block_on 0 n k)) (long t n begin-good begin-memory 0 k (omega arith) kl) (λ j q.
      let p : leaf_of (group_on k j) ≡ k = leaf_of-group_on k j q in
      ap (group_at (block_at r.memory (block_on 0 n k))) (sym (byte_of-group_on k j q))
      ∙ ap (λ (b : ℕ). group_at (block_at r.memory (block_on 0 n b)) (byte_of (group_on k j))) (sym p)
      ∙ sym (group-memory t n begin-good begin-memory (group_on k j) (rw p kl)) ∙ E (group_on k j) p)
  empty-zero (suc e) k el kl E = bits-empty (block_at r.memory (block_on (suc e) n k)) (long t n begin-good begin-memory (suc e) k (omega arith) kl)
      (fits (block_on (suc e) n k) (omega (arith, base-rises n 1 (suc e) (omega arith))) (block_on-lt n (suc e) (suc t) k el kl)) k (λ i q. zero-at i q)
    where
      zero-at : (i : ℕ) → map_block_of i ≡ k → bit_on (block_at r.memory (block_on (suc e) n k)) i ≡ 0
      zero-at i q = bit-0 _ i (ap (λ (b : ℕ). eqb (bit_on (block_at r.memory (block_on (suc e) n b)) i) 1) (sym q)
          ∙ sym (bit-memory t n begin-good begin-memory e i (omega arith) (rw q kl)) ∙ E i q)

  true0 : True (suc t) view0
  true0 d e k q z E =
      let c = counted d e k q (counts-lives t n begin-good begin-memory exist0 d e k q ∙ z) in
      not-both-ways (empty-zero e k (omega arith) c.0 E) c.1

  pub begins : Means (suc t) n l r ts (plain_group_of (suc t) n r.memory)
  begins = record {
    good = begin-good;
    between = λ b p q. (rw (begin-memory b) (fits b p q), fits b p q);
    contained = subst (λ (row : Row). Contained (suc t) ts row view0) (fun_ext (λ g. sym (plain-is t n begin-good begin-memory exist0 g)))
        (begins-contained t ts view0 rest (λ e j z. free _ _ (lined-has (suc t) n l r e j z)) true0);
  }
