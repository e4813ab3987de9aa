-- Finish on the view of rows: the bit is put, and below the top a block that is then all zero is dropped.
use mathlib.Core.Path.{◌≡◌, refl, sym, ap, ◌∙◌, subst}
use mathlib.Core.Bool.{Bool, true, false}
use mathlib.Core.List.{List}
use mathlib.Core.Logic.{◌⊎◌, inl, inr, ⊎_elim}
use Prim.Native.Nat.{ℕ, suc, ◌+◌, ◌*◌, ◌%◌, ◌<◌, ◌≤◌}
use native.Mathlib.Omega.{arith}
use lib.Dec.{eqb}
use lib.ListN.{length, set}
use borrow.Author.Tests.{lt-ltb, le-ltb}
use Rattle.laws.specs.Choice.{pick, no as negated}
use Rattle.laws.specs.Bytes.{Bytes}
use Rattle.laws.proofs.Choice.{not-both-ways, true-or-false, both-when, both-false-left, no_true, same_truth, never_true, no-of-true, no-of-false}
use Rattle.laws.proofs.Splice.{lt-or-ge}
use Rattle.laws.proofs.Some.{some-true, some-none}
use Rattle.geometry.specs.declared.Shape.{Shape}
use Rattle.geometry.specs.Shape.{below_top, top_of}
use Rattle.geometry.specs.TagMemory.{block_bits, map_block_of, map_byte_of, map_bit_of, index, base, block_on, block_over, blocks_of}
use Rattle.geometry.proofs.Places.{map_byte_of-lt, map_bit_of-lt}
use Rattle.geometry.proofs.Levels.{index-next, base-rises, block_on-lt}
use Rattle.block.specs.Block.{put_bit, all_zero}
use Rattle.tracker.specs.declared.Phase.TheVariants.{Set, Clear}
use Rattle.tracker.specs.declared.Tracker.{Tracker}
use Rattle.tracker.specs.Transfers.{none}
use Rattle.tracker.specs.Tracker.{level_of, holds_at, finish_at}
use Rattle.tracker.proofs.Phases.{asks-is}
use Rattle.line.specs.Word.{holder, word}
use Rattle.line.proofs.Words.{holder-below}
use Rattle.rules.specs.State.{Rows}
use Rattle.rules.specs.Place.{with_lines}
use Rattle.rules.specs.Step.{Turned, own_line, bit_put, drop_empty, finish}
use Rattle.rules.proofs.Lined.{at, Has, low}
use Rattle.rules.proofs.Blocks.{Has64}
use Rattle.rules.proofs.Keeps.{put_bit-length}
use Rattle.rules.proofs.Ways.{changes_above, finish-top, finish-on, finish-ends}
use Rattle.flat.specs.Flat.{Course}
use Rattle.flat.proofs.Full.{under-block, place-lt, block-place}
use Rattle.flat.proofs.Views.{bit_on, bit-0, bit-here, bit-there, bit-whole, empty-bit, bits-empty, put-bits, put-bytes}
use Rattle.flat.proofs.Contents.{content, Good, content-in, content-out, same_none, Marked}
use Rattle.flat.proofs.Rows.{Only, only_then, only-marked, line-64, content-length, Writing, written-only, written-here, written_has, freed-only, freed-gone}
use Rattle.flat.proofs.Contained.{View}
use Rattle.flat.proofs.Does.{bits_with, some_with, must_change as goes_on, finish_on, Else, PutBit}
use Rattle.flat.proofs.Viewed.{view_of, Between, bits_is, lined-has, else-of, between-of}
use Rattle.flat.proofs.Steps.{Relies, Says, Turns, bit_is, bit-no, index_ok, let-go}

module _ {shape : Shape} {x : ℕ} {u : Tracker} {r : Rows} (R : Relies shape x u r) (s : Bool) (d : ℕ) (ph : u.phase ≡ finish_at s d) where
  abbrev n : ℕ
  n = shape.n

  abbrev l : ℕ
  l = shape.l

  abbrev t : ℕ
  t = below_top shape

  abbrev B : ℕ
  B = blocks_of (top_of shape) n

  abbrev g : ℕ
  g = u.group

  abbrev view : Rows → View
  view rr = view_of (top_of shape) n l rr

  -- its block of level d + 1, and that block's line
  abbrev own : ℕ
  own = block_over (suc d) n g

  abbrev j : ℕ
  j = own_line shape u r (suc d)

  phase-is : (holds_at u.phase ≡ true) × (level_of u.phase ≡ d)
  phase-is = rw ph (go s)
    where
      go : (z : Bool) → (holds_at (finish_at z d) ≡ true) × (level_of (finish_at z d) ≡ d)
      go true = (refl, refl)
      go false = (refl, refl)

  level : d < top_of shape
  level = let z = R.low in let y = phase-is.1 in omega arith

  line_of : (e : ℕ) → d < e → e ≤ top_of shape → Has r.lines (own_line shape u r e) (block_over e n g)
  line_of e q m = R.own e m (asks-is u.phase e phase-is.0 (let y = phase-is.1 in omega arith))

  in-j : Has r.lines j own
  in-j = line_of (suc d) (omega arith) level

  j-lt : j < l
  j-lt = low R.good.apart j own in-j

  -- the block before, and with the bit put
  abbrev was : List ℕ
  was = content l r own

  abbrev bit : ℕ
  bit = pick s 1 0

  bit-lt : bit < 2
  bit-lt = go s
    where
      go : (z : Bool) → pick z 1 0 < 2
      go true = omega arith
      go false = omega arith

  abbrev k : ℕ
  k = index d g

  abbrev now : List ℕ
  now = put_bit was (map_byte_of k) (map_bit_of k) bit

  was-long : length was ≡ 64
  was-long = content-length R.good own (R.good.apart.exists j own in-j)

  now-long : length now ≡ 64
  now-long = put_bit-length was (map_byte_of k) (map_bit_of k) bit ∙ was-long

  -- the rows with the bit put
  abbrev P : Rows
  P = bit_put s d j u r

  j64 : Has64 r.bytes j
  j64 = line-64 R.good j j-lt

  put-write : Writing B l r j own P.bytes now
  put-write = record {
    has-it = in-j;
    small = R.small;
    long = bit-whole r.bytes j j64 (map_byte_of k) (map_bit_of k) bit (map_byte_of-lt k) (map_bit_of-lt k);
    here = bit-here r.bytes j j64 (map_byte_of k) (map_bit_of k) bit (map_byte_of-lt k) (map_bit_of-lt k) ∙ ap (λ (c : List ℕ). put_bit c (map_byte_of k) (map_bit_of k) bit) (sym (content-in R.good j own in-j));
    there = λ i q m. bit-there r.bytes j j64 (map_byte_of k) (map_bit_of k) bit (map_byte_of-lt k) (map_bit_of-lt k) i (line-64 R.good i q) m;
  }

  -- the word of line j: the same block, changed, and the same holder
  abbrev w : ℕ
  w = holder (at r.lines j)

  put_is : (record { lines = set r.lines j (word own true w); bytes = P.bytes; memory = r.memory }) ≡ P
  put_is = ap (λ (b : ℕ). record { lines = set r.lines j (word b true w); bytes = P.bytes; memory = r.memory }) (sym in-j.is_block)

  put_only : Only B l r P own
  put_only = subst (λ (rr : Rows). Only B l r rr own) put_is (written-only R.good put-write w (holder-below _))

  put-content : content l P own ≡ now
  put-content = subst (λ (rr : Rows). content l rr own ≡ now) put_is (written-here R.good put-write w (holder-below _))

  put_has : Has P.lines j own
  put_has = subst (λ (rr : Rows). Has rr.lines j own) put_is (written_has R.good put-write w (holder-below _))

  -- the bits of its block, by what is put
  bits-now : (i : ℕ) → map_block_of i ≡ index (suc d) g → eqb (bit_on now i) 1 ≡ bits_with (view r) u s d i
  bits-now i e = ap (λ (b : ℕ). eqb b 1) (put-bits was was-long k bit bit-lt i (e ∙ index-next d g)) ∙ go (eqb i k) s
    where
      old : (view r).bits d i ≡ eqb (bit_on was i) 1
      old = bits_is (top_of shape) n l r d i level (rw e (index_ok R (suc d))) ∙ rw e

      go : (c z : Bool) → eqb (pick c (pick z 1 0) (bit_on was i)) 1 ≡ pick c z ((view r).bits d i)
      go true true = refl
      go true false = refl
      go false z = sym old

  -- below the top its block is all zero exactly if no bit of it is 1
  module _ (below : suc d < top_of shape) where
    own_first : n ≤ own
    own_first = omega (arith, base-rises n 1 (suc d) (omega arith))

    own_below : own < base (top_of shape) n
    own_below = block_on-lt n (suc d) (top_of shape) (index (suc d) g) below (index_ok R (suc d))

    empty-is : all_zero now ≡ negated (some_with (view r) u s d)
    empty-is = same_truth _ _
        (λ z. no-of-false (some-none _ block_bits (λ i q. let p = under-block (index (suc d) g) i q in sym (bits-now _ p) ∙ rw (empty-bit now now-long (index (suc d) g * block_bits + i) z))))
        (λ z. bits-empty now now-long (put-bytes was was-long k bit bit-lt (R.between own own_first own_below).0) (index (suc d) g) (λ i e. zero-at i e (no_true _ z)))
      where
        zero-at : (i : ℕ) → map_block_of i ≡ index (suc d) g → some_with (view r) u s d ≡ false → bit_on now i ≡ 0
        zero-at i e z = bit-0 now i (never_true (λ o. not-both-ways
            (some-true (λ q. bits_with (view r) u s d (index (suc d) g * block_bits + q)) block_bits (i % block_bits) (place-lt i) (rw (block-place i (index (suc d) g) e) (sym (bits-now i e) ∙ o))) z))

  -- the block as it is put, in rows that differ there alone
  module _ {rr : Rows} (o : Only B l r rr own) where
    own-else : Else (view r) (view rr) (suc d) (index (suc d) g)
    own-else = else-of (top_of shape) n rr R.good (suc d) (index (suc d) g) level (index_ok R (suc d)) o

    kept_put : content l rr own ≡ now → (suc d < top_of shape → all_zero now ≡ false) → PutBit t (view r) (view rr) u s d
    kept_put c full = record {
      only = own-else;
      bits = λ _ i e. bits_is (top_of shape) n l rr d i level (rw e (index_ok R (suc d))) ∙ ap (λ (a : ℕ). eqb (bit_on (content l rr (block_on (suc d) n a)) i) 1) e ∙ ap (λ (a : List ℕ). eqb (bit_on a i) 1) c ∙ bits-now i e;
      dropped = λ q z. absurd (not-both-ways (empty-is (omega arith) ∙ no-of-false z) (full (omega arith)));
    }

    drop-put : ((i : ℕ) → Has rr.lines i own → ⊥) → suc d < top_of shape → all_zero now ≡ true → PutBit t (view r) (view rr) u s d
    drop-put none q z = record {
      only = own-else;
      bits = λ a. absurd (⊎_elim (λ e. omega arith) (⊎_elim (λ e. not-both-ways z (empty-is q ∙ no-of-true e)) gone) a);
      dropped = λ _ _. gone;
    }
      where
        gone : (view rr).lined (suc d) (index (suc d) g) ≡ true → ⊥
        gone e = none _ (lined-has (top_of shape) n l rr (suc d) (index (suc d) g) e)

    own-between : (n ≤ own → own < base (top_of shape) n → Bytes (content l rr own)) → Between (top_of shape) n l rr
    own-between f = between-of (top_of shape) n rr R.good (suc d) (index (suc d) g) level (index_ok R (suc d)) o R.between f

  now-bytes : n ≤ own → own < base (top_of shape) n → Bytes now
  now-bytes p q = put-bytes was was-long k bit bit-lt (R.between own p q).0

  -- what Finish leaves of its rows: the bit put, and its block dropped where it is below the top and all zero
  pub record Finished (rr : Rows) : Type 0 where
    pub puts : PutBit t (view r) (view rr) u s d
    pub good : Good B l rr
    pub between : Between (top_of shape) n l rr

  -- with marks changed
  kept-rows : {rr : Rows} → Marked B l P rr → (suc d < top_of shape → all_zero now ≡ false) → Finished rr
  kept-rows {rr} S full = record { puts = kept_put o c full; good = S.same.good; between = own-between o (λ p q. rw c (now-bytes p q)) }
    where
      o : Only B l r rr own
      o = only-marked put_only S

      c : content l rr own ≡ now
      c = S.same.same own (R.good.apart.exists j own in-j) ∙ put-content

  abbrev dropped : Rows
  dropped = with_lines P (set P.lines j 0)

  drop-write : Writing B l P j own P.bytes now
  drop-write = record { has-it = put_has; small = R.small; long = refl; here = put-write.here; there = λ i q m. refl }

  drop-only : Only B l P dropped own
  drop-only = freed-only put_only.good drop-write

  drop-rows : {rr : Rows} → Marked B l dropped rr → suc d < top_of shape → all_zero now ≡ true → Finished rr
  drop-rows {rr} S q z = record { puts = drop-put o (λ i h. freed-gone put_only.good drop-write i (S.same.had i own h)) q z; good = S.same.good; between = own-between o in_memory }
    where
      o : Only B l r rr own
      o = only-marked (only_then put_only refl drop-only) S

      in_memory : n ≤ own → own < base (top_of shape) n → Bytes (content l rr own)
      in_memory p q = rw (S.same.same own (R.good.apart.exists j own in-j), content-out drop-only.good own (freed-gone put_only.good drop-write)) (R.between own p q).1

  -- below the top: what dropping leaves, marks as they are or let go
  below_rows : suc d < top_of shape → {rr : Rows} → Marked B l (drop_empty j P) rr → Finished rr
  below_rows q {rr} S = go (true-or-false (all_zero now))
    where
      go : (all_zero now ≡ true) ⊎ (all_zero now ≡ false) → Finished rr
      go (inl z) = let e : drop_empty j P ≡ dropped = rw (put-write.here, z) in drop-rows (rw e at S) q z
      go (inr z) = let e : drop_empty j P ≡ P = rw (put-write.here, z) in kept-rows (rw e at S) (λ _. z)

  -- whether the bit above must change
  above-is : suc d < top_of shape → changes_above shape s d u r ≡ goes_on s ((view r).bits (suc d) (index (suc d) g)) (some_with (view r) u s d)
  above-is q = rw (put-write.here, empty-is q, bit-no R R.good (suc d) i q in-i, bit_is R R.good (suc d) i q in-i)
    where
      i : ℕ
      i = own_line shape u r (suc (suc d))

      in-i : Has r.lines (own_line shape u r (suc (suc d))) (block_over (suc (suc d)) n g)
      in-i = line_of (suc (suc d)) (omega arith) q

  abbrev out : Turned
  out = finish shape s d u r

  pub record Ends : Type 0 where
    pub decided : Says (λ h. 0) u (pick (finish_on t (view r) u s d) (Course.goes (finish_at s (suc d))) Course.finishes) out
    pub finished : Finished out.rows

  at_top : top_of shape ≤ suc d → Ends
  at_top q = record {
    decided = rw (finish-top shape s d u r j-lt q, both-false-left _ (goes_on s ((view r).bits (suc d) (index (suc d) g)) (some_with (view r) u s d)) (le-ltb d t (omega arith))) (record { said-is = refl; tracker-is = refl });
    finished = rw (finish-top shape s d u r j-lt q) (kept-rows (let-go R put_only.good u.phase (own_line shape u r) (top_of shape)) (λ z. absurd (omega arith)));
  }

  below_top_lem : suc d < top_of shape → Ends
  below_top_lem q = ⊎_elim on ended (true-or-false (changes_above shape s d u r))
    where
      i_lt : own_line shape u r (suc (suc d)) < l
      i_lt = low R.good.apart _ _ (line_of (suc (suc d)) (omega arith) q)

      goes-is : {c : Bool} → changes_above shape s d u r ≡ c → finish_on t (view r) u s d ≡ c
      goes-is e = both-when _ _ (lt-ltb d t (omega arith)) ∙ sym (above-is q) ∙ e

      drop-good : Good B l (drop_empty j P)
      drop-good = go (true-or-false (all_zero now))
        where
          go : (all_zero now ≡ true) ⊎ (all_zero now ≡ false) → Good B l (drop_empty j P)
          go (inl z) = rw (put-write.here, z) drop-only.good
          go (inr z) = rw (put-write.here, z) put_only.good

      on : changes_above shape s d u r ≡ true → Ends
      on e = record {
        decided = rw (finish-on shape s d u r j-lt q i_lt e, goes-is e) (record { said-is = refl; tracker-is = refl });
        finished = rw (finish-on shape s d u r j-lt q i_lt e) (below_rows q (record { same = same_none drop-good; memory-is = refl }));
      }

      ended : changes_above shape s d u r ≡ false → Ends
      ended e = record {
        decided = rw (finish-ends shape s d u r j-lt q i_lt e, goes-is e) (record { said-is = refl; tracker-is = refl });
        finished = rw (finish-ends shape s d u r j-lt q i_lt e) (below_rows q (let-go R drop-good u.phase (own_line shape u r) (top_of shape)));
      }

  pub ends : Ends
  ends = ⊎_elim below_top_lem at_top (lt-or-ge (suc d) (top_of shape))

module _ {shape : Shape} {x : ℕ} {u : Tracker} {r : Rows} (R : Relies shape x u r) (d : ℕ) where
  pub turns-set : u.phase ≡ Set d → Turns shape r u (Set d) (finish shape true d u r)
  turns-set ph = let e = ends R true d ph in record { decided = e.decided; good = e.finished.good; between = e.finished.between; does = e.finished.puts }

  pub turns-clear : u.phase ≡ Clear d → Turns shape r u (Clear d) (finish shape false d u r)
  turns-clear ph = let e = ends R false d ph in record { decided = e.decided; good = e.finished.good; between = e.finished.between; does = e.finished.puts }
