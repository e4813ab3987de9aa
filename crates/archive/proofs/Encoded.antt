-- An accepted image is the encoding of the records that are read from it: each of its blocks is the block that writing makes of its fields.
use mathlib.Core.Path.{◌≡◌, refl, ap, sym, ◌∙◌, subst}
use mathlib.Core.List.{List, ◌++◌, append_assoc, append-nil}
use mathlib.Core.Bool.{Bool, true, false}
use mathlib.Core.Logic.{⊎_elim}
use Prim.Native.Nat.{ℕ, zero, suc, ◌+◌, ◌*◌, ◌/◌, ◌%◌, ◌-◌, ◌≤◌, ◌<◌}
use native.Mathlib.Omega.{arith}
use lib.Dec.{eqb}
use lib.ListN.{length, take, get_or, replicate}
use lib.Seq.{take_all}
use borrow.Author.Tests.{ne_eqb, eqb-true}
use Rattle.laws.specs.Choice.{both}
use Rattle.laws.specs.Bytes.{part, bytes, number_at, Bytes}
use Rattle.laws.proofs.Choice.{both_left, both_right}
use Rattle.laws.proofs.Scan.{all-at, all-is}
use Rattle.laws.proofs.Splice.{lt-or-ge, length-part'}
use Rattle.geometry.specs.TagMemory.{in_limits}
use Rattle.block.specs.Block.{all_zero}
use Rattle.sums.specs.Check.{check_of, check_right}
use Rattle.form.specs.Encode.{Form, Sized, Record, none, record_bytes, records_bytes, head_front, head_rest, head_of, block_front, block_with, block_of, next7, record_blocks, blocks_for, encode}
use Rattle.form.specs.Test.{whole_blocks, image_block, number_of, kind_of, version_of, leaves_of, recorded_of, count_of, record_in, record_at, unused_zero, head_sound, count_right, block_sound, sound_at, record_count, good_record, leaves_in, recorded_in, checks_right, same}
use Rattle.form.specs.Calls.{records_in}
use Rattle.form.proofs.Sound.{sound-head, sound-block, sound-count, count-bounds, count-full, records-none, records-by}
use Rattle.form.proofs.Rules.{Accepted, accepted-fits}
use Rattle.form.proofs.Records.{length-records_to, records_to-at, next-few, next-full}
use Rattle.laws.proofs.Parts.{part-add, part-front, part_none, take_part, Bytes-part, number-back}
use Rattle.form.proofs.Rows.{zero-zeros, same-is}
use Rattle.sums.proofs.Right.{right-sealed}
use Rattle.archive.specs.Theorems.{listed, Good}
use Rattle.archive.proofs.Written.{good-same}

-- what a sound head says
module _ (F : Form) (b : List ℕ) (h : head_sound F b ≡ true) where
  fields : both (eqb (length b) 512) (both (eqb (number_of b) 0) (both (eqb (kind_of b) 1) (both (eqb (version_of b) F.version) (both (in_limits (leaves_of b)) (same (part b 16 492) (head_rest F)))))) ≡ true
  unfolding head_sound
  fields = h

  f₁ : both (eqb (number_of b) 0) (both (eqb (kind_of b) 1) (both (eqb (version_of b) F.version) (both (in_limits (leaves_of b)) (same (part b 16 492) (head_rest F))))) ≡ true
  f₁ = both_right _ _ fields

  f₂ : both (eqb (kind_of b) 1) (both (eqb (version_of b) F.version) (both (in_limits (leaves_of b)) (same (part b 16 492) (head_rest F)))) ≡ true
  f₂ = both_right _ _ f₁

  f₃ : both (eqb (version_of b) F.version) (both (in_limits (leaves_of b)) (same (part b 16 492) (head_rest F))) ≡ true
  f₃ = both_right _ _ f₂

  f₄ : both (in_limits (leaves_of b)) (same (part b 16 492) (head_rest F)) ≡ true
  f₄ = both_right _ _ f₃

  pub head-limits : in_limits (leaves_of b) ≡ true
  head-limits = both_left _ _ f₄

  -- a sound head with a right check is the head that is written
  pub head-written : Bytes b → check_right F.modulus b ≡ true → b ≡ head_of F (leaves_of b) (recorded_of b)
  unfolding head_of
  head-written B r =
      let l : length b ≡ 512 = eqb-true _ _ (both_left _ _ fields) in
      let p₀ : part b 0 4 ≡ bytes 4 0 = number-back b 0 4 0 B (omega arith) (eqb-true _ _ (both_left _ _ f₁)) in
      let p₄ : part b 4 2 ≡ bytes 2 1 = number-back b 4 2 1 B (omega arith) (eqb-true _ _ (both_left _ _ f₂)) in
      let p₆ : part b 6 2 ≡ bytes 2 F.version = number-back b 6 2 F.version B (omega arith) (eqb-true _ _ (both_left _ _ f₃)) in
      let p₈ : part b 8 4 ≡ bytes 4 (leaves_of b) = number-back b 8 4 (leaves_of b) B (omega arith) refl in
      let p₁₂ : part b 12 4 ≡ bytes 4 (recorded_of b) = number-back b 12 4 (recorded_of b) B (omega arith) refl in
      let z : part b 16 492 ≡ head_rest F = same-is (part b 16 492) (head_rest F) (both_right _ _ f₄) in
      let front : part b 0 16 ≡ head_front F (leaves_of b) (recorded_of b) =
      part-add b 0 4 12 ∙ (λ i. p₀ i ++ (part-add b 4 2 10 ∙ (λ i. p₄ i ++ (part-add b 6 2 8 ∙ (λ i. p₆ i ++ (part-add b 8 4 4 ∙ (λ i. p₈ i ++ p₁₂ i)) i)) i)) i) in
      let e : take 508 b ≡ head_front F (leaves_of b) (recorded_of b) ++ head_rest F = sym (part-front b 508) ∙ part-add b 0 16 492 ∙ (λ i. front i ++ z i) in
      right-sealed F.modulus b B r ∙ ap (λ (x : List ℕ). x ++ check_of F.modulus x) e

-- what a sound record block says
module _ (last : Bool) (j : ℕ) (b : List ℕ) (h : block_sound last j b ≡ true) where
  parts : both (eqb (length b) 512) (both (eqb (number_of b) j) (both (eqb (kind_of b) 2) (both (count_right last (count_of b)) (unused_zero b (8 + 68 * count_of b))))) ≡ true
  unfolding block_sound
  parts = h

  g₁ : both (eqb (number_of b) j) (both (eqb (kind_of b) 2) (both (count_right last (count_of b)) (unused_zero b (8 + 68 * count_of b)))) ≡ true
  g₁ = both_right _ _ parts

  g₂ : both (eqb (kind_of b) 2) (both (count_right last (count_of b)) (unused_zero b (8 + 68 * count_of b))) ≡ true
  g₂ = both_right _ _ g₁

  g₃ : both (count_right last (count_of b)) (unused_zero b (8 + 68 * count_of b)) ≡ true
  g₃ = both_right _ _ g₂

  -- with a right check it is the block that is written of its records' bytes
  pub block_written : (M : ℕ) → Bytes b → check_right M b ≡ true
      → b ≡ ((block_front j (count_of b) ++ part b 8 (68 * count_of b)) ++ replicate (500 - 68 * count_of b) 0)
      ++ check_of M ((block_front j (count_of b) ++ part b 8 (68 * count_of b)) ++ replicate (500 - 68 * count_of b) 0)
  block_written M B r =
      let c : ℕ = count_of b in
      let l : length b ≡ 512 = eqb-true _ _ (both_left _ _ parts) in
      let k : c ≤ 7 = (count-bounds last c (both_left _ _ g₃)).1 in
      let p₀ : part b 0 4 ≡ bytes 4 j = number-back b 0 4 j B (omega arith) (eqb-true _ _ (both_left _ _ g₁)) in
      let p₄ : part b 4 2 ≡ bytes 2 2 = number-back b 4 2 2 B (omega arith) (eqb-true _ _ (both_left _ _ g₂)) in
      let p₆ : part b 6 2 ≡ bytes 2 c = number-back b 6 2 c B (omega arith) refl in
      let q : 508 - (8 + 68 * c) ≡ 500 - 68 * c = omega arith in
      let z : part b (8 + 68 * c) (500 - 68 * c) ≡ replicate (500 - 68 * c) 0 =
      zero-zeros (part b (8 + 68 * c) (500 - 68 * c)) (500 - 68 * c) (length-part' b (8 + 68 * c) (500 - 68 * c) (omega arith)) (ap (λ (x : ℕ). all_zero (part b (8 + 68 * c) x)) (sym q) ∙ both_right _ _ g₃) in
      let front : part b 0 8 ≡ block_front j c = part-add b 0 4 4 ∙ (λ i. p₀ i ++ (part-add b 4 2 2 ∙ (λ i. p₄ i ++ p₆ i)) i) in
      let w : 508 ≡ 8 + 68 * c + (500 - 68 * c) = omega arith in
      let o : 0 + (8 + 68 * c) ≡ 8 + 68 * c = omega arith in
      let e : take 508 b ≡ (block_front j c ++ part b 8 (68 * c)) ++ replicate (500 - 68 * c) 0 =
      sym (part-front b 508) ∙ ap (part b 0) w ∙ part-add b 0 (8 + 68 * c) (500 - 68 * c)
      ∙ (λ i. (part-add b 0 8 (68 * c) ∙ (λ i. front i ++ part b 8 (68 * c))) i ++ (ap (λ (x : ℕ). part b x (500 - 68 * c)) o ∙ z) i) in
      right-sealed M b B r ∙ ap (λ (x : List ℕ). x ++ check_of M x) e

-- an accepted image, block by block
module _ (F : Form) (image : List ℕ) (A : Accepted F image) where
  abbrev W : ℕ
  W = whole_blocks image

  abbrev m : ℕ
  m = recorded_in image

  abbrev rs : List Record
  rs = records_in image

  pub long : length image ≡ 512 * W
  long = omega (arith, A.whole)

  some_block : 1 ≤ W
  some_block = omega (arith, long, A.some)

  right-at : (j : ℕ) → j < W → check_right F.modulus (image_block image j) ≡ true
  unfolding checks_right
  right-at j l = all-at (λ i. check_right F.modulus (image_block image i)) W A.checks j l

  head_ok : head_sound F (image_block image 0) ≡ true
  head_ok = sym (sound-head F image 0 refl) ∙ all-at (sound_at F image) W A.sound 0 some_block

  abbrev last : ℕ → Bool
  last j = eqb (suc j + 1) W

  block-ok : (j : ℕ) → suc j < W → block_sound (last j) (suc j) (image_block image (suc j)) ≡ true
  block-ok j l = sym (sound-block F image (suc j) (λ e. absurd (omega arith))) ∙ all-at (sound_at F image) W A.sound (suc j) l

  abbrev count : ℕ → ℕ
  count j = count_of (image_block image (suc j))

  count-ok : (j : ℕ) → suc j < W → (1 ≤ count j) × (count j ≤ 7)
  count-ok j l = count-bounds (last j) (count j) (sound-count (last j) (suc j) (image_block image (suc j)) (block-ok j l))

  -- m by the last block
  m-is : (j : ℕ) → suc j + 1 ≡ W → m ≡ 7 * j + count j
  m-is j e =
      let f : W - 1 ≡ suc j = omega arith in
      let g : W - 2 ≡ j = omega arith in
      A.count ∙ records-by image (omega arith) ∙ rw (f, g) refl

  pub few-blocks : blocks_for m ≡ W - 1
  few-blocks =
      ⊎_elim
      (λ (q : W < 2). let e : m ≡ 0 = A.count ∙ records-none image (omega arith) in omega (arith, some_block))
      (λ (q : 2 ≤ W). let j : ℕ = W - 2 in omega (arith, m-is j (omega arith), count-ok j (omega arith)))
      (lt-or-ge W 2)

  pub count_next : (j : ℕ) → suc j < W → count j ≡ next7 (m - 7 * j)
  count_next j l =
      ⊎_elim
      (λ (q : suc j + 1 < W).
      let k : ℕ = W - 2 in
      let f : last j ≡ false = ne_eqb (suc j + 1) W (λ e. absurd (omega arith)) in
      let c₇ : count j ≡ 7 = eqb-true (count j) 7 (sym (count-full (last j) (count j) f) ∙ sound-count (last j) (suc j) (image_block image (suc j)) (block-ok j l)) in
      c₇ ∙ sym (next-full (m - 7 * j) (omega (arith, m-is k (omega arith), count-ok k (omega arith)))))
      (λ (q : W ≤ suc j + 1).
      let e : m ≡ 7 * j + count j = m-is j (omega arith) in
      let d : m - 7 * j ≡ count j = omega arith in
      sym (ap next7 d ∙ next-few (count j) (count-ok j l).1))
      (lt-or-ge (suc j + 1) W)

  inside : (j : ℕ) → suc j < W → 7 * j + count j ≤ m
  inside j l =
      ⊎_elim
      (λ (q : suc j + 1 < W). let k : ℕ = W - 2 in omega (arith, m-is k (omega arith), count-ok j l))
      (λ (q : W ≤ suc j + 1). omega (arith, m-is j (omega arith)))
      (lt-or-ge (suc j + 1) W)

  pub in-limits : in_limits (leaves_in image) ≡ true
  in-limits = head-limits F (image_block image 0) head_ok

  -- its records are bytes, where it is
  pub records-bytes : Bytes image → (p : ℕ) → p < length rs → Bytes (listed rs p).content
  records-bytes B p l =
      let f : length rs ≡ m = length-records_to (record_at image) m in
      let w : 1 + p / 7 < W = omega (arith, accepted-fits F image A) in
      let lb : length (image_block image (1 + p / 7)) ≡ 512 = length-part' image (512 * (1 + p / 7)) 512 (omega (arith, long)) in
      subst (λ (r : Record). Bytes r.content) (sym (records_to-at (record_at image) m p (omega arith)))
      (Bytes-part (image_block image (1 + p / 7)) (12 + 68 * (p % 7)) 64 (omega arith) (Bytes-part image (512 * (1 + p / 7)) 512 (omega (arith, long)) B))

  -- and its records are good
  pub good-records : Good (leaves_in image) rs
  unfolding Sized
  good-records =
      let f : length rs ≡ m = length-records_to (record_at image) m in
      record {
        sized = λ p l. ap (λ (r : Record). length r.content) (records_to-at (record_at image) m p (omega arith)) ∙ content-long p (omega arith);
        each = rw f (all-is (good_record (leaves_in image) 0 (listed rs)) m (λ p l.
            good-same (leaves_in image) (listed rs) (record_at image) p (λ q k. records_to-at (record_at image) m q (omega arith))
            ∙ all-at (good_record (leaves_in image) 0 (record_at image)) (record_count image) A.good p (omega (arith, A.count))));
      }
    where
      content-long : (p : ℕ) → p < m → length (record_at image p).content ≡ 64
      content-long p l =
          let w : 1 + p / 7 < W = omega (arith, accepted-fits F image A) in
          let lb : length (image_block image (1 + p / 7)) ≡ 512 = length-part' image (512 * (1 + p / 7)) 512 (omega (arith, long)) in
          length-part' (image_block image (1 + p / 7)) (12 + 68 * (p % 7)) 64 (omega arith)

  -- its bytes
  module _ (B : Bytes image) where
    bytes-at : (j : ℕ) → j < W → Bytes (image_block image j)
    bytes-at j l = Bytes-part image (512 * j) 512 (omega (arith, long)) B

    -- a block's records are those that are read from it
    records-are : (j : ℕ) → suc j < W → (c : ℕ) → c ≤ count j → part (image_block image (suc j)) 8 (68 * c) ≡ records_bytes rs (7 * j) c
    unfolding records_bytes
    records-are j l zero h = part_none (image_block image (suc j)) 8
    records-are j l (suc c) h =
        let b : List ℕ = image_block image (suc j) in
        let lb : length b ≡ 512 = length-part' image (512 * suc j) 512 (omega (arith, long)) in
        let k : count j ≤ 7 = (count-ok j l).1 in
        let q : 68 * suc c ≡ 68 * c + 68 = omega arith in
        let e₄ : 8 + 68 * c + 4 ≡ 12 + 68 * c = omega arith in
        let d : (7 * j + c) / 7 ≡ j = omega arith in
        let r : (7 * j + c) % 7 ≡ c = omega arith in
        let s : 1 + j ≡ suc j = omega arith in
        let g : get_or rs (7 * j + c) none ≡ record_in b c =
        records_to-at (record_at image) m (7 * j + c) (omega (arith, inside j l)) ∙ rw (d, r, s) refl in
        ap (part b 8) q ∙ part-add b 8 (68 * c) 68
        ∙ (λ i. records-are j l c (omega arith) i
        ++ (part-add b (8 + 68 * c) 4 64 ∙ (λ i. number-back b (8 + 68 * c) 4 (number_at 4 b (8 + 68 * c)) (bytes-at (suc j) l) (omega arith) refl i ++ part b (e₄ i) 64)
        ∙ ap record_bytes (sym g)) i)

    pub block-is : (j : ℕ) → suc j < W → image_block image (suc j) ≡ block_of F.modulus (suc j) rs (7 * j) (next7 (length rs - 7 * j))
    unfolding block_with
    block-is j l =
        let R : List ℕ = part (image_block image (suc j)) 8 (68 * count j) in
        let e : count j ≡ next7 (length rs - 7 * j) = count_next j l ∙ ap (λ (x : ℕ). next7 (x - 7 * j)) (sym (length-records_to (record_at image) m)) in
        block_written (last j) (suc j) (image_block image (suc j)) (block-ok j l) F.modulus (bytes-at (suc j) l) (right-at (suc j) l)
        ∙ ap (λ (x : List ℕ). ((block_front (suc j) (count j) ++ x) ++ replicate (500 - 68 * count j) 0) ++ check_of F.modulus ((block_front (suc j) (count j) ++ x) ++ replicate (500 - 68 * count j) 0)) (records-are j l (count j) (omega arith))
        ∙ ap (block_of F.modulus (suc j) rs (7 * j)) e

    pub head-is : image_block image 0 ≡ head_of F (leaves_in image) m
    head-is = head-written F (image_block image 0) head_ok (bytes-at 0 some_block) (right-at 0 some_block)

    -- the blocks up to block j
    up_to : (j : ℕ) → j < W → take (512 * suc j) image ≡ head_of F (leaves_in image) m ++ record_blocks F.modulus rs j
    unfolding record_blocks
    up_to zero l = sym (part-front image 512) ∙ head-is ∙ sym (append-nil (head_of F (leaves_in image) m))
    up_to (suc j) l =
        let e : 512 * suc (suc j) ≡ 512 * suc j + 512 = omega arith in
        ap (λ (x : ℕ). take x image) e ∙ take_part image (512 * suc j) 512
        ∙ (λ i. up_to j (omega arith) i ++ block-is j l i)
        ∙ append_assoc (head_of F (leaves_in image) m) (record_blocks F.modulus rs j) (block_of F.modulus (suc j) rs (7 * j) (next7 (length rs - 7 * j)))

    pub is-encoding : image ≡ encode F (leaves_in image) rs
    unfolding encode
    is-encoding =
        let j : ℕ = W - 1 in
        let e : 512 * suc j ≡ length image = omega (arith, long, some_block) in
        let f : length rs ≡ m = length-records_to (record_at image) m in
        let g : blocks_for (length rs) ≡ j = ap blocks_for f ∙ few-blocks in
        sym (take_all (512 * suc j) image (omega arith)) ∙ up_to j (omega (arith, some_block))
        ∙ (λ i. head_of F (leaves_in image) (sym f i) ++ record_blocks F.modulus rs (sym g i))
