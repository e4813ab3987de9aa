-- Laws of writing: writes one after the other make a record, a block's front, a block, the head and the image.
use mathlib.Core.Path.{◌≡◌, refl, ap, sym, ◌∙◌}
use mathlib.Core.List.{List, [], ◌++◌, append_assoc}
use mathlib.Core.Logic.{inr, ⊎_elim}
use Prim.Native.Nat.{ℕ, suc, ◌+◌, ◌*◌, ◌-◌, ◌≤◌, ◌<◌, min}
use native.Mathlib.Numerals.{add-one}
use native.Mathlib.Omega.{arith}
use lib.ListN.{length, get_or, replicate, length-append, length-replicate}
use Rattle.laws.specs.Bytes.{part, splice, put_w, bytes}
use Rattle.laws.proofs.Splice.{length-splice, length-part', part_same, part-other, splice-id, lt-or-ge}
use Rattle.laws.proofs.Put.{put_w-fits}
use Rattle.laws.proofs.Value.{length-bytes}
use Rattle.sums.specs.Check.{check_of, with_check}
use Rattle.laws.proofs.Writes.{splice-none, splice-then, take-splice}
use Rattle.sums.proofs.Right.{sealed}
use Rattle.form.specs.Encode.{Form, version2, Record, none, Sized, record_bytes, records_bytes, head_front, head_rest, head_of, headed, block_front, block_with, closed, block_of, next7, record_blocks, blocks_for, encode, record_of, records_below, records_of}
use Rattle.memory.specs.PlainReading.{leaf_bit}
use Rattle.memory.specs.True.{block_at}
use Rattle.form.proofs.Sound.{fit-2}
use Rattle.form.proofs.Records.{records-sized, closed_is, closed-records, headed-is, records-none, records-more, below_at, length-take, length-record, length-records, length-head_front, length-head, length-block_front, length-payload, length-block, length-blocks, next-few, next-full, next-bounds}

-- a write right after another
pub put_then : (w : ℕ) (l : List ℕ) (at : ℕ) (v b : List ℕ) (p : ℕ) → p ≡ at + length v → p + w ≤ length l → put_w w (splice l at v) p b ≡ splice l at (v ++ b)
put_then w l at v b p e g =
    let s : length (splice l at v) ≡ length l = length-splice l at v (omega arith) in
    put_w-fits w (splice l at v) p b (omega arith) ∙ splice-then l at v b p e (omega arith)

pub record-law : (o : List ℕ) (at k : ℕ) (content : List ℕ) → at + 68 ≤ length o
    → put_w 64 (put_w 4 o at (bytes 4 k)) (at + 4) content ≡ put_w 68 o at (bytes 4 k ++ content)
record-law o at k content h =
    let lb : length (bytes 4 k) ≡ 4 = length-bytes 4 k in
    rw (put_w-fits 4 o at (bytes 4 k) (omega arith), put_w-fits 68 o at (bytes 4 k ++ content) h) (put_then 64 o at (bytes 4 k) content (at + 4) (omega arith) (omega arith))

pub front-law : (o : List ℕ) (j c : ℕ) → length o ≡ 512
    → put_w 2 (put_w 2 (put_w 4 o 0 (bytes 4 j)) 4 (bytes 2 2)) 6 (bytes 2 c) ≡ splice o 0 (block_front j c)
front-law o j c h =
    let lj : length (bytes 4 j) ≡ 4 = length-bytes 4 j in
    let l2 : length (bytes 2 2) ≡ 2 = length-bytes 2 2 in
    let f : length (bytes 4 j ++ bytes 2 2) ≡ 6 = omega (arith, length-append (bytes 4 j) (bytes 2 2)) in
    rw (
      put_w-fits 4 o 0 (bytes 4 j) (omega arith),
      put_then 2 o 0 (bytes 4 j) (bytes 2 2) 4 (omega arith) (omega arith),
      put_then 2 o 0 (bytes 4 j ++ bytes 2 2) (bytes 2 c) 6 (omega arith) (omega arith),
    )
    (ap (splice o 0) (append_assoc (bytes 4 j) (bytes 2 2) (bytes 2 c)))

-- 508 bytes at the start of a block, and its check
pub finish-law : (M : ℕ) (o v : List ℕ) → length o ≡ 512 → length v ≡ 508 → with_check M (splice o 0 v) ≡ v ++ check_of M v
finish-law M o v h e =
    let s : length (splice o 0 v) ≡ 512 = length-splice o 0 v (omega arith) ∙ h in
    sealed M (splice o 0 v) s ∙ ap (λ (l : List ℕ). l ++ check_of M l) (take-splice o v 508 e)

with-law : (M : ℕ) (o : List ℕ) (j c : ℕ) → length o ≡ 512 → c ≤ 7
    → with_check M (put_w (508 - (8 + 68 * c)) (splice o 0 (block_front j c)) (8 + 68 * c) (replicate (508 - (8 + 68 * c)) 0)) ≡ block_with M j c (part o 8 (68 * c))
unfolding block_with
with-law M o j c h le =
    let R : List ℕ = part o 8 (68 * c) in
    let S : List ℕ = splice o 0 (block_front j c) in
    let lf : length (block_front j c) ≡ 8 = length-block_front j c in
    let lr : length R ≡ 68 * c = length-part' o 8 (68 * c) (omega arith) in
    let l_s : length S ≡ length o = length-splice o 0 (block_front j c) (omega arith) in
    let r : part S 8 (68 * c) ≡ R = part-other o 0 (block_front j c) 8 (68 * c) (omega arith) (omega arith) (inr (omega arith)) in
    let s : S ≡ splice S 8 R = splice-id S 8 (68 * c) (omega arith) ∙ ap (splice S 8) r in
    let lv : length (block_front j c ++ R) ≡ 8 + 68 * c = omega (arith, length-append (block_front j c) R) in
    let e : 508 - (8 + 68 * c) ≡ 500 - 68 * c = omega arith in
    let z : length {A = ℕ} (replicate (500 - 68 * c) 0) ≡ 500 - 68 * c = length-replicate (500 - 68 * c) 0 in
    let t : S ≡ splice o 0 (block_front j c ++ R) = s ∙ splice-then o 0 (block_front j c) R 8 (omega arith) (omega arith) in
    ap (λ (l : List ℕ). with_check M (put_w (508 - (8 + 68 * c)) l (8 + 68 * c) (replicate (508 - (8 + 68 * c)) 0))) t
    ∙ rw (e, put_then (500 - 68 * c) o 0 (block_front j c ++ R) (replicate (500 - 68 * c) 0) (8 + 68 * c) (omega arith) (omega arith))
    (finish-law M o ((block_front j c ++ R) ++ replicate (500 - 68 * c) 0) h (length-payload j c R le lr))

-- a front, zeros and a check over the records that stand in a row
pub close-law : (M : ℕ) (o : List ℕ) (j c : ℕ) → length o ≡ 512 → c ≤ 7
    → with_check M (put_w (508 - (8 + 68 * c)) (splice o 0 (block_front j c)) (8 + 68 * c) (replicate (508 - (8 + 68 * c)) 0)) ≡ closed M o j c
close-law M o j c h le = with-law M o j c h le ∙ sym (closed_is M o j c h le)

pub block-law : (o : List ℕ) (j c : ℕ) (rs : List Record) (a : ℕ) → length o ≡ 512 → c ≤ 7 → Sized rs → a + c ≤ length rs
    → closed 65536 (splice o 8 (records_bytes rs a c)) j c ≡ block_of 65536 j rs a c
block-law o j c rs a h le s g =
    let R : List ℕ = records_bytes rs a c in
    let lr : length R ≡ 68 * c = length-records rs s a c g in
    let ls : length (splice o 8 R) ≡ 512 = length-splice o 8 R (omega arith) ∙ h in
    closed-records 65536 (splice o 8 R) j rs a c ls le (ap (part (splice o 8 R) 8) (sym lr) ∙ part_same o 8 R (omega arith))

head-law : (F : Form) (o : List ℕ) (n m : ℕ) → length o ≡ 512 → head_rest F ≡ replicate 492 0
    → with_check F.modulus (put_w 492 (put_w 4 (put_w 4 (put_w 2 (put_w 2 (put_w 4 o 0 (bytes 4 0)) 4 (bytes 2 1)) 6 (bytes 2 F.version)) 8 (bytes 4 n)) 12 (bytes 4 m)) 16 (replicate 492 0)) ≡ headed F o n m
unfolding head_of
head-law F o n m h z =
    let A : List ℕ = bytes 4 0 in
    let B : List ℕ = bytes 2 1 in
    let X : List ℕ = bytes 2 F.version in
    let N : List ℕ = bytes 4 n in
    let L : List ℕ = bytes 4 m in
    let Z : List ℕ = replicate 492 0 in
    let la : length A ≡ 4 = length-bytes 4 0 in
    let lb : length B ≡ 2 = length-bytes 2 1 in
    let lw : length X ≡ 2 = length-bytes 2 F.version in
    let ln : length N ≡ 4 = length-bytes 4 n in
    let lm : length L ≡ 4 = length-bytes 4 m in
    let lz : length Z ≡ 492 = length-replicate {A = ℕ} 492 0 in
    let l₁ : length (A ++ B) ≡ 6 = omega (arith, length-append A B) in
    let l₂ : length ((A ++ B) ++ X) ≡ 8 = omega (arith, length-append (A ++ B) X) in
    let l₃ : length (((A ++ B) ++ X) ++ N) ≡ 12 = omega (arith, length-append ((A ++ B) ++ X) N) in
    let l₄ : length ((((A ++ B) ++ X) ++ N) ++ L) ≡ 16 = omega (arith, length-append (((A ++ B) ++ X) ++ N) L) in
    let e : (((A ++ B) ++ X) ++ N) ++ L ≡ head_front F n m = simp append_assoc in
    let lv : length (head_front F n m ++ Z) ≡ 508 = omega (arith, length-append (head_front F n m) Z, length-head_front F n m) in
    rw (
      put_w-fits 4 o 0 A (omega arith),
      put_then 2 o 0 A B 4 (omega arith) (omega arith),
      put_then 2 o 0 (A ++ B) X 6 (omega arith) (omega arith),
      put_then 4 o 0 ((A ++ B) ++ X) N 8 (omega arith) (omega arith),
      put_then 4 o 0 (((A ++ B) ++ X) ++ N) L 12 (omega arith) (omega arith),
      put_then 492 o 0 ((((A ++ B) ++ X) ++ N) ++ L) Z 16 (omega arith) (omega arith),
      e,
    )
    (finish-law F.modulus o (head_front F n m ++ Z) h lv ∙ ap (λ (x : List ℕ). (head_front F n m ++ x) ++ check_of F.modulus (head_front F n m ++ x)) (sym z) ∙ sym (headed-is F o n m h))

-- the head of version 2
pub head-law-2 : (o : List ℕ) (n m : ℕ) → length o ≡ 512
    → with_check 65536 (put_w 492 (put_w 4 (put_w 4 (put_w 2 (put_w 2 (put_w 4 o 0 (bytes 4 0)) 4 (bytes 2 1)) 6 (bytes 2 2)) 8 (bytes 4 n)) 12 (bytes 4 m)) 16 (replicate 492 0)) ≡ headed version2 o n m
unfolding version2
head-law-2 o n m h = head-law version2 o n m h refl

-- where the writing of record blocks has come to, after j of them: the next leaf is k
pub record Progress (o mem : List ℕ) (n m : ℕ) (out : List ℕ) (j k : ℕ) : Type 0 where
  pub long : length out ≡ length o
  pub done : out ≡ splice o 512 (record_blocks 65536 (records_of n mem) j)
  pub leaf : k ≤ n
  pub place : length (records_below n mem k) + (m - 7 * j) ≡ m
  pub few : j ≤ blocks_for m

pub start : (o mem : List ℕ) (n m : ℕ) → records_below n mem 0 ≡ [] → Progress o mem n m o 0 0
unfolding record_blocks
start o mem n m e = record { long = refl; done = sym (splice-none o 512); leaf = omega arith; place = rw e (omega arith); few = omega arith }

-- the count of the next block, as the least of two
pub next-least : (left : ℕ) → min left 7 ≡ next7 left
next-least left =
    ⊎_elim
    (λ (h : left < 8). let e : next7 left ≡ left = next-few left (omega arith) in omega arith)
    (λ (h : 8 ≤ left). let e : next7 left ≡ 7 = next-full left (omega arith) in omega arith)
    (lt-or-ge left 8)

-- one block more
module _ (o mem : List ℕ) (n m : ℕ) (out : List ℕ) (j k : ℕ) (P : Progress o mem n m out j k) (em : m ≡ length (records_of n mem)) (more : j < blocks_for m) where
  pub at_block : length (records_below n mem k) ≡ 7 * j
  at_block = omega (arith, P.place)

  pub room : length (records_below n mem k) + next7 (m - 7 * j) ≤ length (records_of n mem)
  room = omega (arith, at_block, (next-bounds (m - 7 * j)).1)

  after : length (records_below n mem k) + next7 (m - 7 * j) + (m - 7 * (j + 1)) ≡ m
  after =
      ⊎_elim
      (λ (h : m - 7 * j < 8). omega (arith, at_block, next-few (m - 7 * j) (omega arith)))
      (λ (h : 8 ≤ m - 7 * j). omega (arith, at_block, next-full (m - 7 * j) (omega arith)))
      (lt-or-ge (m - 7 * j) 8)

  pub next-block : (k' c : ℕ) (b : List ℕ) → 64 * n ≤ length mem → 512 * (1 + blocks_for m) ≤ length o → c ≡ next7 (m - 7 * j)
      → b ≡ block_of 65536 (j + 1) (records_of n mem) (length (records_below n mem k)) c → k' ≤ n
      → length (records_below n mem k') ≡ length (records_below n mem k) + c
      → Progress o mem n m (splice out (512 * (j + 1)) b) (j + 1) k'
  unfolding record_blocks
  next-block k' c b long big ec e hk ek =
      let rs : List Record = records_of n mem in
      let s : Sized rs = records-sized n mem long in
      let f : b ≡ block_of 65536 (suc j) rs (7 * j) (next7 (length rs - 7 * j)) = e ∙ rw (ec, at_block, em, add-one j) in
      let lb : length b ≡ 512 = ap length e ∙ length-block 65536 (j + 1) rs (length (records_below n mem k)) c s (omega (arith, (next-bounds (m - 7 * j)).0)) (omega (arith, room)) in
      let ls : length (record_blocks 65536 rs j) ≡ 512 * j = length-blocks 65536 rs s j (omega arith) in
      record {
        long = length-splice out (512 * (j + 1)) b (omega (arith, P.long)) ∙ P.long;
        done = ap (λ (l : List ℕ). splice l (512 * (j + 1)) b) P.done
            ∙ splice-then o 512 (record_blocks 65536 rs j) b (512 * (j + 1)) (omega arith) (omega arith)
            ∙ rw (add-one j) (ap (λ (l : List ℕ). splice o 512 (record_blocks 65536 rs j ++ l)) f);
        leaf = hk;
        place = rw (ek, ec) after;
        few = omega arith;
      }

-- the head and the blocks after it
pub image-law : (o : List ℕ) (rs : List Record) (n m : ℕ) → m ≡ length rs → Sized rs → 512 * (1 + blocks_for m) ≤ length o
    → splice (splice o 0 (head_of version2 n m)) 512 (record_blocks 65536 rs (blocks_for m)) ≡ splice o 0 (encode version2 n rs)
unfolding encode version2
image-law o rs n m e s big =
    let lh : length (head_of version2 n m) ≡ 512 = length-head version2 n m fit-2.room in
    let lb : length (record_blocks 65536 rs (blocks_for m)) ≡ 512 * blocks_for m = length-blocks 65536 rs s (blocks_for m) (omega arith) in
    splice-then o 0 (head_of version2 n m) (record_blocks 65536 rs (blocks_for m)) 512 (omega arith) (omega arith)
    ∙ ap (λ (x : ℕ). splice o 0 (head_of version2 n x ++ record_blocks 65536 rs (blocks_for x))) e

-- where the writing of a block's records has come to, after i of them: the next leaf is `next`
pub record Written (o mem : List ℕ) (n k : ℕ) (row : List ℕ) (i next : ℕ) : Type 0 where
  pub long : length row ≡ length o
  pub done : row ≡ splice o 8 (records_bytes (records_of n mem) (length (records_below n mem k)) i)
  pub leaf : next ≤ n
  pub place : length (records_below n mem next) ≡ length (records_below n mem k) + i

pub first-record : (o mem : List ℕ) (n k : ℕ) → k ≤ n → Written o mem n k o 0 k
first-record o mem n k h =
    record { long = refl; done = sym (splice-none o 8) ∙ ap (splice o 8) (sym (records-none (records_of n mem) (length (records_below n mem k)))); leaf = h; place = omega arith }

-- one record more, of leaf `found`
module _ (o mem : List ℕ) (n k : ℕ) (row : List ℕ) (i next count found : ℕ) (W : Written o mem n k row i next) (less : i < count)
    (enough : length (records_below n mem k) + count ≤ length (records_of n mem)) (below : found ≤ n) (same : records_below n mem found ≡ records_below n mem next) where
  pub found-leaf : found < n
  found-leaf =
      ⊎_elim (λ l. l) (λ (g : n ≤ found). let e : found ≡ n = omega arith in absurd (omega (arith, W.place, ap length same, ap (λ (x : ℕ). length (records_below n mem x)) e))) (lt-or-ge found n)

  pub next-record : leaf_bit n mem found ≡ 1 → 64 * n ≤ length mem → 8 + 68 * count ≤ length o → (content : List ℕ) → content ≡ block_at mem found
      → Written o mem n k (put_w 68 row (8 + 68 * i) (bytes 4 found ++ content)) (i + 1) (found + 1)
  next-record b long room content same_bytes =
      let rs : List Record = records_of n mem in
      let a : ℕ = length (records_below n mem k) in
      let s : Sized rs = records-sized n mem long in
      let p : length (records_below n mem found) ≡ a + i = ap length same ∙ W.place in
      let g : get_or rs (a + i) none ≡ record_of mem found = ap (λ (x : ℕ). get_or rs x none) (sym p) ∙ below_at n mem n found found-leaf b in
      let lr : length (records_bytes rs a i) ≡ 68 * i = length-records rs s a i (omega arith) in
      let lb : length (record_bytes (record_of mem found)) ≡ 68 = length-record (record_of mem found) (length-part' mem (64 * found) 64 (omega (arith, found-leaf))) in
      rw (same_bytes, put_w-fits 68 row (8 + 68 * i) (record_bytes (record_of mem found)) (omega (arith, W.long)))
      (record {
        long = length-splice row (8 + 68 * i) (record_bytes (record_of mem found)) (omega (arith, W.long)) ∙ W.long;
        done = ap (λ (l : List ℕ). splice l (8 + 68 * i) (record_bytes (record_of mem found))) W.done
            ∙ splice-then o 8 (records_bytes rs a i) (record_bytes (record_of mem found)) (8 + 68 * i) (omega arith) (omega arith)
            ∙ ap (splice o 8) (ap (λ (r : Record). records_bytes rs a i ++ record_bytes r) (sym g) ∙ sym (records-more rs a i));
        leaf = omega (arith, found-leaf);
        place = omega (arith, length-take n mem found b);
      })
