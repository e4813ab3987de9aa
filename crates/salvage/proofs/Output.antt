-- The records of a list put one after the other into an output that has room, each block closed when it is full and the last one at the end, make the record blocks of the list; entries put one after the other make the list in front.
use mathlib.Core.Path.{◌≡◌, ap, sym, ◌∙◌}
use mathlib.Core.List.{List, [], ◌∷◌, ◌++◌}
use mathlib.Core.Logic.{⊎_elim}
use Prim.Native.Nat.{ℕ, zero, suc, ◌+◌, ◌*◌, ◌/◌, ◌%◌, ◌-◌, ◌≤◌, ◌<◌}
use native.Mathlib.Omega.{arith}
use lib.ListN.{length, take, get_or, set, length-take}
use lib.Seq.{take_all}
use Rattle.laws.specs.Bytes.{part, splice, put_w}
use Rattle.laws.proofs.Splice.{lt-or-ge, length-splice, length-part', part_same, splice-over}
use Rattle.laws.proofs.Put.{put_w-fits}
use Rattle.laws.proofs.Parts.{part-part}
use Rattle.laws.proofs.Writes.{splice-none, splice-then, splice-copy}
use Rattle.form.specs.Encode.{version2, Record, none, Sized, record_bytes, records_bytes, head_of, closed, block_of, next7, record_blocks, blocks_for, encode}
use Rattle.form.proofs.Sound.{fit-2}
use Rattle.form.proofs.Records.{closed-records, records-none, records-more, length-records, length-head, length-block, length-blocks, next-few, next-full}
use Rattle.writing.proofs.Blocks.{image-law}
use Rattle.salvage.specs.Walk.{record_place, closed_at, with_records, last_closed, with_entries}
use Rattle.salvage.proofs.Walk.{record-mid, record-full, last-full, last-part, entry_set, with-more, entries-more}

next-7 : (left : ℕ) → 7 ≤ left → next7 left ≡ 7
next-7 left h =
    ⊎_elim (λ (l : left < 8). let e : left ≡ 7 = omega arith in next-few left (omega arith) ∙ e) (λ (l : 8 ≤ left). next-full left (omega arith)) (lt-or-ge left 8)

module _ (o : List ℕ) (rs : List Record) (s : Sized rs) (room : 512 * (1 + blocks_for (length rs)) ≤ length o) where
  -- the first j blocks, and with them c records of the next
  abbrev blocks : ℕ → List ℕ
  blocks j = record_blocks 65536 rs j

  abbrev filled : ℕ → List ℕ
  filled j = splice o 512 (blocks j)

  abbrev partly : ℕ → ℕ → List ℕ
  partly j c = splice (filled j) (512 * (1 + j) + 8) (records_bytes rs (7 * j) c)

  long-blocks : (j : ℕ) → 7 * j ≤ length rs → length (blocks j) ≡ 512 * j
  long-blocks j h = length-blocks 65536 rs s j (omega arith)

  long_filled : (j : ℕ) → 7 * j ≤ length rs → length (filled j) ≡ length o
  long_filled j h = length-splice o 512 (blocks j) (omega (arith, long-blocks j h))

  -- such a block closed
  closes : (j c : ℕ) → 0 < c → c ≤ 7 → 7 * j + c ≤ length rs → closed_at (partly j c) (1 + j) c ≡ splice o 512 (blocks j ++ block_of 65536 (1 + j) rs (7 * j) c)
  unfolding closed_at
  closes j c z h g =
      let a : ℕ = 512 * (1 + j) in
      let R : List ℕ = records_bytes rs (7 * j) c in
      let X : List ℕ = partly j c in
      let K : List ℕ = block_of 65536 (1 + j) rs (7 * j) c in
      let lb : length (blocks j) ≡ 512 * j = long-blocks j (omega arith) in
      let lf : length (filled j) ≡ length o = long_filled j (omega arith) in
      let lr : length R ≡ 68 * c = length-records rs s (7 * j) c g in
      let lx : length X ≡ length o = length-splice (filled j) (a + 8) R (omega arith) ∙ lf in
      let lk : length K ≡ 512 = length-block 65536 (1 + j) rs (7 * j) c s h g in
      let row : part (part X a 512) 8 (68 * c) ≡ R =
      part-part X a 512 8 (68 * c) (omega arith) (omega arith) ∙ ap (part X (a + 8)) (sym lr) ∙ part_same (filled j) (a + 8) R (omega arith) in
      let k : closed 65536 (part X a 512) (1 + j) c ≡ K = closed-records 65536 (part X a 512) (1 + j) rs (7 * j) c (length-part' X a 512 (omega arith)) h row in
      ap (put_w 512 X a) k ∙ put_w-fits 512 X a K (omega arith) ∙ splice-over (filled j) a K (a + 8) R (omega arith) (omega arith) (omega arith)
      ∙ splice-then o 512 (blocks j) K a (omega arith) (omega arith)

  -- one record more in the next block
  placed : (j c : ℕ) → c ≤ 6 → 7 * j + c < length rs → with_records o rs (7 * j + c) ≡ partly j c
      → put_w 68 (with_records o rs (7 * j + c)) (record_place (7 * j + c)) (record_bytes (get_or rs (7 * j + c) none)) ≡ partly j (c + 1)
  placed j c h g before =
      let p : ℕ = record_place (7 * j + c) in
      let a : ℕ = 512 * (1 + j) + 8 in
      let R : List ℕ = records_bytes rs (7 * j) c in
      let b : List ℕ = record_bytes (get_or rs (7 * j + c) none) in
      let lr : length R ≡ 68 * c = length-records rs s (7 * j) c (omega arith) in
      let lf : length (filled j) ≡ length o = long_filled j (omega arith) in
      let lx : length (partly j c) ≡ length o = length-splice (filled j) a R (omega arith) ∙ lf in
      let q : p ≡ a + length R = omega arith in
      ap (λ (x : List ℕ). put_w 68 x p b) before ∙ put_w-fits 68 (partly j c) p b (omega arith) ∙ splice-then (filled j) a R b p q (omega arith)
      ∙ ap (splice (filled j) a) (sym (records-more rs (7 * j) c))

  some-records : (j : ℕ) → with_records o rs (7 * j) ≡ filled j → (c : ℕ) → c ≤ 6 → 7 * j + c ≤ length rs → with_records o rs (7 * j + c) ≡ partly j c
  some-records j before zero h g =
      let e : 7 * j + zero ≡ 7 * j = omega arith in
      ap (with_records o rs) e ∙ before ∙ sym (ap (splice (filled j) (512 * (1 + j) + 8)) (records-none rs (7 * j)) ∙ splice-none (filled j) (512 * (1 + j) + 8))
  some-records j before (suc c) h g =
      let e : 7 * j + suc c ≡ 7 * j + c + 1 = omega arith in
      let f : c + 1 ≡ suc c = omega arith in
      ap (with_records o rs) e ∙ with-more o rs (7 * j + c) ∙ record-mid (with_records o rs (7 * j + c)) (7 * j + c) (record_bytes (get_or rs (7 * j + c) none)) (λ q. absurd (omega arith))
      ∙ placed j c (omega arith) (omega arith) (some-records j before c (omega arith) (omega arith)) ∙ ap (partly j) f

  -- full blocks
  full-records : (j : ℕ) → 7 * j ≤ length rs → with_records o rs (7 * j) ≡ filled j
  unfolding with_records record_blocks
  full-records zero h = sym (splice-none o 512)
  full-records (suc j) h =
      let p : ℕ = 7 * j + 6 in
      let b : List ℕ = record_bytes (get_or rs p none) in
      let e : 7 * suc j ≡ p + 1 = omega arith in
      let d : 1 + p / 7 ≡ 1 + j = omega arith in
      let n : 1 + j ≡ suc j = omega arith in
      let f : with_records o rs p ≡ partly j 6 = some-records j (full-records j (omega arith)) 6 (omega arith) (omega arith) in
      ap (with_records o rs) e ∙ with-more o rs p ∙ record-full (with_records o rs p) p b (omega arith)
      ∙ (λ i. closed_at (placed j 6 (omega arith) (omega arith) f i) (d i) 7) ∙ closes j 7 (omega arith) (omega arith) (omega arith)
      ∙ (λ i. splice o 512 (blocks j ++ block_of 65536 (n i) rs (7 * j) (sym (next-7 (length rs - 7 * j) (omega arith)) i)))

  -- all of them, and the last block closed
  pub all-records : last_closed (with_records o rs (length rs)) (length rs) ≡ splice o 512 (record_blocks 65536 rs (blocks_for (length rs)))
  unfolding record_blocks
  all-records =
      let m : ℕ = length rs in
      let j : ℕ = m / 7 in
      let c : ℕ = m % 7 in
      ⊎_elim
      (λ (l : c < 1).
      let e : 7 * j ≡ m = omega arith in
      let g : blocks_for m ≡ j = omega arith in
      last-full (with_records o rs m) m (omega arith) ∙ ap (with_records o rs) (sym e) ∙ full-records j (omega arith) ∙ ap filled (sym g))
      (λ (l : 1 ≤ c).
      let e : 7 * j + c ≡ m = omega arith in
      let g : suc j ≡ blocks_for m = omega arith in
      let n : 1 + j ≡ suc j = omega arith in
      let k : m - 7 * j ≡ c = omega arith in
      last-part (with_records o rs m) m (λ q. absurd (omega arith))
      ∙ ap (λ (x : List ℕ). closed_at x (1 + j) c) (ap (with_records o rs) (sym e) ∙ some-records j (full-records j (omega arith)) c (omega arith) (omega arith))
      ∙ closes j c (omega arith) (omega arith) (omega arith)
      ∙ (λ i. splice o 512 (blocks j ++ block_of 65536 (n i) rs (7 * j) (sym (ap next7 k ∙ next-few c (omega arith)) i)))
      ∙ ap filled g)
      (lt-or-ge c 1)

-- the entries
entries-are : (l es : List ℕ) → length es ≤ length l → (k : ℕ) → k ≤ length es → with_entries l es k ≡ splice l 0 (take k es)
unfolding with_entries
entries-are l es h zero g = sym (splice-none l 0)
entries-are l es h (suc k) g =
    let X : List ℕ = splice l 0 (take k es) in
    let z : 0 + k ≡ k = omega arith in
    let lx : length X ≡ length l = length-splice l 0 (take k es) (simp length-take (omega arith)) in
    let e : k + 1 ≡ suc k = omega arith in
    ap (with_entries l es) (sym e) ∙ entries-more l es k ∙ ap (λ (x : List ℕ). put_w 1 x k (get_or es k 0 ∷ [])) (entries-are l es h k (omega arith))
    ∙ sym (entry_set X k (get_or es k 0) (omega arith)) ∙ ap (λ (x : ℕ). set X x (get_or es k 0)) (sym z) ∙ splice-copy l 0 es k (omega arith) (omega arith)
    ∙ ap (λ (x : ℕ). splice l 0 (take x es)) e

pub all-entries : (l es : List ℕ) → length es ≤ length l → with_entries l es (length es) ≡ splice l 0 es
all-entries l es h = entries-are l es h (length es) (omega arith) ∙ ap (splice l 0) (take_all (length es) es (omega arith))

-- a head, the records and the last block closed: the image of the records, in front of the output
pub new-image : (o : List ℕ) (rs : List Record) (n m : ℕ) → Sized rs → m ≡ length rs → 512 * (1 + blocks_for m) ≤ length o
    → last_closed (with_records (splice o 0 (head_of version2 n m)) rs (length rs)) (length rs) ≡ splice o 0 (encode version2 n rs)
new-image o rs n m s e room =
    let H : List ℕ = splice o 0 (head_of version2 n m) in
    let lh : length (head_of version2 n m) ≡ 512 = length-head version2 n m fit-2.room in
    let lo : length H ≡ length o = length-splice o 0 (head_of version2 n m) (omega arith) in
    all-records H rs s (omega arith) ∙ ap (λ (x : ℕ). splice H 512 (record_blocks 65536 rs (blocks_for x))) (sym e) ∙ image-law o rs n m e s room
