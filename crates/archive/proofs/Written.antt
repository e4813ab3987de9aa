-- An encoding of good records is accepted: each block of it is the block that was written, and its fields are read back.
use mathlib.Core.Path.{◌≡◌, refl, ap, sym, ◌∙◌}
use mathlib.Core.List.{List, [], ◌++◌, append_assoc, append-nil}
use mathlib.Core.Bool.{Bool, true, false}
use mathlib.Core.Logic.{⊎_elim}
use Prim.Native.Nat.{ℕ, zero, suc, ◌+◌, ◌*◌, ◌/◌, ◌%◌, ◌-◌, ◌≤◌, ◌<◌}
use native.Mathlib.Nat.{eq-or-lt_of_le, le_of_suc-le-suc, not-suc-le-zero}
use native.Mathlib.Omega.{arith}
use lib.Dec.{eqb, leb}
use lib.ListN.{length, get_or, replicate, length-append, length-replicate}
use borrow.Author.Tests.{eq-eqb, eqb-false, le-leb}
use Rattle.laws.specs.Bytes.{part, bytes, number_at}
use Rattle.laws.proofs.Choice.{both_true, true-or-false}
use Rattle.laws.proofs.Scan.{all-is, all-at}
use Rattle.laws.proofs.Splice.{lt-or-ge}
use Rattle.laws.proofs.Value.{length-bytes}
use Rattle.geometry.specs.TagMemory.{in_limits}
use Rattle.geometry.proofs.Limits.{in_limits-most}
use Rattle.block.specs.Block.{all_zero}
use Rattle.sums.specs.Check.{check_of, check_right}
use Rattle.form.specs.Encode.{Form, Fit, Sized, Record, none, record_bytes, records_bytes, head_front, head_rest, head_of, block_front, block_with, block_of, next7, record_blocks, blocks_for, encode}
use Rattle.form.specs.Test.{whole_blocks, image_block, number_of, kind_of, version_of, leaves_of, recorded_of, count_of, record_in, record_at, unused_zero, head_sound, count_right, block_sound, sound_at, record_count, lowest, good_above, good_record, version_in, leaves_in, recorded_in, checks_right, test_by, same}
use Rattle.laws.proofs.Parts.{piece, part_left, part_right, part-part, number, number_at-part}
use Rattle.form.proofs.Sound.{head-by, block-by, sound-head, sound-block, count-last, count-full, records-none, records-by}
use Rattle.form.proofs.Rules.{is-accepted, good-is, good-above, good-below, good-some}
use Rattle.form.proofs.Records.{length-head_front, length_rest, length-headed, length-head, length-block_front, length-records, length-record, length-payload, length-block, length-blocks, length-encode, next-few, next-full, next-bounds}
use Rattle.archive.specs.Theorems.{listed, Good}
use Rattle.form.proofs.Rows.{zeros-zero, same_self}
use Rattle.sums.proofs.Right.{sealed-right}

head-flat : (A B X N L Z C : List ℕ) → ((A ++ (B ++ (X ++ (N ++ L)))) ++ Z) ++ C ≡ A ++ (B ++ (X ++ (N ++ (L ++ (Z ++ C)))))
head-flat A B X N L Z C = simp append_assoc

block-flat : (A B X R Z C : List ℕ) → (((A ++ (B ++ X)) ++ R) ++ Z) ++ C ≡ A ++ (B ++ (X ++ (R ++ (Z ++ C))))
block-flat A B X R Z C = simp append_assoc

from_second : (A B T : List ℕ) → A ++ (B ++ T) ≡ (A ++ B) ++ T
from_second A B T = simp append_assoc

from-third : (A B X T : List ℕ) → A ++ (B ++ (X ++ T)) ≡ (A ++ (B ++ X)) ++ T
from-third A B X T = simp append_assoc

from-fourth : (A B X N T : List ℕ) → A ++ (B ++ (X ++ (N ++ T))) ≡ ((A ++ (B ++ X)) ++ N) ++ T
from-fourth A B X N T = simp append_assoc

-- the head's fields
module _ (F : Form) (n m : ℕ) (hn : n < 4294967296) (hm : m < 4294967296) (fit : Fit F) where
  abbrev C : List ℕ
  C = check_of F.modulus (head_front F n m ++ head_rest F)

  head-is : head_of F n m ≡ bytes 4 0 ++ (bytes 2 1 ++ (bytes 2 F.version ++ (bytes 4 n ++ (bytes 4 m ++ (head_rest F ++ C)))))
  unfolding head_of
  head-is = head-flat (bytes 4 0) (bytes 2 1) (bytes 2 F.version) (bytes 4 n) (bytes 4 m) (head_rest F) C

  pub head-number : number_of (head_of F n m) ≡ 0
  head-number = number (head_of F n m) [] (bytes 2 1 ++ (bytes 2 F.version ++ (bytes 4 n ++ (bytes 4 m ++ (head_rest F ++ C))))) 0 4 0 head-is refl (omega arith)

  pub head-kind : kind_of (head_of F n m) ≡ 1
  head-kind = number (head_of F n m) (bytes 4 0) (bytes 2 F.version ++ (bytes 4 n ++ (bytes 4 m ++ (head_rest F ++ C)))) 4 2 1 head-is (length-bytes 4 0) (omega arith)

  pub head-version : version_of (head_of F n m) ≡ F.version
  head-version =
      number (head_of F n m) (bytes 4 0 ++ bytes 2 1) (bytes 4 n ++ (bytes 4 m ++ (head_rest F ++ C))) 6 2 F.version (head-is ∙ from_second (bytes 4 0) (bytes 2 1) (bytes 2 F.version ++ (bytes 4 n ++ (bytes 4 m ++ (head_rest F ++ C)))))
      (omega (arith, length-append (bytes 4 0) (bytes 2 1), length-bytes 4 0, length-bytes 2 1)) (omega (arith, fit.number))

  l₈ : length (bytes 4 0 ++ (bytes 2 1 ++ bytes 2 F.version)) ≡ 8
  l₈ = omega (arith, length-append (bytes 4 0) (bytes 2 1 ++ bytes 2 F.version), length-append (bytes 2 1) (bytes 2 F.version), length-bytes 4 0, length-bytes 2 1, length-bytes 2 F.version)

  pub head-leaves : leaves_of (head_of F n m) ≡ n
  head-leaves =
      number (head_of F n m) (bytes 4 0 ++ (bytes 2 1 ++ bytes 2 F.version)) (bytes 4 m ++ (head_rest F ++ C)) 8 4 n (head-is ∙ from-third (bytes 4 0) (bytes 2 1) (bytes 2 F.version) (bytes 4 n ++ (bytes 4 m ++ (head_rest F ++ C)))) l₈ (omega arith)

  pub head-recorded : recorded_of (head_of F n m) ≡ m
  head-recorded =
      number (head_of F n m) ((bytes 4 0 ++ (bytes 2 1 ++ bytes 2 F.version)) ++ bytes 4 n) (head_rest F ++ C) 12 4 m (head-is ∙ from-fourth (bytes 4 0) (bytes 2 1) (bytes 2 F.version) (bytes 4 n) (bytes 4 m ++ (head_rest F ++ C)))
      (omega (arith, length-append (bytes 4 0 ++ (bytes 2 1 ++ bytes 2 F.version)) (bytes 4 n), l₈, length-bytes 4 n)) (omega arith)

  pub head-rest : part (head_of F n m) 16 492 ≡ head_rest F
  unfolding head_of
  head-rest = piece (head_of F n m) (head_front F n m) (head_rest F) C 16 492 (append_assoc (head_front F n m) (head_rest F) C) (length-head_front F n m) (length_rest F fit.room)

  pub head-sound : in_limits n ≡ true → head_sound F (head_of F n m) ≡ true
  head-sound h =
      head-by F (head_of F n m) (length-head F n m fit.room)
      ∙ both_true _ _ (eq-eqb _ _ head-number)
      (both_true _ _ (eq-eqb _ _ head-kind)
      (both_true _ _ (eq-eqb _ _ head-version) (both_true _ _ (ap in_limits head-leaves ∙ h) (ap (λ (x : List ℕ). same x (head_rest F)) head-rest ∙ same_self (head_rest F)))))

  pub head-right : check_right F.modulus (head_of F n m) ≡ true
  unfolding head_of
  head-right = sealed-right F.modulus fit.some fit.most (head_front F n m ++ head_rest F) (length-headed F n m fit.room)

-- records in their bytes
pub record-part : (rs : List Record) → Sized rs → (a c i : ℕ) → a + c ≤ length rs → i < c → part (records_bytes rs a c) (68 * i) 68 ≡ record_bytes (get_or rs (a + i) none)
unfolding records_bytes Sized
record-part rs s a zero i h l = absurd (not-suc-le-zero l)
record-part rs s a (suc c) i h l =
    let R : List ℕ = records_bytes rs a c in
    let r : Record = get_or rs (a + c) none in
    let l_r : length R ≡ 68 * c = length-records rs s a c (omega arith) in
    let lr : length (record_bytes r) ≡ 68 = length-record r (s (a + c) (omega arith)) in
    ⊎_elim
    (λ (e : i ≡ c). rw e (piece (R ++ record_bytes r) R (record_bytes r) [] (68 * c) 68 (ap (λ (x : List ℕ). R ++ x) (sym (append-nil (record_bytes r)))) l_r lr))
    (λ (q : i < c). part_left R (record_bytes r) (68 * i) 68 (omega arith) ∙ record-part rs s a c i (omega arith) q)
    (eq-or-lt_of_le (le_of_suc-le-suc l))

-- a record block's fields
module _ (M j : ℕ) (rs : List Record) (s : Sized rs) (a c : ℕ) (h : a + c ≤ length rs) (hc : c ≤ 7) (hj : j < 4294967296) where
  abbrev R : List ℕ
  R = records_bytes rs a c

  abbrev Z : List ℕ
  Z = replicate (500 - 68 * c) 0

  abbrev D : List ℕ
  D = check_of M ((block_front j c ++ R) ++ Z)

  l_r : length R ≡ 68 * c
  l_r = length-records rs s a c h

  lb : length (block_of M j rs a c) ≡ 512
  lb = length-block M j rs a c s hc h

  block-is : block_of M j rs a c ≡ bytes 4 j ++ (bytes 2 2 ++ (bytes 2 c ++ (R ++ (Z ++ D))))
  unfolding block_with
  block-is = block-flat (bytes 4 j) (bytes 2 2) (bytes 2 c) R Z D

  pub block-number : number_of (block_of M j rs a c) ≡ j
  block-number = number (block_of M j rs a c) [] (bytes 2 2 ++ (bytes 2 c ++ (R ++ (Z ++ D)))) 0 4 j block-is refl (omega arith)

  pub block-kind : kind_of (block_of M j rs a c) ≡ 2
  block-kind = number (block_of M j rs a c) (bytes 4 j) (bytes 2 c ++ (R ++ (Z ++ D))) 4 2 2 block-is (length-bytes 4 j) (omega arith)

  pub block-count : count_of (block_of M j rs a c) ≡ c
  block-count =
      number (block_of M j rs a c) (bytes 4 j ++ bytes 2 2) (R ++ (Z ++ D)) 6 2 c (block-is ∙ from_second (bytes 4 j) (bytes 2 2) (bytes 2 c ++ (R ++ (Z ++ D))))
      (omega (arith, length-append (bytes 4 j) (bytes 2 2), length-bytes 4 j, length-bytes 2 2)) (omega arith)

  block-records : part (block_of M j rs a c) 8 (68 * c) ≡ R
  block-records = piece (block_of M j rs a c) (block_front j c) R (Z ++ D) 8 (68 * c) (block-is ∙ from-third (bytes 4 j) (bytes 2 2) (bytes 2 c) (R ++ (Z ++ D))) (length-block_front j c) l_r

  block-zeros : part (block_of M j rs a c) (8 + 68 * c) (508 - (8 + 68 * c)) ≡ replicate (508 - (8 + 68 * c)) 0
  block-zeros =
      let e : 508 - (8 + 68 * c) ≡ 500 - 68 * c = omega arith in
      rw e
      (piece (block_of M j rs a c) (block_front j c ++ R) Z D (8 + 68 * c) (500 - 68 * c) (block-is ∙ from-fourth (bytes 4 j) (bytes 2 2) (bytes 2 c) R (Z ++ D))
      (omega (arith, length-append (block_front j c) R, length-block_front j c, l_r)) (length-replicate {A = ℕ} (500 - 68 * c) 0))

  unused : unused_zero (block_of M j rs a c) (8 + 68 * count_of (block_of M j rs a c)) ≡ true
  unused = rw (block-count, block-zeros) (zeros-zero (508 - (8 + 68 * c)))

  pub block-sound : (last : Bool) → count_right last c ≡ true → block_sound last j (block_of M j rs a c) ≡ true
  block-sound last r =
      block-by last j (block_of M j rs a c) lb (ap (count_right last) block-count ∙ r)
      ∙ both_true _ _ (eq-eqb _ _ block-number) (both_true _ _ (eq-eqb _ _ block-kind) unused)

  pub block-right : 1 < M → M ≤ 65536 → check_right M (block_of M j rs a c) ≡ true
  unfolding block_with
  block-right x y = sealed-right M x y ((block_front j c ++ R) ++ Z) (length-payload j c R hc l_r)

  pub block-record : (i : ℕ) → i < c → (get_or rs (a + i) none).leaf < 4294967296 → record_in (block_of M j rs a c) i ≡ get_or rs (a + i) none
  unfolding Sized
  block-record i l q =
      let b : List ℕ = block_of M j rs a c in
      let r : Record = get_or rs (a + i) none in
      let K : List ℕ = part b (8 + 68 * i) 68 in
      let k : K ≡ bytes 4 r.leaf ++ r.content =
      sym (part-part b 8 (68 * c) (68 * i) 68 (omega (arith, lb)) (omega arith)) ∙ ap (λ (x : List ℕ). part x (68 * i) 68) block-records ∙ record-part rs s a c i h l in
      let e₀ : 8 + 68 * i + 0 ≡ 8 + 68 * i = omega arith in
      let e₄ : 8 + 68 * i + 4 ≡ 12 + 68 * i = omega arith in
      let f : number_at 4 b (8 + 68 * i) ≡ r.leaf =
      ap (number_at 4 b) (sym e₀) ∙ sym (number_at-part 4 b (8 + 68 * i) 68 0 (omega (arith, lb)) (omega arith)) ∙ number K [] r.content 0 4 r.leaf k refl (omega arith) in
      let g : part b (12 + 68 * i) 64 ≡ r.content =
      ap (λ (x : ℕ). part b x 64) (sym e₄) ∙ sym (part-part b (8 + 68 * i) 68 4 64 (omega (arith, lb)) (omega arith))
      ∙ piece K (bytes 4 r.leaf) r.content [] 4 64 (k ∙ ap (λ (x : List ℕ). bytes 4 r.leaf ++ x) (sym (append-nil r.content))) (length-bytes 4 r.leaf) (s (a + i) (omega arith)) in
      λ x. record { leaf = f x; content = g x }

-- the blocks of an encoding
pub blocks_at : (M : ℕ) (rs : List Record) → Sized rs → (J j : ℕ) → 7 * J ≤ length rs + 6 → j < J
    → part (record_blocks M rs J) (512 * j) 512 ≡ block_of M (suc j) rs (7 * j) (next7 (length rs - 7 * j))
unfolding record_blocks
blocks_at M rs s zero j h l = absurd (not-suc-le-zero l)
blocks_at M rs s (suc J) j h l =
    let B : List ℕ = block_of M (suc J) rs (7 * J) (next7 (length rs - 7 * J)) in
    let l_b : length B ≡ 512 = length-block M (suc J) rs (7 * J) (next7 (length rs - 7 * J)) s (next-bounds (length rs - 7 * J)).0 (omega (arith, (next-bounds (length rs - 7 * J)).1)) in
    let l_j : length (record_blocks M rs J) ≡ 512 * J = length-blocks M rs s J (omega arith) in
    ⊎_elim
    (λ (e : j ≡ J). rw e (piece (record_blocks M rs J ++ B) (record_blocks M rs J) B [] (512 * J) 512 (ap (λ (x : List ℕ). record_blocks M rs J ++ x) (sym (append-nil B))) l_j l_b))
    (λ (q : j < J). part_left (record_blocks M rs J) B (512 * j) 512 (omega arith) ∙ blocks_at M rs s J j (omega arith) q)
    (eq-or-lt_of_le (le_of_suc-le-suc l))

-- records that are good where others are the same
pub good-same : (n : ℕ) (f g : ℕ → Record) (p : ℕ) → ((q : ℕ) → q ≤ p → f q ≡ g q) → good_record n 0 f p ≡ good_record n 0 g p
unfolding good_record lowest
good-same n f g zero e = rw (e zero (omega arith))
good-same n f g (suc p) e = rw (e p (omega arith), e (suc p) (omega arith))

-- what a good record says
module _ (n : ℕ) (f : ℕ → Record) (p : ℕ) (g : good_record n 0 f p ≡ true) where
  above : good_above n (lowest 0 f p) (f p) ≡ true
  above = sym (good-is n 0 f p (lowest 0 f p) refl) ∙ g

  pub leaf-above : lowest 0 f p ≤ (f p).leaf
  leaf-above = good-above n _ _ above

  pub leaf-below : (f p).leaf < n
  leaf-below = good-below n _ _ above

  pub leaf-some : all_zero (f p).content ≡ false
  leaf-some = good-some n _ _ above

pub under7 : (left i : ℕ) → i < 7 → i < left → i < next7 left
under7 left i h l =
    ⊎_elim
    (λ (q : left < 8). omega (arith, next-few left (omega arith)))
    (λ (q : 8 ≤ left). omega (arith, next-full left (omega arith)))
    (lt-or-ge left 8)

one_more : (j : ℕ) → 1 + j ≡ suc j
one_more j = omega arith

-- an encoding's blocks, its count and its records
module _ (F : Form) (fit : Fit F) (n : ℕ) (rs : List Record) (hn : in_limits n ≡ true) (G : Good n rs) (few : length rs ≤ n) where
  abbrev m : ℕ
  m = length rs

  abbrev J : ℕ
  J = blocks_for (length rs)

  abbrev image : List ℕ
  image = encode F n rs

  most : n ≤ 262144
  most = in_limits-most 1 n hn

  long : length image ≡ 512 * (1 + J)
  long = length-encode F n rs fit.room G.sized

  whole : whole_blocks image ≡ 1 + J
  whole = omega (arith, long)

  pub first_block : image_block image 0 ≡ head_of F n m
  unfolding encode
  first_block = piece image [] (head_of F n m) (record_blocks F.modulus rs J) 0 512 refl refl (length-head F n m fit.room)

  pub later-block : (j : ℕ) → j < J → image_block image (suc j) ≡ block_of F.modulus (suc j) rs (7 * j) (next7 (m - 7 * j))
  unfolding encode
  later-block j l =
      let e : 512 * suc j ≡ 512 + 512 * j = omega arith in
      rw e (part_right (head_of F n m) (record_blocks F.modulus rs J) 512 (512 * j) 512 (length-head F n m fit.room) ∙ blocks_at F.modulus rs G.sized J j (omega arith) l)

  module _ (j : ℕ) (l : j < J) where
    abbrev c : ℕ
    c = next7 (m - 7 * j)

    fits : 7 * j + c ≤ m
    fits = omega (arith, (next-bounds (m - 7 * j)).1)

    counted : (last : Bool) → last ≡ eqb (suc j + 1) (whole_blocks image) → count_right last c ≡ true
    counted last e =
        ⊎_elim
        (λ (t : last ≡ true). count-last last c t ∙ both_true (leb 1 c) (leb c 7) (le-leb 1 c (omega (arith, (next-bounds (m - 7 * j)).2 (omega arith)))) (le-leb c 7 (next-bounds (m - 7 * j)).0))
        (λ (t : last ≡ false).
        let ne : suc j + 1 ≡ whole_blocks image → ⊥ = eqb-false (suc j + 1) (whole_blocks image) (sym e ∙ t) in
        let lt : suc j < J = ⊎_elim (λ (q : suc j < J). q) (λ (q : J ≤ suc j). absurd (ne (omega (arith, whole)))) (lt-or-ge (suc j) J) in
        count-full last c t ∙ eq-eqb c 7 (next-full (m - 7 * j) (omega arith)))
        (true-or-false last)

    later-sound : sound_at F image (suc j) ≡ true
    later-sound =
        sound-block F image (suc j) (λ e. absurd (omega arith))
        ∙ ap (block_sound (eqb (suc j + 1) (whole_blocks image)) (suc j)) (later-block j l)
        ∙ block-sound F.modulus (suc j) rs G.sized (7 * j) c fits (next-bounds (m - 7 * j)).0 (omega (arith, most)) (eqb (suc j + 1) (whole_blocks image)) (counted (eqb (suc j + 1) (whole_blocks image)) refl)

    later-right : check_right F.modulus (image_block image (suc j)) ≡ true
    later-right = ap (check_right F.modulus) (later-block j l) ∙ block-right F.modulus (suc j) rs G.sized (7 * j) c fits (next-bounds (m - 7 * j)).0 (omega (arith, most)) fit.some fit.most

  all_right : (j : ℕ) → j < whole_blocks image → check_right F.modulus (image_block image j) ≡ true
  all_right zero l = ap (check_right F.modulus) first_block ∙ head-right F n m (omega (arith, most)) (omega (arith, most)) fit
  all_right (suc j) l = later-right j (omega (arith, whole))

  all_sound : (j : ℕ) → j < whole_blocks image → sound_at F image j ≡ true
  all_sound zero l = sound-head F image 0 refl ∙ ap (head_sound F) first_block ∙ head-sound F n m (omega (arith, most)) (omega (arith, most)) fit hn
  all_sound (suc j) l = later-sound j (omega (arith, whole))

  pub version-is : version_in image ≡ F.version
  version-is = ap version_of first_block ∙ head-version F n m (omega (arith, most)) (omega (arith, most)) fit

  pub leaves-are : leaves_in image ≡ n
  leaves-are = ap leaves_of first_block ∙ head-leaves F n m (omega (arith, most)) (omega (arith, most)) fit

  pub recorded-are : recorded_in image ≡ m
  recorded-are = ap recorded_of first_block ∙ head-recorded F n m (omega (arith, most)) (omega (arith, most)) fit

  count-is : record_count image ≡ m
  count-is =
      ⊎_elim
      (λ (q : J < 1). records-none image (omega (arith, whole)) ∙ (omega arith))
      (λ (q : 1 ≤ J).
      let j : ℕ = J - 1 in
      let e : whole_blocks image - 1 ≡ suc j = omega (arith, whole) in
      let f : count_of (image_block image (suc j)) ≡ next7 (m - 7 * j) =
      ap count_of (later-block j (omega arith)) ∙ block-count F.modulus (suc j) rs G.sized (7 * j) (next7 (m - 7 * j)) (fits j (omega arith)) (next-bounds (m - 7 * j)).0 (omega (arith, most)) in
      let g : next7 (m - 7 * j) ≡ m - 7 * j = next-few (m - 7 * j) (omega arith) in
      records-by image (omega (arith, whole)) ∙ rw (e, f, g) (omega (arith, whole)))
      (lt-or-ge J 1)

  good-at : (p : ℕ) → p < m → good_record n 0 (listed rs) p ≡ true
  good-at p l = all-at (good_record n 0 (listed rs)) m G.each p l

  pub record_is : (p : ℕ) → p < m → record_at image p ≡ listed rs p
  record_is p l =
      let j : ℕ = p / 7 in
      let e : 7 * j + p % 7 ≡ p = omega arith in
      let b : (get_or rs (7 * j + p % 7) none).leaf < 4294967296 = rw e (omega (arith, most, leaf-below n (listed rs) p (good-at p l))) in
      let k : p % 7 < next7 (m - 7 * j) = under7 (m - 7 * j) (p % 7) (omega arith) (omega arith) in
      ap (λ (x : List ℕ). record_in x (p % 7)) (ap (image_block image) (one_more j) ∙ later-block j (omega arith))
      ∙ block-record F.modulus (suc j) rs G.sized (7 * j) (next7 (m - 7 * j)) (fits j (omega arith)) (next-bounds (m - 7 * j)).0 (omega (arith, most)) (p % 7) k b
      ∙ ap (listed rs) e

  pub encoding-accepted : test_by F image ≡ 0
  unfolding checks_right
  encoding-accepted =
      is-accepted F image (record {
        some = omega (arith, long);
        whole = omega (arith, long);
        checks = all-is (λ j. check_right F.modulus (image_block image j)) (whole_blocks image) all_right;
        sound = all-is (sound_at F image) (whole_blocks image) all_sound;
        count = recorded-are ∙ sym count-is;
        good = rw (leaves-are, count-is) (all-is (good_record n 0 (record_at image)) m (λ p l.
            good-same n (record_at image) (listed rs) p (λ q k. record_is q (omega arith)) ∙ good-at p l));
      })
