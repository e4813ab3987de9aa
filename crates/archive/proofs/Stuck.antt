-- A stuck line: in an accepted image that is not of version 1, every other value of a word of bytes 0 to 507 is refused with 10. Sum a alone tells them apart, but for the version word made 1: that is `VersionWord`.
-- By the old rule it does not: an image of version 1 whose word 0000 became FFFF is accepted.
use mathlib.Core.Path.{◌≡◌, refl, ap, sym, ◌∙◌}
use mathlib.Core.List.{List, [], ◌∷◌}
use mathlib.Core.Bool.{true, false}
use mathlib.Core.Logic.{⊎_elim}
use Prim.Native.Nat.{ℕ, ◌+◌, ◌*◌, ◌≤◌, ◌<◌}
use native.Mathlib.Omega.{arith}
use lib.ListN.{length, get_or, replicate}
use Rattle.laws.specs.Choice.{both, no}
use Rattle.laws.specs.Bytes.{splice, bytes, number_at, Bytes}
use Rattle.laws.specs.Scan.{all}
use Rattle.laws.proofs.Scan.{all-at, all-is}
use Rattle.laws.proofs.Splice.{lt-or-ge, get_d_part, get_d-before, get_d-in, get_d_after, length-splice, length-part'}
use Rattle.laws.proofs.Value.{number_at-fits, value-2}
use Rattle.geometry.specs.TagMemory.{in_limits}
use Rattle.geometry.proofs.Limits.{in_limits-is}
use Rattle.block.specs.Block.{all_zero}
use Rattle.sums.specs.Check.{word, sum_a, sum_b, check_of, check_right}
use Rattle.sums.proofs.Words.{sum_a-tells, modulus-new}
use Rattle.sums.proofs.Right.{right_is, not_first}
use Rattle.form.specs.Encode.{version1, Record, Sized, records_bytes, head_of, block_with, next7, record_blocks, encode}
use Rattle.form.specs.Test.{whole_blocks, image_block, version_in, form_of, lowest, good_above, good_record, checks_right, image_test}
use Rattle.form.proofs.Sound.{form-modulus}
use Rattle.form.proofs.Rules.{Accepted, accepted, wrong-check}
use Rattle.archive.specs.Theorems.{listed, Good, with_word}
use Rattle.archive.proofs.Versions.{old-encoding-accepted}

-- byte i of block j, and a two-byte number by its bytes
pub byte-of : (image : List ℕ) (j i : ℕ) → i < 512 → get_or (image_block image j) i 0 ≡ get_or image (512 * j + i) 0
byte-of image j i l = get_d_part image (512 * j) 512 i l

pub two_bytes : (b : List ℕ) (a : ℕ) → a + 2 ≤ length b → number_at 2 b a ≡ get_or b a 0 + 256 * get_or b (a + 1) 0
two_bytes b a h = number_at-fits 2 b a h ∙ value-2 b a h

module _ (image : List ℕ) (B : Bytes image) (e : image_test image ≡ 0) (v : version_in image ≡ 1 → ⊥) where
  abbrev W : ℕ
  W = whole_blocks image

  pub A : Accepted (form_of image) image
  A = accepted (form_of image) image e

  pub long : length image ≡ 512 * W
  long = omega (arith, A.whole)

  new-rule : (form_of image).modulus ≡ 65536
  new-rule = form-modulus (version_in image) ∙ modulus-new (version_in image) v

  pub right-at : (j : ℕ) → j < W → check_right 65536 (image_block image j) ≡ true
  unfolding checks_right
  right-at j l = ap (λ (M : ℕ). check_right M (image_block image j)) (sym new-rule) ∙ all-at (λ i. check_right (form_of image).modulus (image_block image i)) W A.checks j l

  below-256 : (i : ℕ) → get_or image i 0 < 256
  unfolding Bytes
  below-256 i = B i

  module _ (j k x y : ℕ) (lj : j < W) (lk : k < 254) (lx : x < 256) (ly : y < 256) where
    abbrev p : ℕ
    p = 512 * j + 2 * k

    abbrev other : List ℕ
    other = with_word image j k x y

    pub room : p + length (x ∷ y ∷ []) ≤ length image
    room = let two : length (x ∷ y ∷ []) ≡ 2 = refl in omega (arith, long)

    pub same-long : length other ≡ length image
    same-long = length-splice image p (x ∷ y ∷ []) room

    -- the bytes of the other image
    kept_byte : (i : ℕ) → (i ≡ p → ⊥) → (i ≡ p + 1 → ⊥) → get_or other i 0 ≡ get_or image i 0
    kept_byte i a b =
        ⊎_elim
        (λ (l : i < p). get_d-before image p (x ∷ y ∷ []) room i l)
        (λ (l : p ≤ i).
        ⊎_elim
        (λ (s : i < p + 2). ⊎_elim (λ (q : i < p + 1). absurd (a (omega arith))) (λ (q : p + 1 ≤ i). absurd (b (omega arith))) (lt-or-ge i (p + 1)))
        (λ (s : p + 2 ≤ i). get_d_after image p (x ∷ y ∷ []) room i s)
        (lt-or-ge i (p + 2)))
        (lt-or-ge i p)

    low_byte : get_or other p 0 ≡ x
    low_byte = let z : p + 0 ≡ p = omega arith in ap (λ (i : ℕ). get_or other i 0) (sym z) ∙ get_d-in image p (x ∷ y ∷ []) room 0 (omega arith)

    high_byte : get_or other (p + 1) 0 ≡ y
    high_byte = get_d-in image p (x ∷ y ∷ []) room 1 (omega arith)

    -- the words of block j
    pub new_word : word (image_block other j) k ≡ x + 256 * y
    new_word =
        let a : 512 * j + 2 * k ≡ p = refl in
        let b : 512 * j + (2 * k + 1) ≡ p + 1 = omega arith in
        (λ i. (byte-of other j (2 * k) (omega arith) ∙ low_byte) i + 256 * (byte-of other j (2 * k + 1) (omega arith) ∙ ap (λ (q : ℕ). get_or other q 0) b ∙ high_byte) i)

    pub kept_in : (i : ℕ) → i < 512 → (i ≡ 2 * k → ⊥) → (i ≡ 2 * k + 1 → ⊥) → get_or (image_block other j) i 0 ≡ get_or (image_block image j) i 0
    kept_in i l a b = byte-of other j i l ∙ kept_byte (512 * j + i) (λ z. a (omega arith)) (λ z. b (omega arith)) ∙ sym (byte-of image j i l)

    pub kept_word : (i : ℕ) → i < 254 → (i ≡ k → ⊥) → word (image_block other j) i ≡ word (image_block image j) i
    kept_word i l ne =
        (λ t. kept_in (2 * i) (omega arith) (λ z. ne (omega arith)) (λ z. absurd (omega arith)) t
        + 256 * kept_in (2 * i + 1) (omega arith) (λ z. absurd (omega arith)) (λ z. ne (omega arith)) t)

    old-small : word (image_block image j) k < 65536
    old-small =
        let a : get_or (image_block image j) (2 * k) 0 < 256 = rw (byte-of image j (2 * k) (omega arith)) (below-256 (512 * j + 2 * k)) in
        let b : get_or (image_block image j) (2 * k + 1) 0 < 256 = rw (byte-of image j (2 * k + 1) (omega arith)) (below-256 (512 * j + (2 * k + 1))) in
        omega arith

    pub block-long : length (image_block image j) ≡ 512
    block-long = length-part' image (512 * j) 512 (omega (arith, long))

    pub other-long : length (image_block other j) ≡ 512
    other-long = length-part' other (512 * j) 512 (omega (arith, long, same-long))

    -- the check stays, and sum a does not
    kept-check : number_at 2 (image_block other j) 508 ≡ number_at 2 (image_block image j) 508
    kept-check =
        two_bytes (image_block other j) 508 (omega (arith, other-long))
        ∙ (λ t. kept_in 508 (omega arith) (λ z. absurd (omega arith)) (λ z. absurd (omega arith)) t + 256 * kept_in 509 (omega arith) (λ z. absurd (omega arith)) (λ z. absurd (omega arith)) t)
        ∙ sym (two_bytes (image_block image j) 508 (omega (arith, block-long)))

    module _ (ne : x + 256 * y ≡ word (image_block image j) k → ⊥) where
      wrong : check_right 65536 (image_block other j) ≡ false
      wrong =
          not_first 65536 (image_block other j) (λ q.
          sum_a-tells (image_block image j) (image_block other j) k 254 lk kept_word old-small (omega (arith, new_word)) (λ s. ne (sym new_word ∙ s))
          (sym q ∙ kept-check ∙ (right_is 65536 (image_block image j) (right-at j lj)).1))

      -- the other image's version is not 1 either
      pub version-bytes : (m : List ℕ) → 512 ≤ length m → version_in m ≡ get_or m 6 0 + 256 * get_or m 7 0
      version-bytes m h =
          let l : length (image_block m 0) ≡ 512 = length-part' m 0 512 h in
          two_bytes (image_block m 0) 6 (omega arith) ∙ (λ t. byte-of m 0 6 (omega arith) t + 256 * byte-of m 0 7 (omega arith) t)

      big : 512 ≤ length image
      big = omega (arith, long)

      other-version : (j ≡ 0 → k ≡ 3 → x + 256 * y ≡ 1 → ⊥) → version_in other ≡ 1 → ⊥
      other-version w o =
          let vo : version_in other ≡ get_or other 6 0 + 256 * get_or other 7 0 = version-bytes other (omega (arith, big, same-long)) in
          ⊎_elim
          (λ (z : p < 7).
          ⊎_elim
          (λ (s : p < 6). v (version-bytes image big ∙ (λ t. sym (kept_byte 6 (λ q. absurd (omega arith)) (λ q. absurd (omega arith))) t + 256 * sym (kept_byte 7 (λ q. absurd (omega arith)) (λ q. absurd (omega arith))) t) ∙ sym vo ∙ o))
          (λ (s : 6 ≤ p).
          let six : p ≡ 6 = omega arith in
          let a : get_or other 6 0 ≡ x = ap (λ (i : ℕ). get_or other i 0) (sym six) ∙ low_byte in
          let b : get_or other 7 0 ≡ y = (let seven : p + 1 ≡ 7 = omega arith in ap (λ (i : ℕ). get_or other i 0) (sym seven) ∙ high_byte) in
          let first : j ≡ 0 = ⊎_elim (λ (q : j < 1). omega arith) (λ (q : 1 ≤ j). absurd (omega arith)) (lt-or-ge j 1) in
          w first (omega (arith, first)) ((λ t. sym a t + 256 * sym b t) ∙ sym vo ∙ o))
          (lt-or-ge p 6))
          (λ (z : 7 ≤ p).
          v (version-bytes image big ∙ (λ t. sym (kept_byte 6 (λ q. absurd (omega arith)) (λ q. absurd (omega arith))) t + 256 * sym (kept_byte 7 (λ q. absurd (omega arith)) (λ q. absurd (omega arith))) t) ∙ sym vo ∙ o))
          (lt-or-ge p 7)

      pub refused : (j ≡ 0 → k ≡ 3 → x + 256 * y ≡ 1 → ⊥) → image_test other ≡ 10
      refused w =
          let r : (form_of other).modulus ≡ 65536 = form-modulus (version_in other) ∙ modulus-new (version_in other) (other-version w) in
          wrong-check (form_of other) other j (omega (arith, long, same-long)) (ap (λ (M : ℕ). check_right M (image_block other j)) r ∙ wrong)

-- one leaf, recorded: its word 0000 became FFFF on the line
abbrev sent : Record
sent = record { leaf = 0; content = 1 ∷ 0 ∷ replicate 62 0 }

abbrev arrived : Record
arrived = record { leaf = 0; content = 1 ∷ 0 ∷ 255 ∷ 255 ∷ replicate 60 0 }

good-one : (r : Record) → length r.content ≡ 64 → good_record 1 0 (listed (r ∷ [])) 0 ≡ true → Good 1 (r ∷ [])
unfolding Sized
good-one r l g =
    record {
      sized = λ p h. let e : p ≡ 0 = omega arith in rw e l;
      each = all-is (good_record 1 0 (listed (r ∷ []))) 1 (λ p h. let e : p ≡ 0 = omega arith in rw e g);
    }

sent-good : good_record 1 0 (listed (sent ∷ [])) 0 ≡ true
unfolding good_record good_above lowest both no all_zero all
sent-good = refl

arrived-good : good_record 1 0 (listed (arrived ∷ [])) 0 ≡ true
unfolding good_record good_above lowest both no all_zero all
arrived-good = refl

-- word 7 of block 1 is that word; the checks stay as they were
line : with_word (encode version1 1 (sent ∷ [])) 1 7 255 255 ≡ encode version1 1 (arrived ∷ [])
unfolding splice encode version1 head_of record_blocks block_with records_bytes next7 bytes sum_a sum_b check_of
line = refl

one-leaf : in_limits 1 ≡ true
one-leaf = in_limits-is 1 1 (omega arith) (omega arith)

-- the old rule accepts both
pub stuck-line : (image_test (encode version1 1 (sent ∷ [])) ≡ 0) × (image_test (with_word (encode version1 1 (sent ∷ [])) 1 7 255 255) ≡ 0)
stuck-line = (
  old-encoding-accepted 1 (sent ∷ []) one-leaf (good-one sent refl sent-good) (omega arith),
  ap image_test line ∙ old-encoding-accepted 1 (arrived ∷ []) one-leaf (good-one arrived refl arrived-good) (omega arith),
)
