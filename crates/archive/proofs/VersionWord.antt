-- The version word of an accepted image of version 2 made 1 is refused with 10. Its head would have the same sums by both rules, for which m is 259 or more; then 36 record blocks are full, and their leaf numbers rise too far for all of them to have the same sums by both rules.
use mathlib.Core.Path.{◌≡◌, refl, ap, sym, ◌∙◌}
use mathlib.Core.List.{List, [], ◌∷◌}
use mathlib.Core.Bool.{Bool, true, false}
use mathlib.Core.Logic.{◌⊎◌, inl, inr, ⊎_elim}
use Prim.Native.Nat.{ℕ, zero, suc, ◌+◌, ◌*◌, ◌/◌, ◌%◌, ◌-◌, ◌≤◌, ◌<◌}
use native.Mathlib.Omega.{arith}
use lib.ListN.{length, get_or}
use lib.Dec.{eqb}
use borrow.Author.Tests.{eq-eqb, eqb-true, ne_eqb}
use Rattle.laws.specs.Choice.{both, either}
use Rattle.laws.specs.Bytes.{part, number_at, Bytes}
use Rattle.laws.proofs.Choice.{both_left, both_right, both_true, true-or-false, not-both-ways}
use Rattle.laws.proofs.Parts.{Bytes-part}
use Rattle.laws.proofs.Scan.{all-at}
use Rattle.geometry.specs.TagMemory.{in_limits}
use Rattle.geometry.proofs.Limits.{in_limits-most}
use Rattle.block.proofs.Zero.{all_zero-at}
use Rattle.form.specs.Test.{whole_blocks, image_block, number_of, kind_of, version_of, leaves_of, version_in, leaves_in, recorded_in, count_of, record_in, record_at, record_count, unused_zero, count_right, block_sound, sound_at, good_record, checks_right, form_of, image_test}
use Rattle.form.proofs.Sound.{sound-head, sound-block, sound-count, count-full, head-by-form, form-modulus, records-fit}
use Rattle.form.proofs.Rules.{Accepted, accepted, lowest-more, wrong-check-10}
use Rattle.archive.proofs.PlainSums.{bound-b, head-sums, block-sum, same_low, many-recorded}
use Rattle.archive.proofs.Stuck.{two_bytes, long, right-at, room, same-long, kept_in, new_word, kept_word, other-long, refused}
use Rattle.archive.proofs.Written.{leaf-above, leaf-below}
use Rattle.archive.specs.Theorems.{with_word, WordRefused}
use Rattle.laws.proofs.Splice.{lt-or-ge, get_d_part, length-part', part-other}
use Rattle.laws.proofs.Value.{number_at-fits, value-4}
use Rattle.sums.specs.Check.{word, check_right}
use Rattle.sums.proofs.Words.{plain_b, sum_b-plain, modulus-old}
use Rattle.sums.proofs.Right.{right_is}

-- the words of a leaf number above 65,536 h + x and below 65,536 (h + 1)
in-range : (l lo hi h x : ℕ) → l ≡ lo + 65536 * hi → lo < 65536 → 65536 * h + x ≤ l → l < 65536 * (h + 1) → (x ≤ lo) × (h ≤ hi)
in-range l lo hi h x e s a c =
    ⊎_elim
    (λ (q : hi < h). absurd (omega arith))
    (λ (q : h ≤ hi). (omega arith, q))
    (lt-or-ge hi h)

-- a number of four bytes by its words
number-words : (b : List ℕ) (k a : ℕ) → a ≡ 2 * k → a + 4 ≤ length b → number_at 4 b a ≡ word b k + 65536 * word b (k + 1)
number-words b k a e h =
    let p : 2 * (k + 1) ≡ a + 2 = omega arith in
    let q : 2 * (k + 1) + 1 ≡ a + 3 = omega arith in
    let r : 2 * k + 1 ≡ a + 1 = omega arith in
    let g : ℕ → ℕ = λ x. get_or b x 0 in
    omega (arith, number_at-fits 4 b a h, value-4 b a h, ap g p, ap g q, ap g r, ap g (sym e))

either_second : (a b : Bool) → either a b ≡ true → a ≡ false → b ≡ true
unfolding either
either_second true b h f = absurd (not-both-ways h f)
either_second false b h f = h

module _ (image : List ℕ) (B : Bytes image) (e : image_test image ≡ 0) (v : version_in image ≡ 1 → ⊥) where
  abbrev W : ℕ
  W = whole_blocks image

  abbrev n : ℕ
  n = leaves_in image

  abbrev block : ℕ → List ℕ
  block j = image_block image j

  taken : Accepted (form_of image) image
  taken = accepted (form_of image) image e

  block-long : (j : ℕ) → j < W → length (block j) ≡ 512
  block-long j l = length-part' image (512 * j) 512 (omega (arith, long image B e v))

  word_small : (j : ℕ) → j < W → (i : ℕ) → word (block j) i < 65536
  unfolding Bytes
  word_small j l i =
      let C : Bytes (block j) = Bytes-part image (512 * j) 512 (omega (arith, long image B e v)) B in
      omega (arith, C (2 * i), C (2 * i + 1))

  some_block : 0 < W
  some_block = omega (arith, taken.some, long image B e v)

  -- the head's words
  head-is : both (eqb (number_of (block 0)) 0) (both (eqb (kind_of (block 0)) 1) (both (either (eqb (version_of (block 0)) 1) (eqb (version_of (block 0)) 2)) (both (in_limits (leaves_of (block 0))) (unused_zero (block 0) 16)))) ≡ true
  head-is =
      sym (head-by-form (block 0) (block-long 0 some_block))
      ∙ sym (sound-head (form_of image) image 0 refl) ∙ all-at (sound_at (form_of image) image) W taken.sound 0 some_block

  rest₁ : both (eqb (kind_of (block 0)) 1) (both (either (eqb (version_of (block 0)) 1) (eqb (version_of (block 0)) 2)) (both (in_limits (leaves_of (block 0))) (unused_zero (block 0) 16))) ≡ true
  rest₁ = both_right _ _ head-is

  rest₂ : both (either (eqb (version_of (block 0)) 1) (eqb (version_of (block 0)) 2)) (both (in_limits (leaves_of (block 0))) (unused_zero (block 0) 16)) ≡ true
  rest₂ = both_right _ _ rest₁

  word-0 : (word (block 0) 0 ≡ 0) × (word (block 0) 1 ≡ 0)
  word-0 =
      let z : number_of (block 0) ≡ 0 = eqb-true _ _ (both_left _ _ head-is) in
      let w = number-words (block 0) 0 0 refl (omega (arith, block-long 0 some_block)) in
      (omega arith, omega arith)

  word-2 : word (block 0) 2 ≡ 1
  word-2 = sym (two_bytes (block 0) 4 (omega (arith, block-long 0 some_block))) ∙ eqb-true _ _ (both_left _ _ rest₁)

  word-3 : word (block 0) 3 ≡ 2
  word-3 =
      sym (two_bytes (block 0) 6 (omega (arith, block-long 0 some_block)))
      ∙ eqb-true _ _ (either_second (eqb (version_of (block 0)) 1) (eqb (version_of (block 0)) 2) (both_left _ _ rest₂) (ne_eqb _ _ v))

  most-leaves : n ≤ 262144
  most-leaves = in_limits-most 1 n (both_left _ _ (both_right _ _ rest₂))

  zero-byte : (p : ℕ) → 16 ≤ p → p < 508 → get_or (block 0) p 0 ≡ 0
  zero-byte p a l =
      let q : 16 + (p - 16) ≡ p = omega arith in
      let len : length (part (block 0) 16 492) ≡ 492 = length-part' (block 0) 16 492 (omega (arith, block-long 0 some_block)) in
      ap (λ (i : ℕ). get_or (block 0) i 0) (sym q) ∙ sym (get_d_part (block 0) 16 492 (p - 16) (omega arith))
      ∙ all_zero-at (part (block 0) 16 492) (both_right _ _ (both_right _ _ rest₂)) (p - 16) (omega arith)

  zero_word : (i : ℕ) → 8 ≤ i → i < 254 → word (block 0) i ≡ 0
  zero_word i a l = omega (arith, zero-byte (2 * i) (omega arith) (omega arith), zero-byte (2 * i + 1) (omega arith) (omega arith))

  -- the image with version word 1: its head's other words and its other blocks are as they were
  abbrev other : List ℕ
  other = with_word image 0 3 1 0

  other_word : (i : ℕ) → i < 254 → (i ≡ 3 → ⊥) → word (image_block other 0) i ≡ word (block 0) i
  other_word = kept_word image B e v 0 3 1 0 some_block (omega arith) (omega arith) (omega arith)

  other-3 : word (image_block other 0) 3 ≡ 1
  other-3 = new_word image B e v 0 3 1 0 some_block (omega arith) (omega arith) (omega arith)

  head-long : length (image_block other 0) ≡ 512
  head-long = other-long image B e v 0 3 1 0 some_block (omega arith) (omega arith) (omega arith)

  version-1 : version_in other ≡ 1
  version-1 = two_bytes (image_block other 0) 6 (omega (arith, head-long)) ∙ other-3

  old-rule : (form_of other).modulus ≡ 65535
  old-rule = form-modulus (version_in other) ∙ modulus-old (version_in other) version-1

  as_long : length other ≡ length image
  as_long = same-long image B e v 0 3 1 0 some_block (omega arith) (omega arith) (omega arith)

  same_block : (j : ℕ) → 0 < j → j < W → image_block other j ≡ block j
  same_block j a l =
      part-other image 6 (1 ∷ 0 ∷ []) (512 * j) 512 (room image B e v 0 3 1 0 some_block (omega arith) (omega arith) (omega arith)) (omega (arith, long image B e v)) (inr (let two : length {A = ℕ} (1 ∷ 0 ∷ []) ≡ 2 = refl in omega arith))

  same_check : number_at 2 (image_block other 0) 510 ≡ number_at 2 (block 0) 510
  same_check =
      two_bytes (image_block other 0) 510 (omega (arith, head-long))
      ∙ (λ t. byte 510 (omega arith) (λ z. absurd (omega arith)) (λ z. absurd (omega arith)) t + 256 * byte 511 (omega arith) (λ z. absurd (omega arith)) (λ z. absurd (omega arith)) t)
      ∙ sym (two_bytes (block 0) 510 (omega (arith, block-long 0 some_block)))
    where
      byte : (i : ℕ) → i < 512 → (i ≡ 6 → ⊥) → (i ≡ 7 → ⊥) → get_or (image_block other 0) i 0 ≡ get_or (block 0) i 0
      byte = kept_in image B e v 0 3 1 0 some_block (omega arith) (omega arith) (omega arith)

  -- were all its checks right, by the old rule
  module _ (right : (j : ℕ) → j < W → check_right 65535 (image_block other j) ≡ true) where
    new-b : (j : ℕ) → j < W → number_at 2 (block j) 510 ≡ plain_b (block j) 254 % 65536
    new-b j l = (right_is 65536 (block j) (right-at image B e v j l)).2 ∙ sum_b-plain 65536 (block j) 254 (omega arith)

    old-b : (j : ℕ) → j < W → number_at 2 (image_block other j) 510 ≡ plain_b (image_block other j) 254 % 65535
    old-b j l = (right_is 65535 (image_block other j) (right j l)).2 ∙ sum_b-plain 65535 (image_block other j) 254 (omega arith)

    many : 259 ≤ recorded_in image
    many =
        let w : ℕ → ℕ = word (block 0) in
        let p : plain_b (block 0) 254 ≡ 1008 + 250 * w 4 + 249 * w 5 + 248 * w 6 + 247 * w 7 = omega (arith, (head-sums (block 0) zero_word).1, word-0.0, word-0.1, word-2, word-3) in
        let zeros : (i : ℕ) → 8 ≤ i → i < 254 → word (image_block other 0) i ≡ 0 = λ i a l. other_word i l (λ z. absurd (omega arith)) ∙ zero_word i a l in
        let q : plain_b (image_block other 0) 254 ≡ 757 + 250 * w 4 + 249 * w 5 + 248 * w 6 + 247 * w 7 =
        omega (arith, (head-sums (image_block other 0) zeros).1, other-3, like 0 (inl (omega arith)), like 1 (inl (omega arith)), like 2 (inl (omega arith)), like 4 (inr (omega arith, omega arith)), like 5 (inr (omega arith, omega arith)), like 6 (inr (omega arith, omega arith)), like 7 (inr (omega arith, omega arith)), word-0.0, word-0.1, word-2) in
        let s : plain_b (block 0) 254 % 65536 ≡ plain_b (image_block other 0) 254 % 65535 = sym (new-b 0 some_block) ∙ sym same_check ∙ old-b 0 some_block in
        let nl = number-words (block 0) 4 8 refl (omega (arith, block-long 0 some_block)) in
        let ml = number-words (block 0) 6 12 refl (omega (arith, block-long 0 some_block)) in
        omega (arith, ml, many-recorded (w 4) (w 5) (w 6) (w 7) (word_small 0 some_block 4) (omega (arith, nl, most-leaves)) (word_small 0 some_block 6) (rw (p, q) at s))
      where
        like : (i : ℕ) → (i < 3) ⊎ ((3 < i) × (i < 8)) → word (image_block other 0) i ≡ word (block 0) i
        like i h = ⊎_elim (λ (l : i < 3). other_word i (omega arith) (λ z. absurd (omega arith))) (λ (l : (3 < i) × (i < 8)). other_word i (omega arith) (λ z. absurd (omega arith))) h

    full : 38 ≤ W
    full = omega (arith, many, taken.count, records-fit (form_of image) image taken.sound)

    -- the records: their leaf numbers rise, and stay below n
    abbrev leaf : ℕ → ℕ
    leaf p = (record_at image p).leaf

    good : (p : ℕ) → p < 259 → good_record n 0 (record_at image) p ≡ true
    good p l = all-at (good_record n 0 (record_at image)) (record_count image) taken.good p (omega (arith, many, taken.count))

    climb : (p d : ℕ) → p + d < 259 → leaf p + d ≤ leaf (p + d)
    climb p zero l = let z : p + zero ≡ p = omega arith in rw z (omega arith)
    climb p (suc d) l =
        let z : p + suc d ≡ p + d + 1 = omega arith in
        rw z (omega (arith, climb p d (omega arith), leaf-above n (record_at image) (p + d + 1) (good (p + d + 1) (omega arith)), lowest-more 0 (record_at image) (p + d)))

    -- record block q + 1, one of 36 that are full
    module _ (q : ℕ) (few : q < 36) where
      abbrev b : List ℕ
      b = block (suc q)

      there : suc q < W
      there = omega (arith, full)

      sound : block_sound (eqb (suc q + 1) W) (suc q) b ≡ true
      sound = sym (sound-block (form_of image) image (suc q) (λ z. absurd (omega arith))) ∙ all-at (sound_at (form_of image) image) W taken.sound (suc q) there

      fields : both (eqb (length b) 512) (both (eqb (number_of b) (suc q)) (both (eqb (kind_of b) 2) (both (count_right (eqb (suc q + 1) W) (count_of b)) (unused_zero b (8 + 68 * count_of b))))) ≡ true
      unfolding block_sound
      fields = sound

      b-long : length b ≡ 512
      b-long = block-long (suc q) there

      seven : count_of b ≡ 7
      seven =
          let f : eqb (suc q + 1) W ≡ false = ne_eqb (suc q + 1) W (λ z. absurd (omega (arith, full))) in
          eqb-true (count_of b) 7 (sym (count-full (eqb (suc q + 1) W) (count_of b) f) ∙ sound-count (eqb (suc q + 1) W) (suc q) b sound)

      small-sum : plain_b b 254 < 65535
      small-sum =
          let s : image_block other (suc q) ≡ b = same_block (suc q) (omega arith) there in
          same_low (plain_b b 254) (omega (arith, bound-b b (word_small (suc q) there) 254 (omega arith)))
          (sym (new-b (suc q) there) ∙ ap (λ (l : List ℕ). number_at 2 l 510) (sym s) ∙ old-b (suc q) there ∙ ap (λ (l : List ℕ). plain_b l 254 % 65535) s)

      number-0 : (word b 0 ≡ suc q) × (word b 1 ≡ 0)
      number-0 =
          let z : number_of b ≡ suc q = eqb-true _ _ (both_left _ _ (both_right _ _ fields)) in
          let w = number-words b 0 0 refl (omega (arith, b-long)) in
          (omega (arith, word_small (suc q) there 0), omega (arith, word_small (suc q) there 0))

      kind_2 : word b 2 ≡ 2
      kind_2 = sym (two_bytes b 4 (omega (arith, b-long))) ∙ eqb-true _ _ (both_left _ _ (both_right _ _ (both_right _ _ fields)))

      count-7 : word b 3 ≡ 7
      count-7 = sym (two_bytes b 6 (omega (arith, b-long))) ∙ seven

      leaf-words : (i : ℕ) → i < 7 → leaf (7 * q + i) ≡ word b (4 + 34 * i) + 65536 * word b (4 + 34 * i + 1)
      leaf-words i l =
          let d : 1 + (7 * q + i) / 7 ≡ suc q = omega arith in
          let r : (7 * q + i) % 7 ≡ i = omega arith in
          (λ t. (record_in (block (d t)) (r t)).leaf) ∙ number-words b (4 + 34 * i) (8 + 68 * i) (omega arith) (omega (arith, b-long))

      -- its leaf numbers do not stay below the next multiple of 65,536
      climbs : (h x : ℕ) → 65536 * h + x ≤ leaf (7 * q) → 65535 ≤ 4671 + 254 * suc q + 1036 * x + 1029 * h → 65536 * (h + 1) ≤ leaf (7 * q + 6)
      climbs h x low far =
          ⊎_elim
          (λ (l : leaf (7 * q + 6) < 65536 * (h + 1)).
          absurd (omega (
            arith,
            small-sum,
            block-sum b (suc q) x h number-0.0 number-0.1 kind_2 count-7 (λ i g.
                let z : 7 * q + i + (6 - i) ≡ 7 * q + 6 = omega arith in
                let up : leaf (7 * q + i) + (6 - i) ≤ leaf (7 * q + 6) = rw z at (climb (7 * q + i) (6 - i) (omega arith)) in
                let w : leaf (7 * q + i) ≡ word b (4 + 34 * i) + 65536 * word b (4 + 34 * i + 1) = leaf-words i g in
                in-range (leaf (7 * q + i)) (word b (4 + 34 * i)) (word b (4 + 34 * i + 1)) h (x + i) w (word_small (suc q) there (4 + 34 * i)) (omega (arith, climb (7 * q) i (omega arith))) (omega arith)),
          )))
          (λ l. l)
          (lt-or-ge (leaf (7 * q + 6)) (65536 * (h + 1)))

    no_way : ⊥
    no_way =
        let a : 65536 ≤ leaf 69 = climbs 9 (omega arith) 0 63 (omega (arith, climb 0 63 (omega arith))) (omega arith) in
        let b : 131072 ≤ leaf 132 = climbs 18 (omega arith) 1 57 (omega (arith, a, climb 69 57 (omega arith))) (omega arith) in
        let c : 196608 ≤ leaf 195 = climbs 27 (omega arith) 2 57 (omega (arith, b, climb 132 57 (omega arith))) (omega arith) in
        let d : 262144 ≤ leaf 251 = climbs 35 (omega arith) 3 50 (omega (arith, c, climb 195 50 (omega arith))) (omega arith) in
        absurd (omega (arith, d, most-leaves, leaf-below n (record_at image) 251 (good 251 (omega arith))))

  pub version-refused : image_test other ≡ 10
  unfolding checks_right
  version-refused =
      let w : whole_blocks other ≡ W = ap (λ (x : ℕ). x / 512) as_long in
      ⊎_elim
      (λ (c : checks_right (form_of other) other ≡ true).
      absurd (no_way (λ j l. ap (λ (M : ℕ). check_right M (image_block other j)) (sym old-rule)
      ∙ all-at (λ i. check_right (form_of other).modulus (image_block other i)) (whole_blocks other) c j (omega arith))))
      (λ (c : checks_right (form_of other) other ≡ false). wrong-check-10 (form_of other) other c)
      (true-or-false (checks_right (form_of other) other))

-- 02, E2: every other value of every word of bytes 0 to 507
pub word-refused : (image : List ℕ) → Bytes image → image_test image ≡ 0 → (version_in image ≡ 1 → ⊥) → WordRefused image
word-refused image B e v j k x y lj lk lx ly ne =
    ⊎_elim
    (λ (h : both (eqb j 0) (both (eqb k 3) (eqb (x + 256 * y) 1)) ≡ true).
    let a : j ≡ 0 = eqb-true j 0 (both_left _ _ h) in
    let b : k ≡ 3 = eqb-true k 3 (both_left _ _ (both_right _ _ h)) in
    let c : x + 256 * y ≡ 1 = eqb-true (x + 256 * y) 1 (both_right _ _ (both_right _ _ h)) in
    let p : x ≡ 1 = omega arith in
    let q : y ≡ 0 = omega arith in
    rw (a, b, p, q) (version-refused image B e v))
    (λ (h : both (eqb j 0) (both (eqb k 3) (eqb (x + 256 * y) 1)) ≡ false).
    refused image B e v j k x y lj lk lx ly ne (λ a b c. not-both-ways (both_true _ _ (eq-eqb j 0 a) (both_true _ _ (eq-eqb k 3 b) (eq-eqb (x + 256 * y) 1 c))) h))
    (true-or-false (both (eqb j 0) (both (eqb k 3) (eqb (x + 256 * y) 1))))
