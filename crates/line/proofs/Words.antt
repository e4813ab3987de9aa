-- Laws of a line's word: each part of it is read back, and a word with its parts is the only one with them.
use mathlib.Core.Path.{◌≡◌, refl, sym, ◌∙◌}
use mathlib.Core.Bool.{Bool, true, false}
use mathlib.Core.Logic.{◌⊎◌, inl, inr, ⊎_elim}
use Prim.Native.Nat.{ℕ, ◌+◌, ◌-◌, ◌*◌, ◌/◌, ◌%◌, ◌≤◌, ◌<◌}
use native.Mathlib.Omega.{arith}
use lib.Dec.{eqb, ltb}
use borrow.Author.Tests.{ltb-true, ltb-false, eqb-true, eqb-false, lt-ltb, le-ltb, eq-eqb, ne_eqb}
use Rattle.laws.specs.Choice.{pick, both}
use Rattle.laws.proofs.Choice.{true-or-false, not-both-ways, both_true, both-false-left, both-false-right, both_left, both_right}
use Rattle.line.specs.Word.{used, block_of, changed, holder, held, has, word, held_by, cleaned, line_blocks, marks}

-- a free line: no block, clean, not held
pub free-used : used 0 ≡ false
unfolding used
free-used = refl

pub free-held : held 0 ≡ false
unfolding held holder
free-held = refl

pub free-changed : changed 0 ≡ false
unfolding changed
free-changed = refl

pub free-has : (b : ℕ) → has 0 b ≡ false
unfolding has used both
free-has b = refl

pub changed-none : (w : ℕ) → w ≡ 0 → changed w ≡ false
changed-none w e = rw e free-changed

-- a line that has a block is used
pub used-is : (w : ℕ) → 0 < w → used w ≡ true
unfolding used
used-is w h = lt-ltb 0 w h

pub is-used : (w : ℕ) → used w ≡ true → 0 < w
unfolding used
is-used w h = ltb-true 0 w h

pub not-used : (w : ℕ) → used w ≡ false → w ≡ 0
unfolding used
not-used w h = omega (arith, ltb-false 0 w h)

-- the words that have block b are the 256 after 256 b
pub has-is : (w b : ℕ) → 256 * b < w → w ≤ 256 * b + 256 → has w b ≡ true
unfolding has used block_of
has-is w b l h = both_true _ _ (lt-ltb 0 w (omega arith)) (eq-eqb ((w - 1) / 256) b (omega arith))

pub has_above : (w b : ℕ) → has w b ≡ true → 256 * b < w
unfolding has used block_of
has_above w b h = omega (arith, ltb-true 0 w (both_left _ _ h), eqb-true ((w - 1) / 256) b (both_right _ _ h))

pub has_within : (w b : ℕ) → has w b ≡ true → w ≤ 256 * b + 256
unfolding has used block_of
has_within w b h = omega (arith, eqb-true ((w - 1) / 256) b (both_right _ _ h))

-- and a used word has its own block
pub has-own : (w : ℕ) → used w ≡ true → has w (block_of w) ≡ true
unfolding has
has-own w h = both_true _ _ h (eq-eqb (block_of w) (block_of w) refl)

pub has-used : (w b : ℕ) → has w b ≡ true → used w ≡ true
unfolding has
has-used w b h = both_left _ _ h

pub has_block : (w b : ℕ) → has w b ≡ true → block_of w ≡ b
unfolding has
has_block w b h = eqb-true _ _ (both_right _ _ h)

-- as one comparison of numbers
pub has_key : (w b : ℕ) → eqb ((w + 255) / 256) (b + 1) ≡ has w b
has_key w b =
    ⊎_elim (λ t. eq-eqb ((w + 255) / 256) (b + 1) (omega (arith, has_above w b t, has_within w b t)) ∙ sym t)
    (λ f. ne_eqb ((w + 255) / 256) (b + 1) (λ e. not-both-ways (has-is w b (omega arith) (omega arith)) f) ∙ sym f) (true-or-false (has w b))

-- the parts of a word with its parts in their limits
module _ (b : ℕ) (c : Bool) (h : ℕ) (p : b < line_blocks) (q : h < marks) where
  pub word-is : word b c h ≡ 1 + pick c 1 0 + 2 * h + 256 * b
  unfolding word
  word-is = rw (both_true _ _ (lt-ltb b line_blocks p) (lt-ltb h marks q))

pub word-past-block : (b : ℕ) (c : Bool) (h : ℕ) → line_blocks ≤ b → word b c h ≡ 0
unfolding word
word-past-block b c h p = rw (both-false-left (ltb b line_blocks) (ltb h marks) (le-ltb b line_blocks p))

pub word-past-holder : (b : ℕ) (c : Bool) (h : ℕ) → marks ≤ h → word b c h ≡ 0
unfolding word
word-past-holder b c h p = rw (both-false-right (ltb b line_blocks) (ltb h marks) (le-ltb h marks p))

pub word_below : (b : ℕ) (c : Bool) (h : ℕ) → b < line_blocks → h < marks → word b c h < 4294967041
word_below b true h p q = omega (arith, word-is b true h p q)
word_below b false h p q = omega (arith, word-is b false h p q)

pub used-word : (b : ℕ) (c : Bool) (h : ℕ) → b < line_blocks → h < marks → used (word b c h) ≡ true
used-word b c h p q = used-is _ (omega (arith, word-is b c h p q))

pub block_of-word : (b : ℕ) (c : Bool) (h : ℕ) → b < line_blocks → h < marks → block_of (word b c h) ≡ b
unfolding block_of
block_of-word b true h p q = omega (arith, word-is b true h p q)
block_of-word b false h p q = omega (arith, word-is b false h p q)

pub changed-word : (b : ℕ) (c : Bool) (h : ℕ) → b < line_blocks → h < marks → changed (word b c h) ≡ c
unfolding changed
changed-word b true h p q = eq-eqb ((word b true h - 1) % 2) 1 (omega (arith, word-is b true h p q))
changed-word b false h p q = ne_eqb ((word b false h - 1) % 2) 1 (λ e. omega (arith, word-is b false h p q))

pub holder-word : (b : ℕ) (c : Bool) (h : ℕ) → b < line_blocks → h < marks → holder (word b c h) ≡ h
unfolding holder
holder-word b true h p q = omega (arith, word-is b true h p q)
holder-word b false h p q = omega (arith, word-is b false h p q)

pub held_word : (b : ℕ) (c : Bool) (h : ℕ) → b < line_blocks → h < marks → held (word b c h) ≡ ltb 0 h
unfolding held
held_word b c h p q = rw (holder-word b c h p q)

pub has_word : (b : ℕ) (c : Bool) (h : ℕ) → b < line_blocks → h < marks → has (word b c h) b ≡ true
unfolding has
has_word b c h p q = both_true _ _ (used-word b c h p q) (eq-eqb _ _ (block_of-word b c h p q))

-- a word whose block fits one; every used word below 4,294,967,041 is such
pub block_of-below : (w : ℕ) → w < 4294967041 → block_of w < line_blocks
unfolding block_of
block_of-below w h = omega arith

pub holder-below : (w : ℕ) → holder w < marks
unfolding holder
holder-below w = omega arith

-- a used word is made of its own parts
changed-part : (w : ℕ) → changed w ≡ true → (w - 1) % 2 ≡ 1
unfolding changed
changed-part w t = eqb-true ((w - 1) % 2) 1 t

clean-part : (w : ℕ) → changed w ≡ false → (w - 1) % 2 ≡ 0
unfolding changed
clean-part w f = let n : (w - 1) % 2 ≡ 1 → ⊥ = eqb-false ((w - 1) % 2) 1 f in ⊎_elim (λ e. e) (λ e. absurd (n e)) (even-or-odd (w - 1))
  where
    even-or-odd : (x : ℕ) → (x % 2 ≡ 0) ⊎ (x % 2 ≡ 1)
    even-or-odd x = ⊎_elim (λ t. inl (eqb-true (x % 2) 0 t)) (λ f. inr (odd x (eqb-false (x % 2) 0 f))) (true-or-false (eqb (x % 2) 0))
      where
        odd : (x : ℕ) → (x % 2 ≡ 0 → ⊥) → x % 2 ≡ 1
        odd x n = omega arith

pub changed-odd : (w : ℕ) → w % 2 ≡ 1 → changed w ≡ false
unfolding changed
changed-odd w e = ne_eqb ((w - 1) % 2) 1 (λ f. omega arith)

parts-changed : (w : ℕ) → 0 < w → (w - 1) % 2 ≡ 1 → 1 + 1 + 2 * holder w + 256 * block_of w ≡ w
unfolding holder block_of
parts-changed w u e = omega arith

parts-clean : (w : ℕ) → 0 < w → (w - 1) % 2 ≡ 0 → 1 + 0 + 2 * holder w + 256 * block_of w ≡ w
unfolding holder block_of
parts-clean w u e = omega arith

pub parts : (w : ℕ) → used w ≡ true → 1 + pick (changed w) 1 0 + 2 * holder w + 256 * block_of w ≡ w
parts w u =
    ⊎_elim (λ t. rw t (parts-changed w (is-used w u) (changed-part w t))) (λ f. rw f (parts-clean w (is-used w u) (clean-part w f))) (true-or-false (changed w))

pub word-own : (w : ℕ) → used w ≡ true → w < 4294967041 → word (block_of w) (changed w) (holder w) ≡ w
word-own w u h = word-is (block_of w) (changed w) (holder w) (block_of-below w h) (holder-below w) ∙ parts w u

-- two used words with the same block, changed alike and with the same holder are one
pub same_word : (a b : ℕ) → used a ≡ true → used b ≡ true → block_of a ≡ block_of b → changed a ≡ changed b → holder a ≡ holder b → a ≡ b
same_word a b u v p q r = sym (parts a u) ∙ rw (p, q, r) (parts b v)

-- the same line with another holder
module _ (w h : ℕ) (l : w < 4294967041) (q : h < marks) where
  pub used-held_by : used (held_by w h) ≡ true
  unfolding held_by
  used-held_by = used-word (block_of w) (changed w) h (block_of-below w l) q

  pub block_of-held_by : block_of (held_by w h) ≡ block_of w
  unfolding held_by
  block_of-held_by = block_of-word (block_of w) (changed w) h (block_of-below w l) q

  pub changed-held_by : changed (held_by w h) ≡ changed w
  unfolding held_by
  changed-held_by = changed-word (block_of w) (changed w) h (block_of-below w l) q

  pub holder-held_by : holder (held_by w h) ≡ h
  unfolding held_by
  holder-held_by = holder-word (block_of w) (changed w) h (block_of-below w l) q

  pub held-held_by : held (held_by w h) ≡ ltb 0 h
  unfolding held_by
  held-held_by = held_word (block_of w) (changed w) h (block_of-below w l) q

  pub held_by-below : held_by w h < 4294967041
  unfolding held_by
  held_by-below = word_below (block_of w) (changed w) h (block_of-below w l) q

-- the same line clean
pub cleaned-changed : (w : ℕ) → changed w ≡ true → cleaned w ≡ w - 1
unfolding cleaned
cleaned-changed w t = rw t

pub cleaned-clean : (w : ℕ) → changed w ≡ false → cleaned w ≡ w
unfolding cleaned
cleaned-clean w f = rw f

changed-less : (w : ℕ) → (w - 1) % 2 ≡ 1 → changed (w - 1) ≡ false
unfolding changed
changed-less w e = ne_eqb ((w - 1 - 1) % 2) 1 (λ f. omega arith)

pub changed-cleaned : (w : ℕ) → changed (cleaned w) ≡ false
changed-cleaned w = ⊎_elim (λ t. rw (cleaned-changed w t) (changed-less w (changed-part w t))) (λ f. rw (cleaned-clean w f) f) (true-or-false (changed w))

used-less : (w : ℕ) → (w - 1) % 2 ≡ 1 → used (w - 1) ≡ used w
used-less w e = used-is (w - 1) (omega arith) ∙ sym (used-is w (omega arith))

pub used-cleaned : (w : ℕ) → used (cleaned w) ≡ used w
used-cleaned w = ⊎_elim (λ t. rw (cleaned-changed w t) (used-less w (changed-part w t))) (λ f. rw (cleaned-clean w f)) (true-or-false (changed w))

block_of-less : (w : ℕ) → (w - 1) % 2 ≡ 1 → block_of (w - 1) ≡ block_of w
unfolding block_of
block_of-less w e = omega arith

pub block_of-cleaned : (w : ℕ) → block_of (cleaned w) ≡ block_of w
block_of-cleaned w = ⊎_elim (λ t. rw (cleaned-changed w t) (block_of-less w (changed-part w t))) (λ f. rw (cleaned-clean w f)) (true-or-false (changed w))

holder-less : (w : ℕ) → (w - 1) % 2 ≡ 1 → holder (w - 1) ≡ holder w
unfolding holder
holder-less w e = let f : (w - 1 - 1) / 2 ≡ (w - 1) / 2 = omega arith in rw f

pub holder-cleaned : (w : ℕ) → holder (cleaned w) ≡ holder w
holder-cleaned w = ⊎_elim (λ t. rw (cleaned-changed w t) (holder-less w (changed-part w t))) (λ f. rw (cleaned-clean w f)) (true-or-false (changed w))

pub held-cleaned : (w : ℕ) → held (cleaned w) ≡ held w
unfolding held
held-cleaned w = rw (holder-cleaned w)

pub has-cleaned : (w b : ℕ) → has (cleaned w) b ≡ has w b
unfolding has
has-cleaned w b = rw (used-cleaned w, block_of-cleaned w)

pub cleaned-≤ : (w : ℕ) → cleaned w ≤ w
cleaned-≤ w = ⊎_elim (λ t. omega (arith, cleaned-changed w t)) (λ f. omega (arith, cleaned-clean w f)) (true-or-false (changed w))
