-- Laws of `full` and `bit`: a block is full exactly if a bit in it is 1; what changes at one level only does not reach the others.
use mathlib.Core.Path.{◌≡◌, refl, sym, ap, ◌∙◌, subst}
use mathlib.Core.Bool.{Bool, true, false}
use mathlib.Core.Logic.{⊎_elim}
use Prim.Native.Nat.{ℕ, zero, suc, ◌+◌, ◌*◌, ◌%◌, ◌≤◌, ◌<◌}
use native.Mathlib.Nat.{eq-or-lt_of_le, le_of_suc-le-suc, add-zero, add-suc}
use native.Mathlib.Omega.{arith}
use Rattle.laws.proofs.Choice.{not-both-ways, never_true}
use Rattle.laws.specs.Scan.{some}
use Rattle.laws.proofs.Some.{some-true, some-none, some_same}
use Rattle.geometry.specs.TagMemory.{block_bits, map_block_of, index}
use Rattle.geometry.proofs.Levels.{index-next}
use Rattle.flat.specs.Levels.{reaches}
use Rattle.flat.proofs.Contained.{full, bit}
use Rattle.flat.proofs.Differ.{differ-false}

-- the blocks under block j are j * 512 + i
pub under-block : (j i : ℕ) → i < block_bits → map_block_of (j * block_bits + i) ≡ j
unfolding map_block_of
under-block j i l = omega arith

pub place-lt : (k : ℕ) → k % block_bits < block_bits
place-lt k = omega arith

pub block-place : (k j : ℕ) → map_block_of k ≡ j → j * block_bits + k % block_bits ≡ k
unfolding map_block_of
block-place k j e = omega arith

-- the block d levels above block k
unfoldable pub above : ℕ → ℕ → ℕ
above zero k = k
above (suc d) k = map_block_of (above d k)

pub above_in : (d k : ℕ) → above (suc d) k ≡ above d (map_block_of k)
unfolding above
above_in zero k = refl
above_in (suc d) k = ap map_block_of (above_in d k)

pub above-index : (e d g : ℕ) → above d (index e g) ≡ index (e + d) g
unfolding above
above-index e zero g = rw add-zero
above-index e (suc d) g = rw (add-suc, index-next (e + d) g) (ap map_block_of (above-index e d g))

module _ (tag : ℕ → Bool) (pend : ℕ → ℕ → Bool) where
  pub full-zero : (k : ℕ) → full tag pend 0 k ≡ tag k
  unfolding full
  full-zero k = refl

  pub full_at : (e k j : ℕ) → map_block_of k ≡ j → bit tag pend e k ≡ true → full tag pend (suc e) j ≡ true
  unfolding full
  full_at e k j q t = some-true _ block_bits (k % block_bits) (place-lt k) (rw (block-place k j q) t)

  pub full-not : (e k j : ℕ) → map_block_of k ≡ j → full tag pend (suc e) j ≡ false → bit tag pend e k ≡ false
  full-not e k j q f = never_true (λ t. not-both-ways (full_at e k j q t) f)

  pub full-none : (e j : ℕ) → ((k : ℕ) → map_block_of k ≡ j → bit tag pend e k ≡ false) → full tag pend (suc e) j ≡ false
  unfolding full
  full-none e j f = some-none _ block_bits (λ i l. f (j * block_bits + i) (under-block j i l))

  pub full_is : (b : ℕ → Bool) (e j : ℕ) → ((k : ℕ) → map_block_of k ≡ j → bit tag pend e k ≡ b k) → full tag pend (suc e) j ≡ some (λ i. b (j * block_bits + i)) block_bits
  unfolding full
  full_is b e j f = some_same _ _ block_bits (λ i l. f (j * block_bits + i) (under-block j i l))

-- from one row and its pending bits to another
module _ (tag tag' : ℕ → Bool) (pend pend' : ℕ → ℕ → Bool) where
  pub full-same : (e j : ℕ) → ((k : ℕ) → map_block_of k ≡ j → bit tag' pend' e k ≡ bit tag pend e k) → full tag' pend' (suc e) j ≡ full tag pend (suc e) j
  unfolding full
  full-same e j f = some_same _ _ block_bits (λ i l. f (j * block_bits + i) (under-block j i l))

  -- a level whose bits stay, and no pending bit above it changes: no bit above it changes
  module _ (e : ℕ) (here : (k : ℕ) → bit tag' pend' e k ≡ bit tag pend e k) (pends : (c k : ℕ) → e < c → pend' c k ≡ pend c k) where
    pub bits_above : (c k : ℕ) → e ≤ c → bit tag' pend' c k ≡ bit tag pend c k
    bits_above zero k l = let z : e ≡ 0 = omega arith in subst (λ (d : ℕ). bit tag' pend' d k ≡ bit tag pend d k) z (here k)
    bits_above (suc c) k l = ⊎_elim (λ z. subst (λ (d : ℕ). bit tag' pend' d k ≡ bit tag pend d k) z (here k))
        (λ z. rw (full-same c k (λ i q. bits_above c i (le_of_suc-le-suc z)), pends (suc c) k z)) (eq-or-lt_of_le l)

    pub full-above : (c k : ℕ) → e < c → full tag' pend' c k ≡ full tag pend c k
    full-above zero k l = absurd (omega arith)
    full-above (suc c) k l = full-same c k (λ i q. bits_above c i (le_of_suc-le-suc l))

  -- no tag and no pending bit below a level changes: it and what is below stay
  module _ (e : ℕ) (tags : (k : ℕ) → tag' k ≡ tag k) (pends : (c k : ℕ) → c < e → pend' c k ≡ pend c k) where
    pub full-below : (c k : ℕ) → c ≤ e → full tag' pend' c k ≡ full tag pend c k
    full-below zero k l = full-zero tag' pend' k ∙ tags k ∙ sym (full-zero tag pend k)
    full-below (suc c) k l = full-same c k (λ i q. rw (full-below c i (omega arith), pends c i l))

    pub bits_below : (c k : ℕ) → c < e → bit tag' pend' c k ≡ bit tag pend c k
    bits_below c k l = rw (full-below c k (omega arith), pends c k l)

-- where no bit is pending below level m under top block j, full is "some leaf below has a tag" up to level m
module _ (tag : ℕ → Bool) (pend : ℕ → ℕ → Bool) (top j m : ℕ) (quiet : (e d k : ℕ) → e < m → e + d ≡ top → above d k ≡ j → pend e k ≡ false) where
  pub full-reaches : (e d k : ℕ) → e ≤ m → e + d ≡ top → above d k ≡ j → full tag pend e k ≡ reaches block_bits tag e k
  unfolding full reaches
  full-reaches zero d k l q u = refl
  full-reaches (suc e) d k l q u = some_same _ _ block_bits (λ i il.
      let z : above (suc d) (k * block_bits + i) ≡ j = above_in d (k * block_bits + i) ∙ ap (above d) (under-block k i il) ∙ u in
      let s : e + suc d ≡ top = omega arith in
      differ-false _ (quiet e (suc d) (k * block_bits + i) l s z) ∙ full-reaches e (suc d) (k * block_bits + i) (omega arith) s z)

-- a leaf with a tag reaches every level
pub reaches-up : (tag : ℕ → Bool) (e g : ℕ) → tag (index 0 g) ≡ true → reaches block_bits tag e (index e g) ≡ true
unfolding reaches
reaches-up tag zero g t = t
reaches-up tag (suc e) g t = some-true _ block_bits (index e g % block_bits) (place-lt (index e g)) (rw (block-place (index e g) (index (suc e) g) (sym (index-next e g))) (reaches-up tag e g t))
