-- What a word says of its holder, and of a line that changes hands, as the laws of whole states need it; the other laws of words are line's.
use mathlib.Core.Path.{◌≡◌, refl, ap, ◌∙◌}
use mathlib.Core.Bool.{true, false}
use mathlib.Core.Logic.{⊎_elim}
use Prim.Native.Nat.{ℕ, ◌<◌, ◌≤◌}
use native.Mathlib.Omega.{arith}
use borrow.Author.Tests.{lt-ltb, ltb-true, ltb-false, eq-eqb}
use Rattle.laws.proofs.Choice.{not-both-ways, true-or-false, both_true}
use Rattle.line.specs.Word.{used, block_of, changed, holder, held, has, held_by, line_blocks, marks}
use Rattle.line.proofs.Words.{used-word, block_of-word, holder-word, changed-word, not-used}

pub holder-free : holder 0 ≡ 0
unfolding holder
holder-free = refl

pub held-holder : (w : ℕ) → held w ≡ true → 0 < holder w
unfolding held
held-holder w h = ltb-true _ _ h

pub loose-holder : (w : ℕ) → held w ≡ false → holder w ≡ 0
unfolding held
loose-holder w h = let z : holder w ≤ 0 = ltb-false _ _ h in omega arith

pub holder-held : (w : ℕ) → 0 < holder w → held w ≡ true
unfolding held
holder-held w h = lt-ltb _ _ h

-- a line that names a holder is not free, nor is a changed one
pub held-used : (w : ℕ) → 0 < holder w → used w ≡ true
held-used w p = ⊎_elim (λ u. u) (λ u. absurd (let z : holder w ≡ 0 = ap holder (not-used w u) ∙ holder-free in omega arith)) (true-or-false (used w))

pub changed-used : (w : ℕ) → changed w ≡ true → used w ≡ true
unfolding changed
changed-used w e = ⊎_elim (λ u. u) (λ u. absurd (not-both-ways e (ap changed (not-used w u)))) (true-or-false (used w))

pub used-has : (w b : ℕ) → used w ≡ true → block_of w ≡ b → has w b ≡ true
unfolding has
used-has w b u e = both_true _ _ u (eq-eqb _ _ e)

-- a line whose block fits a word, with another holder
module _ (w h : ℕ) (p : block_of w < line_blocks) (q : h < marks) where
  pub used-held_by : used (held_by w h) ≡ true
  unfolding held_by
  used-held_by = used-word (block_of w) (changed w) h p q

  pub block_of-held_by : block_of (held_by w h) ≡ block_of w
  unfolding held_by
  block_of-held_by = block_of-word (block_of w) (changed w) h p q

  pub holder-held_by : holder (held_by w h) ≡ h
  unfolding held_by
  holder-held_by = holder-word (block_of w) (changed w) h p q

  pub changed-held_by : changed (held_by w h) ≡ changed w
  unfolding held_by
  changed-held_by = changed-word (block_of w) (changed w) h p q
