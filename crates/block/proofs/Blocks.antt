-- Laws of blocks: one that is read, one that is copied by words, and one that is copied from a part of a row to a part of memory.
use mathlib.Core.Path.{◌≡◌, refl, ap, sym, ◌∙◌}
use mathlib.Core.List.{List}
use Prim.Native.Nat.{ℕ, ◌+◌, ◌≤◌, ◌<◌}
use native.Mathlib.Omega.{arith}
use borrow.Author.Tests.{le-leb, lt-leb}
use lib.ListN.{length, replicate}
use Rattle.laws.specs.Choice.{pick}
use Rattle.laws.specs.Bytes.{part, splice, fits, put_w, bytes, number_at, Bytes}
use Rattle.laws.proofs.Put.{put_w-not}
use Rattle.laws.proofs.Parts.{part-all, part_none, number-back}
use Rattle.laws.proofs.Writes.{splice-none, splice-end, splice-part-more}
use Rattle.block.specs.Block.{block_or0}

module _ (m : List ℕ) (a : ℕ) where
  pub block_or0-fits : a + 64 ≤ length m → block_or0 m a ≡ part m a 64
  unfolding block_or0 fits
  block_or0-fits h = rw (le-leb _ _ h)

  pub block_or0-not : length m < a + 64 → block_or0 m a ≡ replicate 64 0
  unfolding block_or0 fits
  block_or0-not h = rw (lt-leb _ _ h)

-- words of s from `at`, each put after those that are there already
module _ (d s : List ℕ) (at : ℕ) (B : Bytes s) (g : at + 16 ≤ length d) (h : at + 16 ≤ length s) where
  word_more : (n : ℕ) {v : ℕ} {x y : List ℕ} → n + 4 ≤ 16 → x ≡ splice d at (part s at n) → v ≡ number_at 4 s (at + n) → y ≡ splice x (at + n) (bytes 4 v)
      → y ≡ splice d at (part s at (n + 4))
  word_more n {v} l e f k =
      rw (k, e, ← number-back s (at + n) 4 v B (omega arith) (sym f)) (splice-part-more d at s at n 4 (omega arith) (omega arith))

  pub words_copied : {a b c e : ℕ} {w x y z : List ℕ} → a ≡ number_at 4 s at → b ≡ number_at 4 s (at + 4) → c ≡ number_at 4 s (at + 8) → e ≡ number_at 4 s (at + 12)
      → w ≡ splice d at (bytes 4 a) → x ≡ splice w (at + 4) (bytes 4 b) → y ≡ splice x (at + 8) (bytes 4 c) → z ≡ splice y (at + 12) (bytes 4 e)
      → z ≡ splice d at (part s at 16)
  words_copied fa fb fc fe i j k l =
      let one : _ ≡ splice d at (part s at 4) = i ∙ ap (splice d at) (sym (number-back s at 4 _ B (omega arith) (sym fa))) in
      word_more 12 (omega arith) (word_more 8 (omega arith) (word_more 4 (omega arith) one fb j) fc k) fe l

-- the first n bytes of s in place of those of d, a block each
module _ (d s : List ℕ) (g : length d ≡ 64) (h : length s ≡ 64) where
  pub copied_none : d ≡ splice d 0 (part s 0 0)
  copied_none = sym (ap (splice d 0) (part_none s 0) ∙ splice-none d 0)

  pub copied_more : (n : ℕ) {x y : List ℕ} → n + 16 ≤ 64 → x ≡ splice d 0 (part s 0 n) → y ≡ splice x n (part s n 16) → y ≡ splice d 0 (part s 0 (n + 16))
  copied_more n l e k =
      let z : 0 + n ≡ n = omega arith in
      k ∙ rw e (rw z at (splice-part-more d 0 s 0 n 16 (omega arith) (omega arith)))

  pub copied_all : (n : ℕ) {x : List ℕ} → n ≡ 64 → x ≡ splice d 0 (part s 0 n) → x ≡ s
  copied_all n l e = e ∙ rw (l, part-all s 64 h) (splice-end d 0 s (omega arith))

-- a block from a part of a row to a part of memory: where the row has not 64 bytes there, where memory has not, and where both have
module _ (m : List ℕ) (at : ℕ) (row : List ℕ) (from : ℕ) where
  pub copy-none : length row < from + 64 → m ≡ pick (fits row from 64) (put_w 64 m at (part row from 64)) m
  unfolding fits
  copy-none h = rw (lt-leb _ _ h) refl

  pub copy-fits : from + 64 ≤ length row → put_w 64 m at (part row from 64) ≡ pick (fits row from 64) (put_w 64 m at (part row from 64)) m
  unfolding fits
  copy-fits h = rw (le-leb _ _ h) refl

  pub copy-not : from + 64 ≤ length row → length m < at + 64 → m ≡ pick (fits row from 64) (put_w 64 m at (part row from 64)) m
  copy-not h g = sym (put_w-not 64 m at (part row from 64) g) ∙ copy-fits h
