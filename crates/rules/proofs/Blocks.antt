-- One block of 64 bytes in a row of blocks, and what a write of it leaves of the others.
use mathlib.Core.Path.{◌≡◌, ap, ◌∙◌, subst}
use mathlib.Core.List.{List}
use mathlib.Core.Logic.{◌⊎◌, inl, inr}
use Prim.Native.Nat.{ℕ, ◌+◌, ◌*◌, ◌<◌, ◌≤◌}
use native.Mathlib.Omega.{arith}
use native.Mathlib.Decide.{dec_lt}
use lib.ListN.{length}
use Rattle.laws.specs.Bytes.{part, splice, put_w}
use Rattle.laws.proofs.Splice.{length-splice, part_same, part-other}
use Rattle.laws.proofs.Put.{length_part, put_w-fits}
use Rattle.memory.specs.True.{block_at}

-- the row m has block b
abbrev pub Has64 : List ℕ → ℕ → Type 0
Has64 m b = 64 * b + 64 ≤ length m

module _ (m : List ℕ) (b : ℕ) (h : Has64 m b) where
  pub block-length : length (block_at m b) ≡ 64
  block-length = length_part m (64 * b) 64 h

  -- another block, where this one's bytes change
  module _ (y : List ℕ) (ly : length y ≡ 64) where
    pub block_fit : 64 * b + length y ≤ length m
    block_fit = omega arith

    pub splice-here : block_at (splice m (64 * b) y) b ≡ y
    splice-here = subst (λ (w : ℕ). part (splice m (64 * b) y) (64 * b) w ≡ y) ly (part_same m (64 * b) y block_fit)

    pub splice-there : (c : ℕ) → Has64 m c → (c ≡ b → ⊥) → block_at (splice m (64 * b) y) c ≡ block_at m c
    splice-there c hc n = part-other m (64 * b) y (64 * c) 64 block_fit hc (sides (dec_lt c b))
      where
        sides : Dec (c < b) → (64 * c + 64 ≤ 64 * b) ⊎ (64 * b + length y ≤ 64 * c)
        sides (yes q) = inl (omega arith)
        sides (no q) = inr (omega arith)

    pub put_is : put_w 64 m (64 * b) y ≡ splice m (64 * b) y
    put_is = put_w-fits 64 m (64 * b) y h

    pub put-length : length (put_w 64 m (64 * b) y) ≡ length m
    put-length = ap length put_is ∙ length-splice m (64 * b) y block_fit

    pub put-here : block_at (put_w 64 m (64 * b) y) b ≡ y
    put-here = rw put_is splice-here

    pub put-there : (c : ℕ) → Has64 m c → (c ≡ b → ⊥) → block_at (put_w 64 m (64 * b) y) c ≡ block_at m c
    put-there c hc n = rw put_is (splice-there c hc n)
