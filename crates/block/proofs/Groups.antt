-- Laws of groups in a row of bytes: a group that is all there, one that is not, and what a put changes.
use mathlib.Core.Path.{◌≡◌, sym, ap, ◌∙◌}
use mathlib.Core.List.{List}
use mathlib.Core.Logic.{◌⊎◌}
use Prim.Native.Nat.{ℕ, ◌+◌, ◌*◌, ◌≤◌, ◌<◌}
use native.Mathlib.Omega.{arith}
use lib.ListN.{length, get_or}
use Rattle.laws.specs.Bytes.{part, splice, bytes}
use Rattle.laws.proofs.Splice.{length-splice, part_same, part-other}
use Rattle.laws.proofs.Put.{put_w-fits}
use Rattle.laws.proofs.Value.{value-4, value-bytes, length-bytes, number_at-fits, number_at-not}
use Rattle.block.specs.Block.{group_at, put_group}

module _ (m : List ℕ) (a : ℕ) where
  pub group_at-not : length m < a + 4 → group_at m a ≡ 0
  group_at-not h = number_at-not 4 m a h

  -- byte by byte, as code reads it
  pub group_at-fits : a + 4 ≤ length m
      → group_at m a ≡ get_or m a 0 + 256 * get_or m (a + 1) 0 + 65536 * get_or m (a + 2) 0 + 16777216 * get_or m (a + 3) 0
  group_at-fits h = number_at-fits 4 m a h ∙ value-4 m a h

  pub put_group-fits : (v : ℕ) → a + 4 ≤ length m → put_group m a v ≡ splice m a (bytes 4 v)
  put_group-fits v h = put_w-fits 4 m a (bytes 4 v) h

  -- a group that was put is read again
  pub group_at-put_group-same : (v : ℕ) → a + 4 ≤ length m → v < 4294967296 → group_at (put_group m a v) a ≡ v
  group_at-put_group-same v h l =
      let b = bytes 4 v in
      let lb : length b ≡ 4 = length-bytes 4 v in
      let r : a + length b ≤ length m = omega arith in
      let s : a + 4 ≤ length (splice m a b) = omega (arith, length-splice m a b r) in
      let e : part (splice m a b) a 4 ≡ b = ap (part (splice m a b) a) (sym lb) ∙ part_same m a b r in
      rw (put_group-fits v h, number_at-fits 4 (splice m a b) a s, e) (value-bytes 4 v l)

  -- and one beside it is as it was
  pub group_at-put_group-other : (v c : ℕ) → a + 4 ≤ length m → c + 4 ≤ length m → (c + 4 ≤ a) ⊎ (a + 4 ≤ c) → group_at (put_group m a v) c ≡ group_at m c
  group_at-put_group-other v c h g o =
      let b = bytes 4 v in
      let lb : length b ≡ 4 = length-bytes 4 v in
      let r : a + length b ≤ length m = omega arith in
      let s : c + 4 ≤ length (splice m a b) = omega (arith, length-splice m a b r) in
      let q : (c + 4 ≤ a) ⊎ (a + length b ≤ c) = rw lb o in
      rw (put_group-fits v h, number_at-fits 4 (splice m a b) c s, number_at-fits 4 m c g, part-other m a b c 4 r g q)
