-- The bytes of a number go into its part of the row.
use mathlib.Core.Path.{◌≡◌, ◌∙◌}
use Prim.Native.Nat.{ℕ}
use native.Mathlib.Omega.{arith}
use native.Mathlib.Nat.{div-div-eq-div-mul}
use Rattle.std.specs.Int.{w32, to_le_bytes}
use Rattle.laws.specs.Bytes.{bytes}
use Rattle.laws.proofs.Put.{splice-is}
use Rattle.block.proofs.put_word.Goals as goal

bytes_are : (v : ℕ) → to_le_bytes w32 v ≡ bytes 4 v
unfolding bytes
bytes_are v = rw (div-div-eq-div-mul v 256 256, div-div-eq-div-mul v 65536 256)

pub returns : goal.returns
returns c =
    splice-is c.args.row.now c.args.at 4 (omega arith) (c.copy_from_slice.ensures.after ∙ c.to_le_bytes.ensures ∙ bytes_are c.args.v) c.copy_from_slice.ensures.len
