-- `shown_bit` meets its contract: a block above is a block of the memory.
use Prim.Native.Nat.{suc}
use native.Mathlib.Omega.{arith}
use Rattle.geometry.specs.Shape.{top_of}
use Rattle.geometry.proofs.Places.{map_block_of-few, map_byte_of-lt}
use Rattle.geometry.proofs.Levels.{base-rises, blocks_of-most}
use Rattle.cache.proofs.State.shown_bit.Goals as goal

pub overflow_add-above : goal.overflow_add-above
overflow_add-above c =
    let a = c.args in
    let n = a.self.shape.n in
    let top = top_of a.self.shape in
    omega (arith, c.blocks_of.ensures, c.map_block_of.ensures, map_block_of-few a.k, base-rises n (suc a.e) (suc top) (omega arith), blocks_of-most top n c.requires.0)

pub overflow_cast-above : goal.overflow_cast-above
overflow_cast-above c =
    let a = c.args in
    let n = a.self.shape.n in
    let top = top_of a.self.shape in
    omega (arith, c.blocks_of.ensures, c.map_block_of.ensures, map_block_of-few a.k, base-rises n (suc a.e) (suc top) (omega arith), blocks_of-most top n c.requires.0)

pub overflow_add-j : goal.overflow_add-j
overflow_add-j c = omega (arith, c.map_byte_of.ensures, map_byte_of-lt c.args.k)
