-- `index` meets its contract: the block of level _i, level by level.
use mathlib.Core.Path.{◌≡◌, sym, ◌∙◌}
use native.Mathlib.Omega.{arith}
use Rattle.geometry.proofs.Levels.{index-0, index-more}
use Rattle.geometry.proofs.Geometry.index.Goals as goal

pub loop-i-init : goal.loop-i-init
loop-i-init c = c.leaf_of-k.ensures ∙ sym (index-0 _)

pub loop-i-preserved : goal.loop-i-preserved
loop-i-preserved c = index-more _ _ c.loop-i.invariant c.map_block_of-k.ensures

pub returns : goal.returns
returns c =
    let last : c.loop-i._i ≡ c.args.e = omega arith in
    rw (← last) c.loop-i.invariant
