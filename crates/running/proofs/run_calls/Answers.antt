-- `run_calls` meets its contract: between two calls, what is done is the first of them (Going).
use borrow.Author.Rules.{rules}
use mathlib.Core.Path.{◌∙◌}
use Prim.Native.Nat.{◌<◌}
use native.Mathlib.Omega.{arith}
use Rattle.running.proofs.Going.{going_start, going-call, going-named, going-stops}
use Rattle.running.proofs.run_calls.Goals as goal

pub loop-i-init : goal.loop-i-init
loop-i-init c =
    (going_start _ _ _ _ _ _ _ c.row-lines.ensures.0 c.table-trackers.ensures.0 c.requires.0 c.requires.1, c.row-lines.ensures.1, c.table-trackers.ensures.1)

pub offset_bounds-trackers-x : goal.offset_bounds-trackers-x
offset_bounds-trackers-x c =
    let name_in : c.named-x.result < 8 = rw c.named-x.ensures (going-named c.loop-i.invariant.0 _) in
    omega (arith, name_in)

pub bounds-trackers-x : goal.bounds-trackers-x
bounds-trackers-x c =
    let name_in : c.named-x.result < 8 = rw c.named-x.ensures (going-named c.loop-i.invariant.0 _) in
    omega (arith, name_in)

pub offset_bounds-trackers-x-in-loop-i : goal.offset_bounds-trackers-x-in-loop-i
offset_bounds-trackers-x-in-loop-i c =
    let name_in : c.named-x.result < 8 = rw c.named-x.ensures (going-named c.loop-i.invariant.0 _) in
    omega (arith, name_in)

pub bounds-trackers-x-in-loop-i : goal.bounds-trackers-x-in-loop-i
bounds-trackers-x-in-loop-i c =
    let name_in : c.named-x.result < 8 = rw c.named-x.ensures (going-named c.loop-i.invariant.0 _) in
    omega (arith, name_in)

pub put_at-requires : goal.put_at-requires
put_at-requires c = omega (arith, c.loop-i-test.true, c.loop-i.auto.answers, c.requires.2)

pub loop-i-preserved : goal.loop-i-preserved
loop-i-preserved c =
    let k = c.loop-i in (
      going-call _ _ _ _ _ _ _ _ c.take-r.result k.invariant.0 c.asked_in-a.ensures c.named-x.ensures c.take-r.ensures c.put_at.ensures,
      c.take-r.auto.lines ∙ k.invariant.1,
      search rules,
    )

pub returns : goal.returns
returns c =
    let k = c.loop-i in
    going-stops _ _ _ _ _ _ _ _ c.row-lines.ensures.0 c.table-trackers.ensures.0 k.invariant.0 (omega (arith, c.loop-i-test.false, k.auto.i-end))
