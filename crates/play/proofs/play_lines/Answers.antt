-- `play_lines` meets its contract: between two lines, what is left to do is all there was to do (Going).
use borrow.Author.Rules.{rules}
use mathlib.Core.Path.{refl, ◌∙◌}
use Prim.Native.Nat.{◌<◌}
use native.Mathlib.Omega.{arith}
use Rattle.laws.specs.Bytes.{part}
use Rattle.rules.specs.Run.{Kept}
use Rattle.play.proofs.Going.{going_start, going-line, going-named, going-stops}
use Rattle.play.proofs.play_lines.Goals as goal

pub loop-e-init : goal.loop-e-init
loop-e-init c =
    rw c.start-place.ensures
    (going_start _ _ _ _ _ _ _ _ c.row-lines.ensures.0 c.table-trackers.ensures.0 c.requires.0 c.requires.1, c.row-lines.ensures.1, c.table-trackers.ensures.1, refl, refl, refl)

pub offset_bounds-trackers-x : goal.offset_bounds-trackers-x
offset_bounds-trackers-x c =
    let name_in : c.named-x.result < 8 = rw c.named-x.ensures (going-named _ c.loop-e.invariant.0 _) in
    omega (arith, name_in)

pub bounds-trackers-x : goal.bounds-trackers-x
bounds-trackers-x c =
    let name_in : c.named-x.result < 8 = rw c.named-x.ensures (going-named _ c.loop-e.invariant.0 _) in
    omega (arith, name_in)

pub offset_bounds-trackers-x-in-Some : goal.offset_bounds-trackers-x-in-Some
offset_bounds-trackers-x-in-Some c =
    let name_in : c.named-x.result < 8 = rw c.named-x.ensures (going-named _ c.loop-e.invariant.0 _) in
    omega (arith, name_in)

pub bounds-trackers-x-in-Some : goal.bounds-trackers-x-in-Some
bounds-trackers-x-in-Some c =
    let name_in : c.named-x.result < 8 = rw c.named-x.ensures (going-named _ c.loop-e.invariant.0 _) in
    omega (arith, name_in)

pub loop-e-preserved : goal.loop-e-preserved
unfolding part
loop-e-preserved c =
    let k = c.loop-e in
    let g = c.in-Some.ensures in
    let t = c.tell.ensures in
    let lent = c.take-r.auto in
    let kept : Kept = record { state = record { shape = k.shape; lines = k.lines; trackers = k.trackers }; bytes = k.bytes; memory = k.memory } in
    rw (t.number, t.taken) (
      going-line c.args.input.now _ _ _ _ _ _ _ _ _ _ _ _ _ c.take-r.result k.invariant.0 (g.4 kept) g.0 c.parse.ensures c.asked-a.ensures c.named-x.ensures c.take-r.ensures
          t.output t.written,
      lent.lines ∙ k.invariant.1,
      search rules,
      lent.bytes ∙ k.invariant.3,
      lent.memory ∙ k.invariant.4,
      search rules,
    )

pub returns : goal.returns
returns c =
    let k = c.loop-e in
    let kept : Kept = record { state = record { shape = k.shape; lines = k.lines; trackers = k.trackers }; bytes = k.bytes; memory = k.memory } in
    going-stops c.args.input.now _ _ _ _ _ _ _ c.row-lines.ensures.0 c.table-trackers.ensures.0 k.invariant.0 (c.in_default.ensures kept)
