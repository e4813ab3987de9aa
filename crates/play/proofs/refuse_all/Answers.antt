-- `refuse_all` meets its contract: between two lines, what is left to do is all there was to do (Rest).
use mathlib.Core.Path.{refl}
use native.Mathlib.Omega.{arith}
use Rattle.play.specs.Play.{refuses, starts, refuses_all}
use Rattle.play.proofs.Going.{rest-start, rest-stops, refusing-line}
use Rattle.play.proofs.refuse_all.Goals as goal

pub loop-e-init : goal.loop-e-init
loop-e-init c =
    rw c.start-place.ensures (λ k. rest-start refuses c.args.input.now (starts k c.args.number c.args.output.now) refl, omega arith)

pub tell-requires : goal.tell-requires
tell-requires c = let g = c.in-Some.ensures in (omega (arith, g.2), g.3)

pub loop-e-smaller : goal.loop-e-smaller
loop-e-smaller c =
    let g = c.in-Some.ensures in
    omega (arith, g.1, g.2, c.tell.ensures.taken)

pub loop-e-preserved : goal.loop-e-preserved
loop-e-preserved c =
    let g = c.in-Some.ensures in
    let t = c.tell.ensures in
    rw (t.number, t.taken) (
      λ k. refusing-line c.args.input.now k _ _ _ _ _ _ (c.loop-e.invariant.0 k) (g.4 k) g.0 c.none.ensures t.output t.written,
      omega (arith, g.2),
    )

pub returns : goal.returns
unfolding refuses_all
returns c = λ k. rest-stops refuses c.args.input.now (c.loop-e.invariant.0 k) (c.in_default.ensures k)
