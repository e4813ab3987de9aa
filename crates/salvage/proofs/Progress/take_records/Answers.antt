-- `salvage::Progress::take_records` meets its contract: the first i records are taken.
use mathlib.Core.Path.{◌≡◌, refl, ◌∙◌}
use native.Mathlib.Omega.{arith}
use Rattle.damaged.specs.Taken.{take_records}
use Rattle.damaged.proofs.Taken.{records-none, records-more}
use Rattle.salvage.proofs.Progress.take_records.Goals as goal

pub loop-i-init : goal.loop-i-init
loop-i-init c = let w = c.args.self.now in
    let b = c.args.block.now in
    record { few = omega arith; goes = record { same = refl; takes = λ o l t h. rw (records-none w.n b.j b.bytes.now t) h } }

pub loop-i-preserved : goal.loop-i-preserved
loop-i-preserved c = let w = c.args.self.now in
    let b = c.args.block.now in
    let L = c.loop-i in
    let r = c.take_record.ensures in
    let g = L.invariant.goes in
    record {
      few = omega (arith, L.invariant.few, r.0);
      goes = record {
        same = r.1.same ∙ g.same;
        takes = λ o l t h. rw (records-more w.n b.j b.bytes.now t L.i) (rw g.same at (r.1.takes o l (take_records w.n b.j b.bytes.now t L.i) (g.takes o l t h)));
      };
    }

pub returns : goal.returns
returns c = let v = c.loop-i.invariant in
    let e : c.loop-i.i ≡ c.args.count = omega arith in
    (omega (arith, v.few), rw (← e) v.goes)
