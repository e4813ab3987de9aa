-- `image::records_good` meets its contract: the records before record i are good, and `next` is the leaf number after the last of them.
use Rattle.std.proofs.Common.{◌≡◌, ◌+◌, ◌*◌, sym, ◌∙◌, arith}
use Rattle.laws.proofs.Scan.{all-zero, all_more, all-fails}
use Rattle.laws.proofs.Put.{part-is}
use Rattle.form.specs.Test.{record_in, good_record}
use Rattle.form.proofs.Rules.{lowest-none, lowest-more, good-is}
use Rattle.image.proofs.records_good.Goals as goal

pub loop-i-init : goal.loop-i-init
loop-i-init c = (sym (lowest-none _ _), all-zero _)

pub returns-then-not-record_good : goal.returns-then-not-record_good
returns-then-not-record_good c = let a = c.args in
    let l = c.loop-i in
    let good : good_record a.n a.low (record_in a.block.now) l.i ≡ c.record_good.result =
    cc (good-is a.n a.low (record_in a.block.now) l.i l.next l.invariant.0, part-is a.block.now (12 + 68 * l.i) 64) in
    rw (all-fails (good_record a.n a.low (record_in a.block.now)) a.count l.i (omega arith) (good ∙ c.if-not-record_good.true))

pub loop-i-preserved : goal.loop-i-preserved
loop-i-preserved c = let a = c.args in
    let l = c.loop-i in
    let good : good_record a.n a.low (record_in a.block.now) l.i ≡ c.record_good.result =
    cc (good-is a.n a.low (record_in a.block.now) l.i l.next l.invariant.0, part-is a.block.now (12 + 68 * l.i) 64) in (
      cc (lowest-more a.low (record_in a.block.now) l.i),
      all_more (good_record a.n a.low (record_in a.block.now)) l.i l.invariant.1 (good ∙ c.if-not-record_good.false),
    )
