-- `image::records_good` meets its contract: the records before record i are good, and `next` is the leaf number after the last of them.
use Rattle.std.proofs.Common.{◌≡◌, true}
use Rattle.laws.specs.Scan.{all}
use Rattle.form.specs.Test.{record_in, lowest, good_record}
use Rattle.image.proofs.records_good.Given as goal

abbrev pub invariant-loop-i : goal.invariant-loop-i
invariant-loop-i l = (l.next ≡ lowest l.low (record_in l.block) l.i) × (all (good_record l.n l.low (record_in l.block)) l.i ≡ true)
