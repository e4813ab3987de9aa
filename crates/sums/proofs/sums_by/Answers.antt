-- `sums::sums_by` meets its contract: the modulus of a version is that of its rule.
use Rattle.sums.proofs.Words.{modulus-old, modulus-new}
use Rattle.sums.proofs.sums_by.Goals as goal

pub returns-then-version-eq1 : goal.returns-then-version-eq1
returns-then-version-eq1 c = rw (modulus-old c.args.version c.if-version-eq1.true) c.old_sums.ensures

pub returns-else-version-eq1 : goal.returns-else-version-eq1
returns-else-version-eq1 c = rw (modulus-new c.args.version c.if-version-eq1.false) c.new_sums.ensures
