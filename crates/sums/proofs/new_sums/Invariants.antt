-- `sums::new_sums` meets its contract: the loop keeps both sums, which wrap.
use Rattle.std.proofs.Common.{◌≡◌, ◌*◌}
use Rattle.sums.specs.Check.{sum_a, sum_b}
use Rattle.sums.proofs.new_sums.Given as goal

abbrev pub invariant-loop-k : goal.invariant-loop-k
invariant-loop-k l = (l.a ≡ sum_a 65536 l.block (2 * l.k)) × (l.b ≡ sum_b 65536 l.block (2 * l.k))
