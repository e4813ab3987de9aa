-- `sums::old_sums` meets its contract: the loop keeps both sums without the modulus, which is taken at the end.
use Rattle.std.proofs.Common.{◌≡◌, ◌+◌, ◌*◌, ◌≤◌}
use Rattle.sums.proofs.Words.{plain_a, plain_b}
use Rattle.sums.proofs.old_sums.Given as goal

abbrev pub invariant-loop-k : goal.invariant-loop-k
invariant-loop-k l = (l.a ≡ plain_a l.block l.k) × (l.b ≡ plain_b l.block l.k) × (l.a ≤ 1 + 65535 * l.k) × (l.b ≤ 16711681 * l.k)
