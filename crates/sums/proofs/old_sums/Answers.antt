-- `sums::old_sums` meets its contract: the loop keeps both sums without the modulus, which is taken at the end.
use Rattle.std.proofs.Common.{◌≡◌, sym, arith}
use Rattle.sums.proofs.Words.{plain_a-none, plain_b-none, plain_a-more, plain_b-more, sum_a-plain, sum_b-plain}
use Rattle.sums.proofs.old_sums.Goals as goal

pub loop-k-init : goal.loop-k-init
loop-k-init c = (sym (plain_a-none _), sym (plain_b-none _), omega arith, omega arith)

pub loop-k-preserved : goal.loop-k-preserved
loop-k-preserved c = (rw plain_a-more (cc), rw (plain_b-more, plain_a-more) (cc), omega arith, omega arith)

pub returns : goal.returns
returns c = let b = c.args.block.now in
    let e : c.loop-k.k ≡ 254 = omega arith in
    (cc (sum_a-plain 65535 b 254 (omega arith)), cc (sum_b-plain 65535 b 254 (omega arith)))
