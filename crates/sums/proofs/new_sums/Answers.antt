-- `sums::new_sums` meets its contract: the loop keeps both sums, which wrap.
use Rattle.std.proofs.Common.{◌≡◌, ◌+◌, ◌*◌, sym, arith}
use Rattle.sums.proofs.Words.{sum_a-none, sum_b-none, sum_a-more, sum_b-more}
use Rattle.sums.proofs.new_sums.Goals as goal

pub loop-k-init : goal.loop-k-init
loop-k-init c = (sym (sum_a-none _ _), sym (sum_b-none _ _))

pub loop-k-preserved : goal.loop-k-preserved
loop-k-preserved c = let b = c.args.block.now in
    let k = 2 * c.loop-k.k in
    let next : k + 1 + 1 ≡ 2 * (c.loop-k.k + 1) = omega arith in
    let a1 = sum_a-more 65536 b k in
    let b1 = sum_b-more 65536 b k in
    let a2 = sum_a-more 65536 b (k + 1) in
    let b2 = sum_b-more 65536 b (k + 1) in
    (rw (← next, a2, a1) (cc), rw (← next, b2, a2, b1, a1) (cc))
