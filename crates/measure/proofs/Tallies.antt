-- Laws of the tally: one more place that is no ending of the same kind and value in both.
use Rattle.std.proofs.Common.{ℕ, ◌+◌, ◌≤◌, max, ◌≡◌, Bool, true, false, refl, arith}
use Rattle.std.specs.Prelude.{None}
use Rattle.std.specs.Int.{from_bool}
use borrow.Author.Tests.{le-ltb}
use Rattle.laws.specs.Choice.{one}
use Rattle.measure.specs.Pair.{drift_of}
use Rattle.measure.specs.Sheet.{stay, plus_blocks, added}
use Rattle.measure.specs.declared.Pair.{Pair}
use Rattle.measure.specs.declared.Tally.{Tally}

pub one-or-none : (b : Bool) → from_bool b ≡ one b
one-or-none true = refl
one-or-none false = refl

still : (x : ℕ) → x ≤ 18446744073709551615 → stay (x + 0) ≡ x
still x h = omega arith

pub added-plain :
    (t : Tally) (p : Pair) →
    p.ending ≡ None →
    t.endings ≤ 18446744073709551615 →
    t.drifted ≤ 18446744073709551615 →
    t.total ≤ 18446744073709551615 →
    t.recorded.fetched ≤ 18446744073709551615 →
    t.recorded.back ≤ 18446744073709551615 →
    t.replayed.fetched ≤ 18446744073709551615 →
    t.replayed.back ≤ 18446744073709551615 →
    added t p ≡ record t { lines = stay (t.lines + 1); changed = stay (t.changed + one p.changed) }
unfolding added plus_blocks drift_of
added-plain t p e a b c f g h i =
    let m : max t.farthest 0 ≡ t.farthest = omega arith in
    rw (e, m, le-ltb t.farthest 0 (omega arith), still t.endings a, still t.drifted b, still t.total c, still t.recorded.fetched f, still t.recorded.back g, still t.replayed.fetched h, still t.replayed.back i)
