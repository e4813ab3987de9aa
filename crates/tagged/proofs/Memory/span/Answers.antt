-- Refusal 6 by either law, or none.
use mathlib.Core.Path.{sym}
use native.Mathlib.Omega.{arith}
use Rattle.geometry.proofs.Places.{groups-most}
use Rattle.tagged.proofs.Refusals.{inside-after, inside-over, inside-0}
use Rattle.tagged.proofs.Memory.span.Goals as goal
use Rattle.tagged.proofs.Memory.span.Goals.{then-b-a-via-then-b-a, then-b-a-via-else-b-a+then-groups-b}

pub returns-then-b-a-clause-told : goal.returns-then-b-a-clause-told
returns-then-b-a-clause-told c =
    elim c.then-b-a.branch [
      | then-b-a-via-then-b-a w ↦ sym (inside-after _ _ _ (omega arith))
      | then-b-a-via-else-b-a+then-groups-b w ↦ sym (inside-over _ _ _ (omega arith))
    ]

pub overflow_cast-result : goal.overflow_cast-result
overflow_cast-result c = omega (arith, c.groups.ensures, groups-most c.args.self.n 262144 c.args.self.few)

pub overflow_cast-result-2 : goal.overflow_cast-result-2
overflow_cast-result-2 c = omega (arith, c.groups.ensures, groups-most c.args.self.n 262144 c.args.self.few)

pub returns-clause-told : goal.returns-clause-told
returns-clause-told c = sym (inside-0 _ _ _ (omega arith) (omega arith))
