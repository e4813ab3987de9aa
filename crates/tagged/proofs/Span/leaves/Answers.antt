-- None where A is B; else the marked leaves from the one to the other.
use mathlib.Core.Path.{sym}
use Prim.Native.Nat.{◌-◌}
use native.Mathlib.Omega.{arith}
use Rattle.geometry.proofs.Places.{leaf_of-lt, leaf_of-≤}
use Rattle.tagged.proofs.Refusals.{leaves_none, leaves-some}
use Rattle.tagged.proofs.Span.leaves.Goals as goal

pub returns-then-self : goal.returns-then-self
returns-then-self c = let a = c.args in sym (leaves_none a.self.memory.n a.self.memory.bytes.now a.self.a a.self.b (omega arith))

pub count_marked-requires : goal.count_marked-requires
count_marked-requires c = let a = c.args in
    (omega (arith, leaf_of-≤ a.self.a (a.self.b - 1) (omega arith)), omega (arith, leaf_of-lt a.self.memory.n (a.self.b - 1) (omega arith)))

pub returns : goal.returns
returns c = let a = c.args in
    leaves-some a.self.memory.n a.self.memory.bytes.now a.self.a a.self.b c.leaf_of.result c.leaf_of-2.result c.count_marked.result (omega arith) c.leaf_of.ensures c.leaf_of-2.ensures c.count_marked.ensures
