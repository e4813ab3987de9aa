-- Before each turn every group passed is zero.
use mathlib.Core.Path.{◌≡◌}
use Rattle.laws.specs.Scan.{first_from}
use Rattle.tagged.specs.Tagged.{is_tagged}
use Rattle.tagged.proofs.Memory.first_in_leaf.Given as goal

abbrev pub invariant-loop-g : goal.invariant-loop-g
invariant-loop-g l = first_from (is_tagged l.self.n l.self.bytes.now) l.g l.b ≡ first_from (is_tagged l.self.n l.self.bytes.now) l.a l.b
