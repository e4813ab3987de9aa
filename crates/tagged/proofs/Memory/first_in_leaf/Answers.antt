-- Before each turn every group passed is zero.
use mathlib.Core.Path.{refl, sym, ◌∙◌}
use native.Mathlib.Omega.{arith}
use Rattle.laws.proofs.Scan.{first_from-none}
use Rattle.tagged.specs.Tagged.{is_tagged}
use Rattle.tagged.proofs.Search.{hit-group, skip-group}
use Rattle.tagged.proofs.Memory.first_in_leaf.Goals as goal

pub loop-g-init : goal.loop-g-init
loop-g-init c = refl

pub returns-then-group_at-ne0 : goal.returns-then-group_at-ne0
returns-then-group_at-ne0 c = let a = c.args in let l = c.loop-g in
    sym (hit-group a.self.n a.self.bytes.now a.k l.g a.b c.group_place.result c.group_at.result (omega arith) (omega arith) (omega arith) c.requires.3 c.group_place.ensures c.group_at.ensures c.if-group_at-ne0.true) ∙ l.invariant

pub loop-g-preserved : goal.loop-g-preserved
loop-g-preserved c = let a = c.args in let l = c.loop-g in
    skip-group a.self.n a.self.bytes.now a.k l.g a.b c.group_place.result c.group_at.result (omega arith) (omega arith) (omega arith) c.requires.3 c.group_place.ensures c.group_at.ensures c.if-group_at-ne0.false ∙ l.invariant

pub returns : goal.returns
returns c = let a = c.args in let l = c.loop-g in
    sym (first_from-none (is_tagged a.self.n a.self.bytes.now) l.g a.b (λ k h q. absurd (omega arith))) ∙ l.invariant
