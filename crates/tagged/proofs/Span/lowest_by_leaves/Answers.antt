-- Before each turn every group passed reads zero; a turn goes on to the next leaf with a mark.
use mathlib.Core.Path.{refl, sym, ◌∙◌}
use Prim.Native.Nat.{◌+◌, ◌-◌}
use native.Mathlib.Omega.{arith}
use Rattle.laws.proofs.Scan.{first_from-none}
use Rattle.geometry.proofs.Places.{leaf_of-lt, groups-≤, groups-most}
use Rattle.tagged.specs.Tagged.{is_tagged, lowest}
use Rattle.tagged.proofs.Search.{next-leaf, none_here, k-few, k-low, k-marked, further, ordered, found_here, goes_on}
use Rattle.tagged.proofs.Span.lowest_by_leaves.Goals as goal

pub loop-g-init : goal.loop-g-init
loop-g-init c = (omega arith, omega arith, refl)

pub overflow_add-end : goal.overflow_add-end
overflow_add-end c = let a = c.args in omega (arith, leaf_of-lt a.self.memory.n (a.self.b - 1) (omega arith))

pub returns-then-k-end : goal.returns-then-k-end
unfolding lowest
returns-then-k-end c = let a = c.args in let l = c.loop-g in
    sym (none_here a.self.memory.n a.self.memory.bytes.now l.g a.self.b c.leaf_of-end.result c.leaf_of.result (omega arith) (omega arith) c.leaf_of-end.ensures c.leaf_of.ensures c.next_marked-k.result (c.next_marked-k.ensures ∙ next-leaf _ _ _ _) c.if-k-end.true) ∙ l.invariant.2

pub overflow_cast-groups : goal.overflow_cast-groups
overflow_cast-groups c = let a = c.args in let l = c.loop-g in
    omega (arith, k-low a.self.memory.n a.self.memory.bytes.now l.g a.self.b c.leaf_of-end.result c.leaf_of.result (omega arith) (omega arith) c.leaf_of-end.ensures c.leaf_of.ensures c.next_marked-k.result (c.next_marked-k.ensures ∙ next-leaf _ _ _ _) c.if-k-end.false)

pub overflow_add-k : goal.overflow_add-k
overflow_add-k c = let a = c.args in let l = c.loop-g in
    omega (arith, k-few a.self.memory.n a.self.memory.bytes.now l.g a.self.b c.leaf_of-end.result c.leaf_of.result (omega arith) (omega arith) c.leaf_of-end.ensures c.leaf_of.ensures c.next_marked-k.result (c.next_marked-k.ensures ∙ next-leaf _ _ _ _) c.if-k-end.false)

pub overflow_cast-groups-in-loop-g : goal.overflow_cast-groups-in-loop-g
overflow_cast-groups-in-loop-g c = let a = c.args in let l = c.loop-g in
    omega (arith, groups-≤ (c.next_marked-k.result + 1) a.self.memory.n (omega (arith, k-few a.self.memory.n a.self.memory.bytes.now l.g a.self.b c.leaf_of-end.result c.leaf_of.result (omega arith) (omega arith) c.leaf_of-end.ensures c.leaf_of.ensures c.next_marked-k.result (c.next_marked-k.ensures ∙ next-leaf _ _ _ _) c.if-k-end.false)), groups-most a.self.memory.n 262144 (omega arith))

pub first_in_leaf-found-requires : goal.first_in_leaf-found-requires
first_in_leaf-found-requires c = let a = c.args in let l = c.loop-g in
    (ordered a.self.memory.n a.self.memory.bytes.now l.g a.self.b c.leaf_of-end.result c.leaf_of.result (omega arith) (omega arith) c.leaf_of-end.ensures c.leaf_of.ensures c.next_marked-k.result (c.next_marked-k.ensures ∙ next-leaf _ _ _ _) c.if-k-end.false c.groups.result c.groups-in-loop-g.result c.max-from.result c.min-upto.result c.groups.ensures c.groups-in-loop-g.ensures (omega (arith, c.max-from.ensures)) (λ d h w. omega (arith, c.max-from.ensures)) (omega (arith, c.min-upto.ensures)) (λ d h w. omega (arith, c.min-upto.ensures)), omega arith, omega arith, k-marked a.self.memory.n a.self.memory.bytes.now l.g a.self.b c.leaf_of-end.result c.leaf_of.result (omega arith) (omega arith) c.leaf_of-end.ensures c.leaf_of.ensures c.next_marked-k.result (c.next_marked-k.ensures ∙ next-leaf _ _ _ _) c.if-k-end.false)

pub returns-then-found-upto : goal.returns-then-found-upto
unfolding lowest
returns-then-found-upto c = let a = c.args in let l = c.loop-g in
    found_here a.self.memory.n a.self.memory.bytes.now l.g a.self.b c.leaf_of-end.result c.leaf_of.result (omega arith) (omega arith) c.leaf_of-end.ensures c.leaf_of.ensures c.next_marked-k.result (c.next_marked-k.ensures ∙ next-leaf _ _ _ _) c.if-k-end.false c.groups.result c.groups-in-loop-g.result c.max-from.result c.min-upto.result c.groups.ensures c.groups-in-loop-g.ensures (omega (arith, c.max-from.ensures)) (λ d h w. omega (arith, c.max-from.ensures)) (omega (arith, c.min-upto.ensures)) (λ d h w. omega (arith, c.min-upto.ensures)) c.first_in_leaf-found.result c.first_in_leaf-found.ensures c.if-found-upto.true ∙ l.invariant.2

pub loop-g-smaller : goal.loop-g-smaller
loop-g-smaller c = let a = c.args in let l = c.loop-g in
    omega (arith, further a.self.memory.n a.self.memory.bytes.now l.g a.self.b c.leaf_of-end.result c.leaf_of.result (omega arith) (omega arith) c.leaf_of-end.ensures c.leaf_of.ensures c.next_marked-k.result (c.next_marked-k.ensures ∙ next-leaf _ _ _ _) c.if-k-end.false c.groups.result c.groups-in-loop-g.result c.max-from.result c.min-upto.result c.groups.ensures c.groups-in-loop-g.ensures (omega (arith, c.max-from.ensures)) (λ d h w. omega (arith, c.max-from.ensures)) (omega (arith, c.min-upto.ensures)) (λ d h w. omega (arith, c.min-upto.ensures)))

pub loop-g-preserved : goal.loop-g-preserved
loop-g-preserved c = let a = c.args in let l = c.loop-g in
    (omega (arith, further a.self.memory.n a.self.memory.bytes.now l.g a.self.b c.leaf_of-end.result c.leaf_of.result (omega arith) (omega arith) c.leaf_of-end.ensures c.leaf_of.ensures c.next_marked-k.result (c.next_marked-k.ensures ∙ next-leaf _ _ _ _) c.if-k-end.false c.groups.result c.groups-in-loop-g.result c.max-from.result c.min-upto.result c.groups.ensures c.groups-in-loop-g.ensures (omega (arith, c.max-from.ensures)) (λ d h w. omega (arith, c.max-from.ensures)) (omega (arith, c.min-upto.ensures)) (λ d h w. omega (arith, c.min-upto.ensures))), omega arith, goes_on a.self.memory.n a.self.memory.bytes.now l.g a.self.b c.leaf_of-end.result c.leaf_of.result (omega arith) (omega arith) c.leaf_of-end.ensures c.leaf_of.ensures c.next_marked-k.result (c.next_marked-k.ensures ∙ next-leaf _ _ _ _) c.if-k-end.false c.groups.result c.groups-in-loop-g.result c.max-from.result c.min-upto.result c.groups.ensures c.groups-in-loop-g.ensures (omega (arith, c.max-from.ensures)) (λ d h w. omega (arith, c.max-from.ensures)) (omega (arith, c.min-upto.ensures)) (λ d h w. omega (arith, c.min-upto.ensures)) c.first_in_leaf-found.result c.first_in_leaf-found.ensures (omega arith) ∙ l.invariant.2)

pub returns : goal.returns
unfolding lowest
returns c = let a = c.args in let l = c.loop-g in
    sym (first_from-none (is_tagged a.self.memory.n a.self.memory.bytes.now) l.g a.self.b (λ k h q. absurd (omega arith))) ∙ l.invariant.2
