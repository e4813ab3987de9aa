-- Before each turn the marked leaves of the bytes passed are counted.
use mathlib.Core.Path.{◌≡◌, sym, ap, ◌∙◌}
use Prim.Native.Nat.{ℕ, ◌*◌}
use native.Mathlib.Omega.{arith}
use Rattle.laws.specs.Scan.{count_from}
use Rattle.laws.proofs.Scan.{count_from-none}
use Rattle.tagged.specs.Tagged.{is_marked}
use Rattle.tagged.proofs.Marked.{bytes-more, bytes_most}
use Rattle.tagged.proofs.Memory.in_bytes.Goals as goal

pub loop-i-init : goal.loop-i-init
loop-i-init c = let a = c.args in
    sym (count_from-none (is_marked a.self.n a.self.bytes.now) (8 * a.j) (8 * a.j) (λ k h l. absurd (omega arith)))

pub overflow_add-leaves : goal.overflow_add-leaves
overflow_add-leaves c = let a = c.args in let l = c.loop-i in
    omega (arith, bytes_most a.self.n a.self.bytes.now a.j l.i l.leaves c.in_byte-leaves.result (omega arith) l.invariant c.in_byte-leaves.ensures)

pub loop-i-preserved : goal.loop-i-preserved
loop-i-preserved c = let a = c.args in let l = c.loop-i in
    bytes-more a.self.n a.self.bytes.now a.j l.i l.leaves c.in_byte-leaves.result (omega arith) l.invariant c.in_byte-leaves.ensures

pub returns : goal.returns
returns c = let a = c.args in let l = c.loop-i in
    let e : l.i ≡ a.end = omega arith in
    l.invariant ∙ ap (λ (x : ℕ). count_from (is_marked a.self.n a.self.bytes.now) (8 * a.j) (8 * x)) e
