-- One byte masked at both ends; or the first, whole bytes, and the last.
use Prim.Native.Nat.{◌+◌, ◌*◌, ◌/◌, ◌%◌}
use native.Mathlib.Omega.{arith}
use Rattle.laws.proofs.Scan.{count_from-most}
use Rattle.tagged.specs.Tagged.{is_marked}
use Rattle.tagged.proofs.Marked.{one_byte, more_bytes, more-most}
use Rattle.tagged.proofs.Memory.count_marked.Goals as goal

pub returns-then-here-there : goal.returns-then-here-there
returns-then-here-there c = let a = c.args in
    one_byte a.self.n a.self.bytes.now a.k a.l (a.k / 8) (a.k % 8) (a.l % 8 + 1) c.in_byte.result (omega arith) (omega arith) c.in_byte.ensures

pub overflow_add-result : goal.overflow_add-result
overflow_add-result c = let a = c.args in
    omega (arith, count_from-most (is_marked a.self.n a.self.bytes.now) (8 * (a.k / 8) + a.k % 8) (8 * (a.k / 8) + 8) (omega arith), count_from-most (is_marked a.self.n a.self.bytes.now) (8 * (a.k / 8 + 1)) (8 * (a.l / 8)) (omega arith))

pub overflow_add-result-2 : goal.overflow_add-result-2
overflow_add-result-2 c = let a = c.args in
    omega (arith, more-most a.self.n a.self.bytes.now a.k a.l (a.k / 8) (a.l / 8) (a.k % 8) (a.l % 8 + 1) c.in_byte-low.result c.in_bytes-whole.result c.in_byte-2.result (omega arith) (omega arith) (omega arith) (omega arith) c.in_byte-low.ensures c.in_bytes-whole.ensures c.in_byte-2.ensures)

pub returns : goal.returns
returns c = let a = c.args in
    more_bytes a.self.n a.self.bytes.now a.k a.l (a.k / 8) (a.l / 8) (a.k % 8) (a.l % 8 + 1) c.in_byte-low.result c.in_bytes-whole.result c.in_byte-2.result (omega arith) (omega arith) (omega arith) (omega arith) c.in_byte-low.ensures c.in_bytes-whole.ensures c.in_byte-2.ensures
