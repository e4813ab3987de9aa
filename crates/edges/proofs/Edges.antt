-- The table holds: each case by the law of its call's way out.
use mathlib.Core.Path.{◌≡◌, refl, sym, ◌∙◌}
use mathlib.Core.Bool.{true, false}
use mathlib.Core.List.{List}
use Prim.Native.Nat.{ℕ, ◌+◌, ◌*◌, ◌≤◌, ◌<◌}
use native.Mathlib.Omega.{arith}
use borrow.Author.Tests.{le-leb, lt-leb}
use lib.Dec.{ltb}
use lib.ListN.{length}
use Rattle.geometry.specs.Shape.{shape_of}
use Rattle.geometry.specs.TagMemory.{groups, in_limits, memory_length}
use Rattle.laws.specs.Refusal.{refusal, unless}
use Rattle.laws.specs.Choice.{pick, both}
use Rattle.laws.specs.Scan.{all}
use Rattle.laws.proofs.Choice.{both_true, both-false-left, both-false-right}
use Rattle.geometry.proofs.Shapes.{below-start}
use Rattle.geometry.proofs.Lengths.{length-1, length-512, length-513, length_most}
use Rattle.geometry.proofs.Limits.{in_limits-is, in_limits-none, in_limits-over}
use Rattle.memory.proofs.Reading as reading
use Rattle.tracker.specs.declared.Access.{Access}
use Rattle.tracker.specs.Answer.{ok, no}
use Rattle.rules.specs.State.{lengths_right, begun}
use Rattle.rules.specs.Whole.{limits}
use Rattle.rules.specs.Calls.{fresh, meets, meets_none, issue_tests, issue}
use Rattle.rules.proofs.Begun.{begun-whole}
use Rattle.rules.proofs.Calls.{lengths-right, issue-accepted, issue-refused}
use Rattle.rules.proofs.Worked.{worked}
use Rattle.archive.proofs.Facts.{head-check, old-head-check, blocks-0, blocks-7, blocks-8}
use Rattle.edges.specs.Edges.{Edges}

limits-over : (n t l : ℕ) → in_limits n ≡ false → limits (shape_of n t l) ≡ false
unfolding limits
limits-over n t l e = rw (below-start n t l) (both-false-left _ _ e)

limits-is : (n t : ℕ) → 1 ≤ n → n ≤ 262144 → 1 ≤ t → t ≤ 8 → limits (shape_of n t (t + 1)) ≡ true
unfolding limits
limits-is n t a b c d =
    let m : t + 1 ≤ 64 = omega arith in
    let r : 1 * t + 1 ≤ t + 1 = omega arith in
    rw (below-start n t (t + 1)) (both_true _ _ (in_limits-is 1 n a b) (both_true _ _ (both_true _ _ (le-leb _ _ c) (le-leb _ _ d)) (both_true _ _ (le-leb _ _ r) (le-leb _ _ m))))

limits-equal : (n t : ℕ) → limits (shape_of n t t) ≡ false
unfolding limits
limits-equal n t =
    let q : t < 1 * t + 1 = omega arith in
    rw (below-start n t t) (both-false-right _ _ (both-false-right _ _ (both-false-left _ _ (lt-leb _ _ q))))

lengths-are : (n t l : ℕ) (bytes memory : List ℕ) → length bytes ≡ 64 * l → length memory ≡ memory_length n → lengths_right (shape_of n t l) bytes memory ≡ true
lengths-are n t l bytes memory p q = lengths-right (shape_of n t l) bytes memory p (rw (below-start n t l) q)

-- one leaf has groups 0 to 15
sixteen : groups 1 ≤ 16
unfolding groups
sixteen = omega arith

refused-1 : (n t l : ℕ) (bytes memory : List ℕ) → limits (shape_of n t l) ≡ false → (fresh n t l bytes memory).said ≡ no 1
unfolding fresh refusal unless
refused-1 n t l bytes memory e = rw e

passes : (n t l : ℕ) (bytes memory : List ℕ) → limits (shape_of n t l) ≡ true → lengths_right (shape_of n t l) bytes memory ≡ true → (fresh n t l bytes memory).said ≡ ok
unfolding fresh refusal unless
passes n t l bytes memory e q = rw (e, q)

begins : (n t l : ℕ) (bytes memory : List ℕ) → limits (shape_of n t l) ≡ true → lengths_right (shape_of n t l) bytes memory ≡ true → (fresh n t l bytes memory).state ≡ begun (shape_of n t l)
unfolding fresh refusal unless
begins n t l bytes memory e q = rw (e, q)

module _ (bytes memory : List ℕ) (p : length bytes ≡ 128) (q : length memory ≡ 128) where
  one-leaf : limits (shape_of 1 1 2) ≡ true
  one-leaf = limits-is 1 1 (omega arith) (omega arith) (omega arith) (omega arith)

  right : lengths_right (shape_of 1 1 2) bytes memory ≡ true
  right = lengths-are 1 1 2 bytes memory p (q ∙ sym length-1)

  -- the refusal of an issue to the one tracker
  issue-no : (access : Access) → refusal (issue_tests (shape_of 1 1 2) 0 access (begun (shape_of 1 1 2)).trackers) ≡ pick (ltb access.group 16) 0 6
  unfolding refusal groups meets_none all meets both
  issue-no access = refl

  last-group : (access : Access) → access.group ≡ 15 → (issue (fresh 1 1 2 bytes memory).state bytes memory 0 access).said ≡ ok
  last-group access e =
      let free : refusal (issue_tests (shape_of 1 1 2) 0 access (begun (shape_of 1 1 2)).trackers) ≡ 0 = issue-no access ∙ rw e refl in
      rw (begins 1 1 2 bytes memory one-leaf right, issue-accepted (begun (shape_of 1 1 2)) bytes memory (begun-whole 1 1 2 one-leaf) right 0 access free)

  past-group : (access : Access) → access.group ≡ 16 → (issue (fresh 1 1 2 bytes memory).state bytes memory 0 access).said ≡ no 6
  past-group access e =
      let six : refusal (issue_tests (shape_of 1 1 2) 0 access (begun (shape_of 1 1 2)).trackers) ≡ 6 = issue-no access ∙ rw e refl in
      rw (begins 1 1 2 bytes memory one-leaf right, issue-refused (begun (shape_of 1 1 2)) bytes memory (begun-whole 1 1 2 one-leaf) right 0 access (omega arith), six)

pub edges : Edges
edges = record {
  n-none = λ t l bytes memory. refused-1 0 t l bytes memory (limits-over 0 t l (in_limits-none 1 0 (omega arith)));
  n-over = λ t l bytes memory. refused-1 262145 t l bytes memory (limits-over 262145 t l (in_limits-over 1 262145 (omega arith)));
  n-least = λ bytes memory p q. passes 1 1 2 bytes memory (one-leaf bytes memory p q) (right bytes memory p q);
  n-most = λ bytes memory p q. passes 262144 1 2 bytes memory (limits-is 262144 1 (omega arith) (omega arith) (omega arith) (omega arith))
      (lengths-are 262144 1 2 bytes memory p (q ∙ sym length_most));
  l-is-t = λ n t bytes memory. refused-1 n t t bytes memory (limits-equal n t);
  l-one-more = λ t bytes memory a b p q. passes 1 t (t + 1) bytes memory (limits-is 1 t (omega arith) (omega arith) a b)
      (lengths-are 1 t (t + 1) bytes memory p (q ∙ sym length-1));
  group-15 = λ bytes memory access g p q. last-group bytes memory p q access g;
  group-16 = λ bytes memory access g p q. past-group bytes memory p q access g;
  reading-16 = λ memory q. reading.refused-6 1 memory 16 (in_limits-is 1 1 (omega arith) (omega arith)) (q ∙ sym length-1) sixteen;
  length-1 = length-1;
  length-512 = length-512;
  length-513 = length-513;
  length_most = length_most;
  head-check = head-check;
  old-head-check = old-head-check;
  blocks-0 = blocks-0;
  blocks-7 = blocks-7;
  blocks-8 = blocks-8;
  case-r = worked.case-r;
}
