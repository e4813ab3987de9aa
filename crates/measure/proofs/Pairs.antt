-- Laws of a pair: two lines are the same bytes where `==` says so.
use Rattle.std.proofs.Common.{ℕ, ◌≡◌, true, List, subst}
use Rattle.std.specs.Str.{bytes_eq}
use Rattle.std.proofs.lemmas.Slice.Eq.{bytes_eq-Decides}
use Rattle.std.proofs.lemmas.Bool.Decides.{nat_tests}
use Rattle.laws.proofs.Choice.{same_truth}
use Rattle.measure.specs.Pair.{same_bytes}
use Rattle.measure.proofs.Zero.{same-bytes-equal, same-bytes-self}

pub same_bytes_is : (a b : List ℕ) → same_bytes a b ≡ bytes_eq a b
same_bytes_is a b =
    same_truth (same_bytes a b) (bytes_eq a b)
    (λ (h : same_bytes a b ≡ true). (bytes_eq-Decides a b).1 (same-bytes-equal a b h))
    (λ (h : bytes_eq a b ≡ true). let e : a ≡ b = (bytes_eq-Decides a b).0 h in subst (λ (x : List ℕ). same_bytes a x ≡ true) e (same-bytes-self a))

-- what a test says, and when two lines are the same
pub ruleset tests = (nat_tests, same_bytes_is)
