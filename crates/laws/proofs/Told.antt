-- What is told of a call has one result: a number names at most one refusal, and no value that fits 32 bits is also a refusal.
use mathlib.Core.Path.{◌≡◌, refl, ap, sym, ◌∙◌}
use Prim.Native.Nat.{ℕ, ◌≤◌, ◌<◌}
use native.Mathlib.Omega.{arith}
use Rattle.std.specs.Prelude.{Result, Ok, Err, IfOk}
use Rattle.laws.specs.declared.Refusal.{Refusal}
use Rattle.laws.specs.declared.Refusal.TheVariants.{OutsideLimits, OtherLength, NotTrue, BrokenState, NoTracker, NoGroup, BusyTracker, IdleTracker, NoRoom, WrongCheck, OtherRule, OtherForm, SharedGroup, OtherRun}
use lib.Dec.{eqb}
use Rattle.laws.specs.Choice.{pick}
use Rattle.laws.specs.Refusal.{number, refused_with, given, given_done}

-- the refusal that has a number, where one has it
unfoldable pub named : ℕ → Refusal
named n =
    pick (eqb n 1) OutsideLimits (
    pick (eqb n 2) OtherLength (
    pick (eqb n 3) NotTrue (
    pick (eqb n 4) BrokenState (
    pick (eqb n 5) NoTracker (
    pick (eqb n 6) NoGroup (
    pick (eqb n 7) BusyTracker (
    pick (eqb n 8) IdleTracker (
    pick (eqb n 9) NoRoom (
    pick (eqb n 10) WrongCheck (
    pick (eqb n 11) OtherRule (
    pick (eqb n 12) OtherForm (
    pick (eqb n 13) SharedGroup (
    OtherRun)))))))))))))

pub named-number : (r : Refusal) → named (number r) ≡ r
unfolding named
named-number OutsideLimits = refl
named-number OtherLength = refl
named-number NotTrue = refl
named-number BrokenState = refl
named-number NoTracker = refl
named-number NoGroup = refl
named-number BusyTracker = refl
named-number IdleTracker = refl
named-number NoRoom = refl
named-number WrongCheck = refl
named-number OtherRule = refl
named-number OtherForm = refl
named-number SharedGroup = refl
named-number OtherRun = refl

pub number-one : (p q : Refusal) → number p ≡ number q → p ≡ q
number-one p q e = sym (named-number p) ∙ ap named e ∙ named-number q

pub number-some : (r : Refusal) → 0 < number r
number-some OutsideLimits = omega arith
number-some OtherLength = omega arith
number-some NotTrue = omega arith
number-some BrokenState = omega arith
number-some NoTracker = omega arith
number-some NoGroup = omega arith
number-some BusyTracker = omega arith
number-some IdleTracker = omega arith
number-some NoRoom = omega arith
number-some WrongCheck = omega arith
number-some OtherRule = omega arith
number-some OtherForm = omega arith
number-some SharedGroup = omega arith
number-some OtherRun = omega arith

pub number-most : (r : Refusal) → number r ≤ 15
number-most OutsideLimits = omega arith
number-most OtherLength = omega arith
number-most NotTrue = omega arith
number-most BrokenState = omega arith
number-most NoTracker = omega arith
number-most NoGroup = omega arith
number-most BusyTracker = omega arith
number-most IdleTracker = omega arith
number-most NoRoom = omega arith
number-most WrongCheck = omega arith
number-most OtherRule = omega arith
number-most OtherForm = omega arith
number-most SharedGroup = omega arith
number-most OtherRun = omega arith

pub refused-one : (r s : Result Unit Refusal) → refused_with r ≡ refused_with s → r ≡ s
refused-one (Ok u) (Ok v) e = refl
refused-one (Ok u) (Err q) e = absurd (omega (arith, number-some q))
refused-one (Err p) (Ok v) e = absurd (omega (arith, number-some p))
refused-one (Err p) (Err q) e = ap Err (number-one p q e)

pub given-one : (r s : Result ℕ Refusal) → IfOk r (λ v. v < 4294967296) → IfOk s (λ v. v < 4294967296) → given r ≡ given s → r ≡ s
given-one (Ok a) (Ok b) f g e = ap Ok e
given-one (Ok a) (Err q) f g e = absurd (omega arith)
given-one (Err p) (Ok b) f g e = absurd (omega arith)
given-one (Err p) (Err q) f g e = ap Err (number-one p q (omega arith))

pub done-one : (r s : Result Unit Refusal) → given_done r ≡ given_done s → r ≡ s
done-one (Ok u) (Ok v) e = refl
done-one (Ok u) (Err q) e = absurd (omega (arith, number-some q))
done-one (Err p) (Ok v) e = absurd (omega (arith, number-some p))
done-one (Err p) (Err q) e = ap Err (number-one p q (omega arith))

-- a value may be as large as a refusal's number: which of the two it is, the second says
pub answer-one : (r s : Result ℕ Refusal) → given r ≡ given s → refused_with r ≡ refused_with s → r ≡ s
answer-one (Ok a) (Ok b) e f = ap Ok e
answer-one (Ok a) (Err q) e f = absurd (omega (arith, number-some q))
answer-one (Err p) (Ok b) e f = absurd (omega (arith, number-some p))
answer-one (Err p) (Err q) e f = ap Err (number-one p q f)
