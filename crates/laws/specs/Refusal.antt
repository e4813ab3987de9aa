-- Refusals in their order: a list of tests, each with the number of its refusal.
use Rattle.std.specs.Prelude.{List, [], ◌∷◌, Bool, ℕ, ◌+◌, eqb, Result, Ok, Err}
use Rattle.laws.specs.declared.Refusal.{Refusal}
use Rattle.laws.specs.declared.Refusal.TheVariants.{OutsideLimits, OtherLength, NotTrue, BrokenState, NoTracker, NoGroup, BusyTracker, IdleTracker, NoRoom, WrongCheck, OtherRule, OtherForm, SharedGroup, OtherRun}
use Rattle.laws.specs.Choice.{pick}

-- 01 "What is refused", and 02
abbrev pub number : Refusal → ℕ
number OutsideLimits = 1
number OtherLength = 2
number NotTrue = 3
number BrokenState = 4
number NoTracker = 5
number NoGroup = 6
number BusyTracker = 7
number IdleTracker = 8
number NoRoom = 9
number WrongCheck = 10
number OtherRule = 11
number OtherForm = 12
number SharedGroup = 13
number OtherRun = 15

-- the number of what is refused; 0 where nothing is
abbrev pub refused_with : {A : Type 0} → Result A Refusal → ℕ
refused_with (Ok a) = 0
refused_with (Err r) = number r

-- "or 4,294,967,296 plus the refusal"
abbrev pub given : Result ℕ Refusal → ℕ
given (Ok v) = v
given (Err r) = 4294967296 + number r

-- the same of a call that has no value: 0, "or 4,294,967,296 plus the refusal"
abbrev pub given_done : Result Unit Refusal → ℕ
given_done (Ok u) = 0
given_done (Err r) = 4294967296 + number r

abbrev pub Tests : Type 0
Tests = List (Bool × ℕ)

-- the number of the first test that fails; 0 where all hold
unfoldable pub refusal : Tests → ℕ
refusal [] = 0
refusal (t ∷ ts) = pick t.0 (refusal ts) t.1

-- what is done where nothing is refused, and what with the number of a refusal
unfoldable pub unless : {A : Type 0} → ℕ → A → (ℕ → A) → A
unless c a f = pick (eqb c 0) a (f c)
