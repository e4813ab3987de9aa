-- A run of calls that are lent as words: what it leaves is what the rules' calls leave, one after another.
use Rattle.std.specs.Prelude.{List, ◌∷◌, Bool, ℕ, zero, suc, ◌+◌, ◌*◌, ◌/◌, eqb, ltb, length, get_or}
use Rattle.laws.specs.Choice.{pick, both}
use Rattle.laws.specs.Bytes.{splice}
use Rattle.laws.specs.Refusal.{Tests, refusal, unless}
use Rattle.geometry.specs.TagMemory.{values}
use Rattle.rules.specs.Calls.{Out, state_tests}
use Rattle.rules.specs.Run.{Kept, kept}
use Rattle.turn.specs.declared.Asked.{Asked}
use Rattle.turn.specs.declared.Asked.TheVariants.{Other, Issue, Step, Drain}
use Rattle.turn.specs.Turn.{takes}
use Rattle.coding.specs.Words.{state_words, coded, decoded, codes}
use Rattle.coding.specs.Answer.{answer_words, said_coded}
use Rattle.harness.specs.Calls.{Done, done, refused, access_of}

-- the words of a call: what it is (1 issue, 2 step, 3 drain), x, write, bottom, g, v
abbrev pub call_words : ℕ
call_words = 6

abbrev pub calls_in : List ℕ → ℕ
calls_in calls = length calls / call_words

-- what the words from `at` on ask for; a call of another number, and an issue whose value has more than 32 bits, are of another form
unfoldable pub asked_in : List ℕ → ℕ → Asked
asked_in c at =
    let kind = get_or c at 0 in
    let x = get_or c (at + 1) 0 in
    let v = get_or c (at + 5) 0 in
    pick (eqb kind 2) (Step x)
    (pick (eqb kind 3) Drain
    (pick (both (eqb kind 1) (ltb v values)) (Issue x (access_of (get_or c (at + 2) 0) (get_or c (at + 3) 0) (get_or c (at + 4) 0) v)) Other))

-- what calls leave: what is passed on, and the answers' words
pub record Ran : Type 0 where
  pub kept : Kept
  pub answers : List ℕ

-- after a call whose answer stands at `at`
abbrev pub after : List ℕ → ℕ → Out → Ran
after answers at o = record { kept = kept o; answers = splice answers at (said_coded o.said o.transfers) }

-- the first i calls, each on what the one before passed on
unfoldable pub ran : Kept → (calls answers : List ℕ) → ℕ → Ran
ran k calls answers zero = record { kept = k; answers = answers }
ran k calls answers (suc i) =
    let r = ran k calls answers i in
    after r.answers (answer_words * i) (takes r.kept (asked_in calls (call_words * i)))

-- "Lengths wrong: 2, before all else": a state's words, whole calls, as many answers
abbrev pub lengths_fit : (w calls answers : List ℕ) → Bool
lengths_fit w calls answers =
    both (eqb (length w) state_words)
    (both (eqb (length calls) (call_words * calls_in calls)) (eqb (length answers) (answer_words * calls_in calls)))

-- then words that code no state, 4, and what each call on a state asks first
abbrev pub run_tests : (w bytes memory calls answers : List ℕ) → Tests
run_tests w bytes memory calls answers = (lengths_fit w calls answers, 2) ∷ (codes w, 4) ∷ state_tests (decoded w) bytes memory

unfoldable pub tag_run : (w bytes memory calls answers : List ℕ) → Done × List ℕ
tag_run w bytes memory calls answers =
    let r = ran (record { state = decoded w; bytes = bytes; memory = memory }) calls answers (calls_in calls) in
    unless (refusal (run_tests w bytes memory calls answers))
    (done 0 (coded r.kept.state) r.kept.bytes r.kept.memory, r.answers)
    (λ c. (refused c w bytes memory, answers))
