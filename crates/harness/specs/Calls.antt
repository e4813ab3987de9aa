-- The calls of a licensee's harness: the state is lent as words, and each gives a number. Each is the rules' own call on the state that the words code.
use Rattle.std.specs.Prelude.{List, [], ◌∷◌, Bool, ℕ, ◌+◌, ◌-◌, ◌*◌, eqb, ltb, length, get_or, Result, Ok, Err}
use Rattle.laws.specs.Choice.{pick, both, one}
use Rattle.laws.specs.Bytes.{part}
use Rattle.laws.specs.declared.Refusal.{Refusal}
use Rattle.laws.specs.Refusal.{Tests, number, refusal, unless}
use Rattle.tracker.specs.declared.Access.{Access}
use Rattle.tracker.specs.declared.Transfers.{Transfers}
use Rattle.tracker.specs.Answer.{Said}
use Rattle.line.specs.Find.{line_of}
use Rattle.rules.specs.State.{State}
use Rattle.rules.specs.Whole.{whole}
use Rattle.rules.specs.Calls.{Out, fresh, opened, issue, step, drain, show_no, show}
use Rattle.coding.specs.Words.{state_words, coded, decoded, codes}
use Rattle.coding.specs.Answer.{refused_by, number_of, answer_words, answer_coded}

-- what a call gives, and the lent words and bytes that it leaves
pub record Done : Type 0 where
  pub number : ℕ
  pub words : List ℕ
  pub bytes : List ℕ
  pub memory : List ℕ

abbrev pub done : ℕ → List ℕ → List ℕ → List ℕ → Done
done number words bytes memory = record { number = number; words = words; bytes = bytes; memory = memory }

-- "a refusal, nothing changed"
abbrev pub refused : ℕ → List ℕ → List ℕ → List ℕ → Done
refused c words bytes memory = done (refused_by c) words bytes memory

-- the number that a call gives: that of its refusal, or its write-backs
abbrev pub number_given : Said → Transfers → ℕ
number_given s t = pick (eqb (number_of s) 0) t.back (number_of s)

-- what a call of the rules did, as words and a number: "from E4 on `tag_drain` gives its write-backs"; fresh, open and issue have none
abbrev pub gives : Out → Done
gives o = done (number_given o.said o.transfers) (coded o.state) o.bytes o.memory

-- "`device` a slice of words, 3 of them: n, T, L"
abbrev pub device_words : ℕ
device_words = 3

-- "A wrong length of `device`, `state` or `answer` is 2, before all else"
abbrev pub begin_tests : List ℕ → List ℕ → Tests
begin_tests device w = (eqb (length device) device_words, 2) ∷ (eqb (length w) state_words, 2) ∷ []

-- fresh and open; "Otherwise refused, fresh and open make the state's words zero", the coding of the zero state
unfoldable pub begins : (ℕ → ℕ → ℕ → Out) → List ℕ → List ℕ → List ℕ → List ℕ → Done
begins f device w bytes memory =
    unless (refusal (begin_tests device w)) (gives (f (get_or device 0 0) (get_or device 1 0) (get_or device 2 0))) (λ c. refused c w bytes memory)

abbrev pub tag_fresh : List ℕ → List ℕ → List ℕ → List ℕ → Done
tag_fresh device w bytes memory = begins (λ n t l. fresh n t l bytes memory) device w bytes memory

abbrev pub tag_open : List ℕ → List ℕ → List ℕ → List ℕ → Done
tag_open device w bytes memory = begins (λ n t l. opened n t l bytes memory) device w bytes memory

-- "words that code no state are a broken state: 4"
abbrev pub word_tests : List ℕ → Tests
word_tests w = (eqb (length w) state_words, 2) ∷ (codes w, 4) ∷ []

-- issue and drain
unfoldable pub called : (State → Out) → List ℕ → List ℕ → List ℕ → Done
called f w bytes memory = unless (refusal (word_tests w)) (gives (f (decoded w))) (λ c. refused c w bytes memory)

-- "`write` and `bottom`: 0 is no, any other number yes"
abbrev pub access_of : (write bottom g v : ℕ) → Access
access_of write bottom g v = record { write = ltb 0 write; bottom = ltb 0 bottom; group = g; value = v }

abbrev pub tag_issue : List ℕ → List ℕ → List ℕ → ℕ → Access → Done
tag_issue w bytes memory x a = called (λ s. issue s bytes memory x a) w bytes memory

abbrev pub tag_drain : List ℕ → List ℕ → List ℕ → Done
tag_drain w bytes memory = called (λ s. drain s bytes memory) w bytes memory

-- a step, with the words of its answer
abbrev pub step_tests : List ℕ → List ℕ → Tests
step_tests w answer = (eqb (length w) state_words, 2) ∷ (eqb (length answer) answer_words, 2) ∷ (codes w, 4) ∷ []

abbrev pub step_gives : Out → List ℕ → Done × List ℕ
step_gives o answer = (done (number_of o.said) (coded o.state) o.bytes o.memory, answer_coded o.said o.transfers answer)

unfoldable pub tag_step : List ℕ → List ℕ → List ℕ → ℕ → List ℕ → Done × List ℕ
tag_step w bytes memory x answer =
    let o = step (decoded w) bytes memory x in
    unless (refusal (step_tests w answer)) (step_gives o answer) (λ c. (refused c w bytes memory, answer))

-- "0 for an empty part, else 1 plus the byte's place, in the line bytes, or 2^40 plus 1 plus the place, in memory"
unfoldable pub shown_at : State → List ℕ → List ℕ → ℕ → ℕ
shown_at s bytes memory k =
    let i = line_of s.lines s.shape.l k in
    unless (show_no s bytes memory k)
    (pick (ltb i s.shape.l) (1 + 64 * i) (pick (eqb (length (show s bytes memory k)) 0) 0 (1099511627776 + (1 + 64 * k))))
    refused_by

-- the 64 bytes that such a number says
abbrev pub bytes_at : List ℕ → List ℕ → ℕ → List ℕ
bytes_at bytes memory p = pick (eqb p 0) [] (pick (ltb p 1099511627776) (part bytes (p - 1) 64) (part memory (p - 1099511627777) 64))

unfoldable pub tag_show : List ℕ → List ℕ → List ℕ → ℕ → ℕ
tag_show w bytes memory k = unless (refusal (word_tests w)) (shown_at (decoded w) bytes memory k) refused_by

-- the refusal of showing: 2, 4, then those of the state; 0 if none
abbrev pub tag_show_no : List ℕ → List ℕ → List ℕ → ℕ → ℕ
tag_show_no w bytes memory k = unless (refusal (word_tests w)) (show_no (decoded w) bytes memory k) (λ c. c)

-- "`tag_whole` gives 1 or 0"
unfoldable pub tag_whole : List ℕ → ℕ
tag_whole w = unless (refusal ((eqb (length w) state_words, 2) ∷ [])) (one (both (codes w) (whole (decoded w)))) refused_by

-- 1 or 0, or the refusal
abbrev pub given_whether : Result Bool Refusal → ℕ
given_whether (Ok b) = one b
given_whether (Err r) = refused_by (number r)
