-- What is asked for, on the one tracker that it names: what the code works on. proofs/Does.antt shows that in a whole state it is what `takes` says.
use Rattle.std.specs.Prelude.{List, ℕ, ltb}
use Rattle.laws.specs.Choice.{pick}
use Rattle.laws.specs.Refusal.{refusal, unless}
use Rattle.laws.specs.Scan.{all}
use Rattle.geometry.specs.declared.Shape.{Shape}
use Rattle.tracker.specs.declared.Access.{Access}
use Rattle.tracker.specs.declared.Transfers.{Transfers}
use Rattle.tracker.specs.declared.Tracker.{Tracker}
use Rattle.tracker.specs.Transfers.{none}
use Rattle.tracker.specs.Tracker.{is_idle, issued}
use Rattle.tracker.specs.Answer.{ok}
use Rattle.rules.specs.State.{Rows, tracker_at}
use Rattle.rules.specs.Step.{Turned, refuses, turn_of}
use Rattle.rules.specs.Calls.{Out, refused, issue_tests, step_tests, drain_tests}
use Rattle.rules.specs.Run.{Kept, does, issues, steps, drains}
use Rattle.placing.specs.Lines.{drained_on}
use Rattle.turn.specs.declared.Asked.{Asked}
use Rattle.turn.specs.declared.Asked.TheVariants.{Other, Issue, Step, Drain}

-- what is asked for is the rules' call; what has another form gets 12
abbrev pub takes : Kept → Asked → Out
takes k Other = refused 12 k.state k.bytes k.memory
takes k (Issue x a) = does k (issues x a)
takes k (Step x) = does k (steps x)
takes k Drain = does k drains

-- the tracker, of t, that is named; 0 where none is
unfoldable pub named : (t : ℕ) → Asked → ℕ
named t Other = 0
named t (Issue x a) = pick (ltb x t) x 0
named t (Step x) = pick (ltb x t) x 0
named t Drain = 0

-- a call that is accepted
abbrev pub accepts : Shape → Tracker → Transfers → Rows → Turned
accepts shape u m r = record { said = ok; shape = shape; tracker = u; rows = r; transfers = m }

-- an issue to tracker x, among the trackers us; u is the one that is left
unfoldable pub issue_turn : Shape → (x : ℕ) → Access → (us : List Tracker) (u : Tracker) → Rows → Turned
issue_turn shape x a us u r =
    unless (refusal (issue_tests shape x a us)) (accepts shape (issued a) none r) (λ c. refuses c u shape r)

-- a step of tracker x, which is u
unfoldable pub step_turn : Shape → (x : ℕ) (us : List Tracker) (u : Tracker) → Rows → Turned
step_turn shape x us u r = unless (refusal (step_tests shape x us)) (turn_of shape x u r) (λ c. refuses c u shape r)

-- a drain
unfoldable pub drain_turn : Shape → (us : List Tracker) (u : Tracker) → Rows → Turned
drain_turn shape us u r =
    let d = drained_on shape r in
    unless (refusal (drain_tests (all (λ x. is_idle (tracker_at us x)) shape.t))) (accepts shape u d.copies d.rows) (λ c. refuses c u shape r)

unfoldable pub asked_turn : Shape → Asked → (us : List Tracker) (u : Tracker) → Rows → Turned
asked_turn shape Other us u r = refuses 12 u shape r
asked_turn shape (Issue x a) us u r = issue_turn shape x a us u r
asked_turn shape (Step x) us u r = step_turn shape x us u r
asked_turn shape Drain us u r = drain_turn shape us u r
