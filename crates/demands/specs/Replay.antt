-- Replay prints the flat row's answers: what it prints after line 1 are the texts of what the calls of one run said, with their transfers, and that run is one of demand 2's.
use Rattle.std.specs.Prelude.{◌≡◌, List, [], ◌∷◌, ◌++◌, ℕ, length, take}
use Rattle.tracker.specs.Tracker.{read_of, write_of}
use Rattle.tracker.specs.Answer.{Said, no}
use Rattle.rules.specs.Run.{Call, issues}
use Rattle.rules.specs.Run as Run
use Rattle.cache.specs.declared.State.{State}
use Rattle.session.specs.Session.{Starts, kept_of}
use Rattle.script.specs.Script.{Asks, news, reads, writes, steps, drains, bad}
use Rattle.play.specs.declared.Played.{Played}
use Rattle.play.specs.Play.{follows, starts, plays}
use Rattle.play.specs.Lines.{asked, transfers_by, text_of}
use Rattle.play.specs.Seen.{left}
use Rattle.demands.specs.Event.{events}
use Rattle.demands.specs.Demand2.{Log, OneRow}

-- the call that a line asks for; a line that is not of the form, and a later `n`, ask for none
abbrev pub call_for : Asks → List Call
call_for (news n l t) = []
call_for (reads x g bottom) = issues x (read_of bottom g) ∷ []
call_for (writes x g v bottom) = issues x (write_of bottom g v) ∷ []
call_for (steps x) = Run.steps x ∷ []
call_for drains = Run.drains ∷ []
call_for bad = []

unfoldable pub calls_for : List Asks → List Call
calls_for [] = []
calls_for (a ∷ lines) = call_for a ++ calls_for lines

-- What each line says: `no 12` where it asks for no call, and else what its call said; the calls of `lines` said `said`.
abbrev pub says_for : List Call → Said → List Said → List Said
says_for [] a more = no 12 ∷ more
says_for (c ∷ cs) a more = a ∷ more

abbrev pub first_of : List Said → Said
first_of [] = no 12
first_of (a ∷ said) = a

abbrev pub rest_of : List Call → List Said → List Said
rest_of [] said = said
rest_of (c ∷ cs) [] = []
rest_of (c ∷ cs) (a ∷ said) = said

unfoldable pub lines_say : List Asks → List Said → List Said
lines_say [] said = []
lines_say (a ∷ lines) said = says_for (call_for a) (first_of said) (lines_say lines (rest_of (call_for a) said))

-- Line 1 was accepted and left the state s0 and the bytes b0 and m0. Chunks of the script were played, each as `play::play` promises it, on what the one before left:
-- these lines of the script, of which the last has this number, and what was printed for them.
pub data Replays (s0 : State) (b0 m0 : List ℕ) : State → (b m : List ℕ) (number : ℕ) → List Asks → (text : List ℕ) → Type 0 where
  begun : Replays s0 b0 m0 s0 b0 m0 1 [] []
  chunk : {s : State} {b m : List ℕ} {number : ℕ} {lines : List Asks} {text : List ℕ} → Replays s0 b0 m0 s b m number lines text
      → (input output output' b' m' : List ℕ) (r : Played) → left r b' m' output' ≡ plays (kept_of s b m) number input output
      → Replays s0 b0 m0 r.state b' m' r.place.number (lines ++ asked follows (length input) input (starts (kept_of s b m) number output)) (text ++ take r.place.written output')

abbrev pub ReplayPrints : Type 0
ReplayPrints = (t : ℕ) (s s' : State) (b m b' m' : List ℕ) (number : ℕ) (lines : List Asks) (text : List ℕ) → Starts t s b m → Replays s b m s' b' m' number lines text
    → (said : List Said) × (log : Log) × (text ≡ text_of 1 (lines_say lines said) (transfers_by follows (kept_of s b m) lines)) × OneRow s.shape.n m (events (calls_for lines) said) m' log
