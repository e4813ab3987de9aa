-- A run: any list of calls, each handed the state and the bytes that the one before handed back.
use Rattle.std.specs.Prelude.{List, [], ◌∷◌, ℕ}
use Rattle.laws.specs.Choice.{pick}
use Rattle.tracker.specs.declared.Access.{Access}
use Rattle.tracker.specs.declared.Transfers.{Transfers}
use Rattle.tracker.specs.Answer.{Said}
use Rattle.rules.specs.State.{State, Rows, lengths_right}
use Rattle.rules.specs.Calls.{Out, issue, step, drain}

-- a call with what its caller names. `lends` is the call with other lent bytes, of other lengths; where their lengths are right they are the run's own.
pub data Call : Type 0 where
  issues : (x : ℕ) (a : Access) → Call
  steps : (x : ℕ) → Call
  drains : Call
  lends : (bytes memory : List ℕ) → Call → Call

-- what a run passes on
pub record Kept : Type 0 where
  pub state : State
  pub bytes : List ℕ
  pub memory : List ℕ

abbrev pub kept : Out → Kept
kept o = record { state = o.state; bytes = o.bytes; memory = o.memory }

-- the lines with the bytes and the memory
abbrev pub rows_of : Kept → Rows
rows_of k = record { lines = k.state.lines; bytes = k.bytes; memory = k.memory }

-- a call that lent other bytes leaves the run's own alone
abbrev pub elsewhere : Out → Kept → Out
elsewhere o k = record { said = o.said; state = o.state; bytes = k.bytes; memory = k.memory; transfers = o.transfers }

unfoldable pub does : Kept → Call → Out
does k (issues x a) = issue k.state k.bytes k.memory x a
does k (steps x) = step k.state k.bytes k.memory x
does k drains = drain k.state k.bytes k.memory
does k (lends b m c) =
    pick (lengths_right k.state.shape b m) (does k c)
    (elsewhere (does (record { state = k.state; bytes = b; memory = m }) c) k)

-- what the calls of a run say, in order, and what it passes on at the end
unfoldable pub answers : Kept → List Call → List Said
answers k [] = []
answers k (c ∷ cs) = (does k c).said ∷ answers (kept (does k c)) cs

unfoldable pub ended : Kept → List Call → Kept
ended k [] = k
ended k (c ∷ cs) = ended (kept (does k c)) cs

-- the transfers that the calls of a run carry, in order
unfoldable pub transfers : Kept → List Call → List Transfers
transfers k [] = []
transfers k (c ∷ cs) = (does k c).transfers ∷ transfers (kept (does k c)) cs
