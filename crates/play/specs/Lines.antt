-- A chunk of a script read as a list: what its lines ask for, what they say and transfer in order, and the text of it.
use Rattle.std.specs.Prelude.{◌≡◌, List, [], ◌∷◌, ◌++◌, ℕ, zero, suc, ◌+◌, ◌-◌, length}
use Rattle.laws.specs.Choice.{pick}
use Rattle.laws.specs.Bytes.{part, splice}
use Rattle.tracker.specs.Answer.{Said}
use Rattle.tracker.specs.declared.Transfers.{Transfers}
use Rattle.script.specs.Script.{Asks, asks_for}
use Rattle.text.specs.Text.{line_text}
use Rattle.rules.specs.Calls.{Out}
use Rattle.rules.specs.Run.{Kept, kept}
use Rattle.play.specs.Play.{Played, line_end, goes_on, line_done}

module _ (rule : Kept → Asks → Out) where
  -- what the lines that are played ask for, at most f of them
  unfoldable pub asked : (f : ℕ) → List ℕ → Played → List Asks
  asked zero input p = []
  asked (suc f) input p = pick (goes_on input p) (asks_for (part input p.taken (line_end input p.taken - p.taken)) ∷ asked f input (line_done rule input p)) []

  -- what they say, each on what the one before passed on
  unfoldable pub said_by : Kept → List Asks → List Said
  said_by k [] = []
  said_by k (a ∷ more) = (rule k a).said ∷ said_by (kept (rule k a)) more

  -- their transfers
  unfoldable pub transfers_by : Kept → List Asks → List Transfers
  transfers_by k [] = []
  transfers_by k (a ∷ more) = (rule k a).transfers ∷ transfers_by (kept (rule k a)) more

  -- what the last of them passes on
  unfoldable pub left_by : Kept → List Asks → Kept
  left_by k [] = k
  left_by k (a ∷ more) = left_by (kept (rule k a)) more

-- the lines of output, numbered on from k: what is said, and the transfers of each
unfoldable pub text_of : ℕ → List Said → List Transfers → List ℕ
text_of k [] ts = []
text_of k (s ∷ ss) [] = []
text_of k (s ∷ ss) (t ∷ ts) = line_text (k + 1) s t ++ text_of (k + 1) ss ts

-- those of a chunk's lines
abbrev pub text_by : (rule : Kept → Asks → Out) → ℕ → Kept → List Asks → List ℕ
text_by rule number k lines = text_of number (said_by rule k lines) (transfers_by rule k lines)

-- q is what p becomes by lines that ask for `lines`: each is done on what the one before passed on, and the text of what they say is put after what is written
pub record Becomes (rule : Kept → Asks → Out) (p q : Played) (lines : List Asks) : Type 0 where
  pub kept : q.kept ≡ left_by rule p.kept lines
  pub number : q.number ≡ p.number + length lines
  pub written : q.written ≡ p.written + length (text_by rule p.number p.kept lines)
  pub output : q.output ≡ splice p.output p.written (text_by rule p.number p.kept lines)
