-- What a step on lent rows promises: what it says, the shape, the tracker, the three rows and the transfers are those of 01's rule.
use Rattle.std.specs.Prelude.{◌≡◌, List, ℕ}
use Rattle.tracker.specs.Answer.{says}
use Rattle.rules.specs.State.{Rows}
use Rattle.rules.specs.Step as rules
use Rattle.placing.specs.Lines.{rows}
use Rattle.outcome.specs.declared.Turned.{Turned}

-- what a step leaves: what it says, the shape, the tracker, the rows and the transfers
abbrev pub turned : Turned → List ℕ → List ℕ → List ℕ → rules.Turned
turned r lines bytes memory = record { said = says r.answer; shape = r.shape; tracker = r.tracker; rows = rows lines bytes memory; transfers = r.transfers }

-- a step that changes no row: it is the rule's whatever the rows are
abbrev pub OnAnyRows : (Rows → rules.Turned) → Turned → Type 0
OnAnyRows want r = (ls bs m : List ℕ) → turned r ls bs m ≡ want (rows ls bs m)

-- a step that does not touch the memory: it is the rule's whatever the memory is
abbrev pub OnAnyMemory : (Rows → rules.Turned) → Turned → (lines bytes lines' bytes' : List ℕ) → Type 0
OnAnyMemory want r lines bytes lines' bytes' = (m : List ℕ) → turned r lines' bytes' m ≡ want (rows lines bytes m)
