-- A run of the rules beside the flat machine: what the machine is given, and where it begins.
use Rattle.std.specs.Prelude.{List, [], ◌∷◌, Bool, false, ℕ, ◌<◌, ltb}
use Rattle.geometry.specs.Shape.{at_hand, top_of}
use Rattle.geometry.specs.TagMemory.{block_over, values}
use Rattle.memory.specs.PlainReading.{plain_group_of}
use Rattle.tracker.specs.Transfers.{none}
use Rattle.line.specs.Find.{line_of}
use Rattle.rules.specs.State.{tracker_at}
use Rattle.rules.specs.Run.{Call, issues, steps, drains, lends, Kept, kept, does}
use Rattle.flat.specs.Flat.{Flat, Unseen, Given}

-- Whether the block of level e of the access that is stepped is in a line: all that an answer needs and the row does not say.
abbrev pub found : Kept → (x e : ℕ) → Bool
found k x e = ltb (line_of k.state.lines k.state.shape.l (block_over e k.state.shape.n (tracker_at k.state.trackers x).group)) k.state.shape.l

-- with the transfers of its tracker after the step
unfoldable pub unseen : Kept → Call → Unseen
unseen k (issues x access) = record { found = λ e. false; transfers = none }
unseen k (steps x) = record { found = found k x; transfers = (tracker_at (does k (steps x)).state.trackers x).transfers }
unseen k drains = record { found = λ e. false; transfers = none }
unseen k (lends b m c) = unseen k c

-- the calls of a run as the flat row is given them
unfoldable pub given : Kept → List Call → List Given
given k [] = []
given k (c ∷ cs) = record { call = c; unseen = unseen k c } ∷ given (kept (does k c)) cs

-- the flat machine at the beginning of a run: the row is what the memory reads
abbrev pub flat_of : Kept → Flat
flat_of k = record { shape = at_hand k.state.shape 0; row = plain_group_of (top_of k.state.shape) k.state.shape.n k.memory; trackers = k.state.trackers }

-- a call's value is an unsigned 32-bit number
abbrev pub Value32 : Call → Type 0
Value32 (issues x access) = access.value < values
Value32 (steps x) = Unit {0}
Value32 drains = Unit {0}
Value32 (lends b m c) = Value32 c

abbrev pub Values32 : List Call → Type 0
Values32 [] = Unit {0}
Values32 (c ∷ cs) = Value32 c × Values32 cs
