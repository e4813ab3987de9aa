-- What a part of the walk does to what the walk has. Nothing here need be believed: `Salvage` says what the call does.
use Rattle.std.specs.Prelude.{◌≡◌, List, [], ◌∷◌, ◌++◌, ℕ}
use Rattle.damaged.specs.Taken.{Taken}
use Rattle.salvage.specs.declared.Progress.{Progress}
use Rattle.salvage.specs.Walk.{At}

-- the walk w, with an output and a list, has taken t, from an output o and a list l
abbrev pub Has : (o l : List ℕ) → Taken → Progress → (output list : List ℕ) → Type 0
Has o l t w output list = At o l t w.kept w.low w.listed output list

-- the walk goes from w to v: n stays, and what it has taken becomes f of that, whatever it was
pub record Goes (f : Taken → Taken) (w : Progress) (before list : List ℕ) (v : Progress) (after more : List ℕ) : Type 0 where
  pub same : v.n ≡ w.n
  pub takes : (o l : List ℕ) (t : Taken) → Has o l t w before list → Has o l (f t) v after more

-- one entry more
abbrev pub with_entry : ℕ → Taken → Taken
with_entry x t = record { kept = t.kept; listed = t.listed ++ (x ∷ []) }
