-- A flat row of tags, and accesses done whole on it, one after another.
use Rattle.std.specs.Prelude.{ℕ, zero, suc, eqb}
use Rattle.tracker.specs.declared.Access.{Access}
use Rattle.laws.specs.Choice.{pick, both}
use Rattle.demands.specs.Event.{Told, read, done, same}

-- a number for each group
abbrev pub Row : Type 0
Row = ℕ → ℕ

-- the row after an access
abbrev pub after : Row → Access → Row
after row a g = pick (both a.write (eqb g a.group)) a.value (row g)

-- and what it is told: a read the group; a write "same" where the group is what it writes, else "done"
abbrev pub told : Row → Access → Told
told row a = pick a.write (pick (eqb (row a.group) a.value) same done) (read (row a.group))

-- the row after the first p of some accesses
unfoldable pub row_at : Row → (ℕ → Access) → ℕ → Row
row_at row each zero = row
row_at row each (suc p) = after (row_at row each p) (each p)
