-- 01 "The replay program": a text that is put into a lent row, at the place where the row's line stands.
use Rattle.std.specs.Prelude.{List, ℕ, ◌≡◌, ◌+◌, ◌≤◌, length}
use Rattle.laws.specs.Bytes.{splice}
use Rattle.text.specs.declared.Line.{Line}

-- there is room for n bytes
abbrev pub Room : Line → ℕ → Type 0
Room a n = a.at + n ≤ length a.out.now

-- the text t goes in at a's place, and b's place is after it
abbrev pub Puts : Line → Line → List ℕ → Type 0
Puts a b t = (b.out.now ≡ splice a.out.now a.at t) × (b.at ≡ a.at + length t) × (b.out.ghost_name ≡ a.out.ghost_name)

-- a text of at most n bytes
abbrev pub PutsIn : ℕ → Line → Line → List ℕ → Type 0
PutsIn n a b t = Puts a b t × (length t ≤ n)
