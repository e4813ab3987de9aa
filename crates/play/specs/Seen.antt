-- What the code's structs are to the definitions.
use Rattle.std.specs.Prelude.{◌≡◌, List, ℕ, ◌≤◌, ◌<◌, length, true, false}
use Rattle.rules.specs.Run.{Kept}
use Rattle.cache.specs.declared.State.{State}
use Rattle.cache.specs.Seen.{seen}
use Rattle.play.specs.declared.Played.{Played}
use Rattle.play.specs.declared.Place.{Place}
use Rattle.play.specs.Play as play

-- the state with what is lent
abbrev pub kept : State → List ℕ → List ℕ → Kept
kept s bytes memory = record { state = seen s; bytes = bytes; memory = memory }

-- what playing a chunk hands back, with what it leaves in the lent bytes
abbrev pub left : Played → List ℕ → List ℕ → List ℕ → play.Played
left r bytes memory output = record { kept = kept r.state bytes memory; number = r.place.number; taken = r.place.taken; output = output; written = r.place.written }

abbrev pub left_refused : Kept → Place → List ℕ → play.Played
left_refused k r output = record { kept = k; number = r.number; taken = r.taken; output = output; written = r.written }

-- a chunk's beginning, with an empty output
abbrev pub beginning : ℕ → Place
beginning number = record { number = number; taken = 0; written = 0 }

-- whatever is passed on: no line is done after this place
abbrev pub Stops : (input output : List ℕ) → Place → Type 0
Stops input output p = (k : Kept) → play.goes_on input (left_refused k p output) ≡ false

-- or one that ends at e, in the chunk, and there is a number for it
abbrev pub Goes : (input output : List ℕ) → Place → (e : ℕ) → Type 0
Goes input output p e =
    (e ≡ play.line_end input p.taken) × (p.taken ≤ e) × (e < length input) × (p.number < 18446744073709551615) × ((k : Kept) → play.goes_on input (left_refused k p output) ≡ true)
