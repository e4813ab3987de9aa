-- What a call is told: no refusal, or one by its number.
use Rattle.std.specs.Prelude.{◌≡◌}
use Rattle.laws.specs.declared.Refusal.{Refusal}
use Rattle.laws.specs.Refusal.{number}
use Rattle.tracker.specs.Answer.{Said, ok, wait, moved, read, done, same, no}

-- what is said is no refusal, or one that has a name
abbrev pub Told : Said → Type 0
Told ok = Unit {0}
Told wait = Unit {0}
Told moved = Unit {0}
Told (read v k) = Unit {0}
Told (done k) = Unit {0}
Told (same k) = Unit {0}
Told (no c) = (r : Refusal) × (number r ≡ c)
