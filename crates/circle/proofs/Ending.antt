-- Endings and the turns that they carry: "Each ending carries its turns: steps given since the issue, waits included; it stays at 65,535 once there."
use mathlib.Core.Path.{◌≡◌}
use Prim.Native.Nat.{ℕ}
use Rattle.tracker.specs.Answer.{Said, ok, wait, moved, read, done, same, no}

-- what was said is an ending of k turns: `read V turns K`, `done turns K` or `same turns K`
abbrev pub Ending : Said → ℕ → Type 0
Ending ok k = ⊥
Ending wait k = ⊥
Ending moved k = ⊥
Ending (read v turns) k = turns ≡ k
Ending (done turns) k = turns ≡ k
Ending (same turns) k = turns ≡ k
Ending (no c) k = ⊥
