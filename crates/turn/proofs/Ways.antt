-- A step that is not refused is of one of t trackers.
use mathlib.Core.Path.{◌≡◌, refl, sym}
use mathlib.Core.List.{List}
use Prim.Native.Nat.{ℕ, ◌<◌}
use borrow.Author.Tests.{ltb-true}
use Rattle.laws.specs.Refusal.{refusal}
use Rattle.laws.proofs.Refusals.{refusal-hold}
use Rattle.geometry.specs.declared.Shape.{Shape}
use Rattle.tracker.specs.declared.Tracker.{Tracker}
use Rattle.rules.specs.Calls.{step_tests}

pub step-below : (shape : Shape) (x : ℕ) (us : List Tracker) → 0 ≡ refusal (step_tests shape x us) → x < shape.t
step-below shape x us e = ltb-true _ _ (refusal-hold (step_tests shape x us) refl (sym e)).0
