-- Laws of `differ`.
use mathlib.Core.Path.{◌≡◌, refl}
use mathlib.Core.Bool.{Bool, true, false}
use Rattle.laws.specs.Choice.{no}
use Rattle.flat.proofs.Contained.{differ}

pub differ-false : (a : Bool) {b : Bool} → b ≡ false → differ a b ≡ a
unfolding differ no
differ-false true e = rw e
differ-false false e = e

pub differ-true : (a : Bool) {b : Bool} → b ≡ true → differ a b ≡ no a
unfolding differ no
differ-true true e = rw e
differ-true false e = e

-- from false
pub false-differ : (b : Bool) → differ false b ≡ b
unfolding differ
false-differ b = refl

-- what differs before and is added comes back
pub differ-over : (a b : Bool) → differ b (differ a b) ≡ a
unfolding differ no
differ-over true true = refl
differ-over true false = refl
differ-over false true = refl
differ-over false false = refl
