-- One of two by a test, and tests put together.
use Rattle.std.specs.Prelude.{Bool, true, false, ℕ}

abbrev pub pick : {A : Type 0} → Bool → A → A → A
pick true a b = a
pick false a b = b

unfoldable pub both : Bool → Bool → Bool
both true b = b
both false b = false

unfoldable pub either : Bool → Bool → Bool
either true b = true
either false b = b

unfoldable pub implies : Bool → Bool → Bool
implies true b = b
implies false b = true

unfoldable pub no : Bool → Bool
no true = false
no false = true

-- 1 where a test holds, else 0
abbrev pub one : Bool → ℕ
one true = 1
one false = 0
