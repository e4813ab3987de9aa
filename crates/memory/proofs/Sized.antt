-- What a call asks first of a lent memory: a law for each way out, and what it says where nothing is refused.
use mathlib.Core.Path.{◌≡◌, refl}
use mathlib.Core.Bool.{true, false}
use mathlib.Core.List.{List, [], ◌∷◌}
use Prim.Native.Nat.{ℕ, ◌≤◌}
use lib.Dec.{eqb}
use lib.ListN.{length}
use borrow.Author.Tests.{eq-eqb, ne_eqb, eqb-true}
use Rattle.laws.specs.Refusal.{refusal}
use Rattle.laws.proofs.Refusals.{Hold, refusal-0, refusal-hold, refusal-first}
use Rattle.geometry.specs.TagMemory.{in_limits_of, in_limits, length_of, memory_length}
use Rattle.geometry.proofs.Limits.{in_limits-most}
use Rattle.geometry.proofs.Levels.{leaves-most}
use Rattle.memory.specs.PlainReading.{sized_of, sized}

module _ (top n : ℕ) (m : List ℕ) where
  pub sized_of-1 : in_limits_of top n ≡ false → refusal (sized_of top n m) ≡ 1
  sized_of-1 h = refusal-first [] (in_limits_of top n) 1 ((eqb (length m) (length_of top n), 2) ∷ []) tt h

  pub sized_of-2 : in_limits_of top n ≡ true → (length m ≡ length_of top n → ⊥) → refusal (sized_of top n m) ≡ 2
  sized_of-2 h l = refusal-first ((in_limits_of top n, 1) ∷ []) (eqb (length m) (length_of top n)) 2 [] (h, tt) (ne_eqb (length m) (length_of top n) l)

  pub sized_of-fit : in_limits_of top n ≡ true → length m ≡ length_of top n → Hold (sized_of top n m)
  sized_of-fit h l = (h, (eq-eqb (length m) (length_of top n) l, tt))

  pub sized_of-0 : in_limits_of top n ≡ true → length m ≡ length_of top n → refusal (sized_of top n m) ≡ 0
  sized_of-0 h l = refusal-0 (sized_of top n m) (sized_of-fit h l)

  pub sized_of-hold : refusal (sized_of top n m) ≡ 0 → Hold (sized_of top n m)
  sized_of-hold e = refusal-hold (sized_of top n m) refl e

  pub sized_of-small : refusal (sized_of top n m) ≡ 0 → n ≤ 1048576
  sized_of-small e = leaves-most top n (sized_of-hold e).0

  pub sized_of-long : refusal (sized_of top n m) ≡ 0 → length m ≡ length_of top n
  sized_of-long e = eqb-true (length m) (length_of top n) (sized_of-hold e).1.0

-- of two levels
module _ (n : ℕ) (m : List ℕ) where
  pub fits-hold : in_limits n ≡ true → length m ≡ memory_length n → Hold (sized n m)
  fits-hold h l = sized_of-fit 1 n m h l

  pub sized-hold : refusal (sized n m) ≡ 0 → Hold (sized n m)
  sized-hold e = sized_of-hold 1 n m e

  pub small : refusal (sized n m) ≡ 0 → n ≤ 262144
  small e = in_limits-most 1 n (sized-hold e).0

  pub long : refusal (sized n m) ≡ 0 → length m ≡ memory_length n
  long e = sized_of-long 1 n m e
