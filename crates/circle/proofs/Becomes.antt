-- A count or mark made anew at one tracker.
use mathlib.Core.Path.{◌≡◌, refl}
use mathlib.Core.Logic.{◌≢◌}
use Prim.Native.Nat.{ℕ}
use borrow.Author.Tests.{eq-eqb, ne_eqb}
use Rattle.circle.specs.Order.{becomes}

pub becomes-same : {A : Type 0} (f : ℕ → A) (x : ℕ) (a : A) → becomes f x a x ≡ a
becomes-same f x a = rw (eq-eqb x x refl)

pub becomes-other : {A : Type 0} (f : ℕ → A) (x y : ℕ) (a : A) → y ≢ x → becomes f x a y ≡ f y
becomes-other f x y a ne = rw (ne_eqb y x ne)
