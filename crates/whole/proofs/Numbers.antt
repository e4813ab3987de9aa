-- What is refused is known by its number.
use mathlib.Core.Path.{◌≡◌, refl, sym, ◌∙◌}
use Prim.Native.Nat.{ℕ, ◌<◌}
use mathlib.Core.Bool.{true, false}
use Rattle.std.specs.Prelude.{Result, Ok, Err}
use Rattle.std.specs.Result.{is_err}
use Rattle.laws.specs.declared.Refusal.{Refusal}
use Rattle.laws.specs.Refusal.{number, refused_with, unless}
use Rattle.laws.proofs.Refusals.{unless-0, unless-no}
use Rattle.laws.proofs.Told.{number-some, refused-one}

-- two that are refused with one number, or not refused, are equal
pub refused_one : {c : ℕ} (a b : Result Unit Refusal) → refused_with a ≡ c → refused_with b ≡ c → a ≡ b
refused_one a b p q = refused-one a b (p ∙ sym q)

-- what is done, where nothing is refused and where r is
module _ {A : Type 0} {c : ℕ} (a : A) (f : ℕ → A) where
  pub unless-free : 0 ≡ c → unless c a f ≡ a
  unless-free e = unless-0 a f (sym e)

  pub unless-refused : (r : Refusal) → number r ≡ c → unless c a f ≡ f (number r)
  unless-refused r e = rw (← e) (unless-no a f (number-some r))

pub some-is_err : (a : Result Unit Refusal) → true ≡ is_err a → 0 < refused_with a
some-is_err (Ok u) e = cc
some-is_err (Err r) e = number-some r

pub free-is_err : (a : Result Unit Refusal) → false ≡ is_err a → refused_with a ≡ 0
free-is_err (Ok u) e = refl
free-is_err (Err r) e = cc
