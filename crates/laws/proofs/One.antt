-- Each promise of this crate allows one result for one input: the number equals a definition.
use mathlib.Core.Path.{◌≡◌, sym, ◌∙◌}
use Prim.Native.Nat.{ℕ}
use Rattle.std.specs.Prelude.{Result}
use Rattle.laws.specs.declared.Refusal.{Refusal}
use Rattle.laws.specs.Refusal.{refused_with, given, given_done}

pub given-answer-one : (told : Result ℕ Refusal) {r s : ℕ} → r ≡ given told → s ≡ given told → r ≡ s
given-answer-one told p q = p ∙ sym q

pub given-done-answer-one : (told : Result Unit Refusal) {r s : ℕ} → r ≡ given_done told → s ≡ given_done told → r ≡ s
given-done-answer-one told p q = p ∙ sym q

pub refused-with-answer-one : (told : Result Unit Refusal) {r s : ℕ} → r ≡ refused_with told → s ≡ refused_with told → r ≡ s
refused-with-answer-one told p q = p ∙ sym q
