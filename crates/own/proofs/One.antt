-- Two results that a promise allows for one input are equal: each promise is an equation to a definition.
use mathlib.Core.Path.{◌≡◌, sym, ◌∙◌}
use mathlib.Core.List.{List}
use Prim.Native.Nat.{ℕ}
use Rattle.geometry.specs.declared.Shape.{Shape}
use Rattle.geometry.specs.Shape.{top_of}
use Rattle.tracker.specs.declared.Tracker.{Tracker}
use Rattle.rules.specs.Step.{bit_in, let_go}
use Rattle.own.specs.declared.Own.{Own}
use Rattle.own.specs.Own.{line_over, own_of, line_on}

pub at_one : (own : Own) (e : ℕ) {r s : ℕ} → r ≡ line_on own e → s ≡ line_on own e → r ≡ s
at_one own e p q = p ∙ sym q

pub line-over-one : (shape : Shape) (e g : ℕ) (lines : List ℕ) {r s : ℕ} → r ≡ line_over shape g lines e → s ≡ line_over shape g lines e → r ≡ s
line-over-one shape e g lines p q = p ∙ sym q

pub find-one : (shape : Shape) (g : ℕ) (lines : List ℕ) {r s : Own} → r ≡ own_of shape g lines → s ≡ own_of shape g lines → r ≡ s
find-one shape g lines p q = p ∙ sym q

pub bit-in-one : (bytes : List ℕ) (i e g : ℕ) {r s : ℕ} → r ≡ bit_in bytes i e g → s ≡ bit_in bytes i e g → r ≡ s
bit-in-one bytes i e g p q = p ∙ sym q

pub let-go-one : (shape : Shape) (t : Tracker) (own : Own) (lines : List ℕ) {r s : List ℕ} → r ≡ let_go t.phase (line_on own) (top_of shape) lines → s ≡ let_go t.phase (line_on own) (top_of shape) lines → r ≡ s
let-go-one shape t own lines p q = p ∙ sym q
