-- Each public function has one answer: two results that its promise allows for one input are equal, as both are the definition's.
use mathlib.Core.Path.{◌≡◌, sym, ◌∙◌}
use mathlib.Core.List.{List}
use mathlib.Core.Bool.{Bool}
use Prim.Native.Nat.{ℕ}
use Rattle.std.specs.Prelude.{Result}
use Rattle.laws.specs.declared.Refusal.{Refusal}
use Rattle.laws.specs.Refusal.{refusal, refused_with}
use Rattle.laws.specs.Scan.{all}
use Rattle.geometry.specs.declared.Shape.{Shape}
use Rattle.tracker.specs.declared.Access.{Access}
use Rattle.tracker.specs.declared.Tracker.{Tracker}
use Rattle.tracker.specs.Tracker.{is_idle}
use Rattle.rules.specs.State.{tracker_at}
use Rattle.rules.specs.Whole.{whole}
use Rattle.rules.specs.Calls.{issue_tests, step_tests, drain_tests, show_tests}
use Rattle.whole.proofs.Numbers.{refused_one}
use Rattle.whole.specs.Parts.{state_of, limits_of}

one : {A : Type 0} {d : A} (a b : A) → a ≡ d → b ≡ d → a ≡ b
one a b p q = p ∙ sym q

pub one-limits : (top n t l : ℕ) (a b : Bool) → a ≡ limits_of top n t l → b ≡ limits_of top n t l → a ≡ b
one-limits top n t l = one

module _ (shape : Shape) (us : List Tracker) where
  pub one-whole : (lines : List ℕ) (a b : Bool) → a ≡ whole (state_of shape lines us) → b ≡ whole (state_of shape lines us) → a ≡ b
  one-whole lines = one

  pub one-issue-refusal : (x : ℕ) (access : Access) (a b : Result Unit Refusal) → refused_with a ≡ refusal (issue_tests shape x access us) → refused_with b ≡ refusal (issue_tests shape x access us) → a ≡ b
  one-issue-refusal x access = refused_one

  pub one-step-refusal : (x : ℕ) (a b : Result Unit Refusal) → refused_with a ≡ refusal (step_tests shape x us) → refused_with b ≡ refusal (step_tests shape x us) → a ≡ b
  one-step-refusal x = refused_one

  pub one-drain-refusal : (a b : Result Unit Refusal) → refused_with a ≡ refusal (drain_tests (all (λ x. is_idle (tracker_at us x)) shape.t)) → refused_with b ≡ refusal (drain_tests (all (λ x. is_idle (tracker_at us x)) shape.t)) → a ≡ b
  one-drain-refusal = refused_one

  pub one-show-refusal : (k : ℕ) (a b : Result Unit Refusal) → refused_with a ≡ refusal (show_tests shape k (all (λ x. is_idle (tracker_at us x)) shape.t)) → refused_with b ≡ refusal (show_tests shape k (all (λ x. is_idle (tracker_at us x)) shape.t)) → a ≡ b
  one-show-refusal k = refused_one
