-- The promise of restoring allows one result for one input: the answer's number and the memory each equal a definition, and a number is one answer's.
use Rattle.std.proofs.Common.{◌≡◌, sym, ◌∙◌, ℕ, List, length, Result}
use Rattle.laws.specs.declared.Refusal.{Refusal}
use Rattle.laws.specs.Refusal.{refused_with}
use Rattle.laws.proofs.Told.{refused-one}
use Rattle.form.specs.Calls.{restoring_refusal, restored}

pub restore-one : (image mem : List ℕ) {r s : Result Unit Refusal} {o p : List ℕ}
    → (refused_with r ≡ restoring_refusal image (length mem)) × (o ≡ restored image mem) → (refused_with s ≡ restoring_refusal image (length mem)) × (p ≡ restored image mem) → (r ≡ s) × (o ≡ p)
restore-one image mem {r} {s} a b = (refused-one r s (a.0 ∙ sym b.0), a.1 ∙ sym b.1)
