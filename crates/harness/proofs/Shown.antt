-- What stands at the place that showing gives is the leaf that is shown.
use mathlib.Core.Path.{◌≡◌, refl, ap, sym, ◌∙◌}
use mathlib.Core.List.{List, [], ◌∷◌}
use mathlib.Core.Logic.{⊎_elim}
use Prim.Native.Nat.{ℕ, ◌+◌, ◌-◌, ◌*◌, ◌≤◌, ◌<◌}
use native.Mathlib.Omega.{arith}
use borrow.Author.Tests.{lt-ltb, le-ltb, ne_eqb}
use lib.ListN.{length}
use Rattle.laws.specs.Bytes.{part}
use Rattle.laws.proofs.Choice.{true-or-false}
use Rattle.laws.proofs.Splice.{lt-or-ge}
use Rattle.laws.proofs.Refusals.{refused-or-not}
use Rattle.geometry.specs.Shape.{top_of}
use Rattle.line.specs.Find.{line_of}
use Rattle.rules.specs.State.{State}
use Rattle.rules.specs.Calls.{show_no, shown_counts, show}
use Rattle.cache.proofs.Refusals.{show-in, show-line, show-memory, show-empty}
use Rattle.harness.specs.Calls.{shown_at, bytes_at}
use Rattle.harness.proofs.Ways.{shown-line, shown-empty, shown-memory}

empty : (l : List ℕ) → length l ≡ 0 → l ≡ []
empty [] e = refl
empty (x ∷ xs) e = absurd (omega arith)

module _ (bytes memory : List ℕ) where
  at-line : (i : ℕ) → i < 64 → bytes_at bytes memory (1 + 64 * i) ≡ part bytes (64 * i) 64
  at-line i h =
      let e : 1 + 64 * i - 1 ≡ 64 * i = omega arith in
      rw (ne_eqb (1 + 64 * i) 0 (λ z. omega arith), lt-ltb (1 + 64 * i) 1099511627776 (omega arith), e)

  at-memory : (k : ℕ) → bytes_at bytes memory (1099511627776 + (1 + 64 * k)) ≡ part memory (64 * k) 64
  at-memory k =
      let e : 1099511627776 + (1 + 64 * k) - 1099511627777 ≡ 64 * k = omega arith in
      rw (ne_eqb (1099511627776 + (1 + 64 * k)) 0 (λ z. omega arith), le-ltb (1099511627776 + (1 + 64 * k)) 1099511627776 (omega arith), e)

module _ (s : State) (bytes memory : List ℕ) (k : ℕ) (e : show_no s bytes memory k ≡ 0) where
  pub shown-bytes : bytes_at bytes memory (shown_at s bytes memory k) ≡ show s bytes memory k
  shown-bytes =
      ⊎_elim
      (λ h. rw (← shown-line s bytes memory k e (line_of s.lines s.shape.l k) refl h)
      (at-line bytes memory (line_of s.lines s.shape.l k) (omega (arith, show-in s bytes memory k e)) ∙ sym (show-line s bytes memory k e (line_of s.lines s.shape.l k) refl h)))
      (λ h. ⊎_elim
      (λ z. rw (← shown-empty s bytes memory k e h z) (sym (empty (show s bytes memory k) z)))
      (λ p. let q : length (show s bytes memory k) ≡ 0 → ⊥ = λ z. omega arith in
      rw (← shown-memory s bytes memory k e h q) (at-memory bytes memory k ∙ sym (in_memory h q)))
      (refused-or-not (length (show s bytes memory k))))
      (lt-or-ge (line_of s.lines s.shape.l k) s.shape.l)
    where
      in_memory : s.shape.l ≤ line_of s.lines s.shape.l k → (length (show s bytes memory k) ≡ 0 → ⊥) → show s bytes memory k ≡ part memory (64 * k) 64
      in_memory h q = ⊎_elim (λ b. show-memory s bytes memory k e h b) (λ b. absurd (q (ap length (show-empty s bytes memory k e h b)))) (true-or-false (shown_counts s bytes memory (top_of s.shape) 0 k))
