-- A state that fresh or open accepts is whole, and the one that a refusal returns is broken.
use mathlib.Core.Path.{◌≡◌, refl, sym, ap, ◌∙◌}
use mathlib.Core.List.{List}
use mathlib.Core.Bool.{true, false}
use mathlib.Core.Logic.{⊎_elim}
use Prim.Native.Nat.{ℕ}
use native.Mathlib.Omega.{arith}
use Rattle.laws.proofs.Choice.{true-or-false}
use Rattle.laws.proofs.Splice.{lt-or-ge}
use Rattle.memory.specs.True.{is_true}
use Rattle.tracker.specs.Answer as said
use Rattle.rules.specs.Whole.{whole}
use Rattle.rules.specs.Calls.{Out, fresh, opened}
use Rattle.rules.proofs.Begun.{begun-whole, zero-broken}
use Rattle.cache.specs.Seen.{unready}
use Rattle.cache.proofs.Refusals.{ready-limits, fresh-refused, fresh-accepted, open-refused, open-3, open-accepted}

never : (c : ℕ) → said.no c ≡ said.ok → ⊥
never c e = let z : ◌≡◌ {A = ℕ} 0 1 = cc in omega arith

module _ (n t l : ℕ) (bytes memory : List ℕ) where
  -- accepted, fresh and open give a whole state
  pub fresh-whole : (fresh n t l bytes memory).said ≡ said.ok → whole (fresh n t l bytes memory).state ≡ true
  fresh-whole e =
      ⊎_elim (λ p. absurd (never _ (ap (λ (o : Out). o.said) (sym (fresh-refused n t l bytes memory _ refl p)) ∙ e)))
      (λ q. let z : unready n t l bytes memory ≡ 0 = omega arith in
      rw (fresh-accepted n t l bytes memory z) (begun-whole n t l (ready-limits n t l bytes memory z)))
      (lt-or-ge 0 (unready n t l bytes memory))

  pub open-whole : (opened n t l bytes memory).said ≡ said.ok → whole (opened n t l bytes memory).state ≡ true
  open-whole e =
      ⊎_elim (λ p. absurd (never _ (ap (λ (o : Out). o.said) (sym (open-refused n t l bytes memory _ refl p)) ∙ e)))
      (λ q. let z : unready n t l bytes memory ≡ 0 = omega arith in
      ⊎_elim (λ i. rw (open-accepted n t l bytes memory z i) (begun-whole n t l (ready-limits n t l bytes memory z)))
      (λ f. absurd (never _ (ap (λ (o : Out). o.said) (sym (open-3 n t l bytes memory z f)) ∙ e))) (true-or-false (is_true n memory)))
      (lt-or-ge 0 (unready n t l bytes memory))

  -- refused, they give a broken one
  pub fresh-broken : (c : ℕ) → (fresh n t l bytes memory).said ≡ said.no c → whole (fresh n t l bytes memory).state ≡ false
  fresh-broken c e =
      ⊎_elim (λ p. rw (fresh-refused n t l bytes memory _ refl p) zero-broken)
      (λ q. let z : unready n t l bytes memory ≡ 0 = omega arith in
      absurd (never c (sym e ∙ ap (λ (o : Out). o.said) (fresh-accepted n t l bytes memory z)))) (lt-or-ge 0 (unready n t l bytes memory))

  pub open-broken : (c : ℕ) → (opened n t l bytes memory).said ≡ said.no c → whole (opened n t l bytes memory).state ≡ false
  open-broken c e =
      ⊎_elim (λ p. rw (open-refused n t l bytes memory _ refl p) zero-broken)
      (λ q. let z : unready n t l bytes memory ≡ 0 = omega arith in
      ⊎_elim (λ i. absurd (never c (sym e ∙ ap (λ (o : Out). o.said) (open-accepted n t l bytes memory z i))))
      (λ f. rw (open-3 n t l bytes memory z f) zero-broken) (true-or-false (is_true n memory)))
      (lt-or-ge 0 (unready n t l bytes memory))
