-- An access done whole on the row: what it leaves, what it answers, and when it changes nothing.
use mathlib.Core.Path.{◌≡◌, refl, sym, ap, ◌∙◌, fun_ext}
use mathlib.Core.Bool.{Bool, true, false}
use mathlib.Core.Logic.{⊎_elim}
use Prim.Native.Nat.{ℕ}
use native.Mathlib.Decide.{ℕ_discrete}
use lib.Dec.{eqb}
use borrow.Author.Tests.{eq-eqb, ne_eqb, eqb-true, eqb-false}
use Rattle.laws.specs.Choice.{pick, implies}
use Rattle.laws.proofs.Choice.{true-or-false, not-implied, same_truth}
use Rattle.geometry.specs.TagMemory.{leaf_of}
use Rattle.tracker.specs.declared.Tracker.{Tracker}
use Rattle.tracker.specs.Answer.{read, done, same}
use Rattle.rules.specs.Step.{turns_of, asks_zero}
use Rattle.flat.specs.Flat.{Row, put, tagged, after, answer, changes_nothing}
use Rattle.flat.proofs.Tags.{untagged}

-- what is there put in again
put_same : (row : Row) (g v : ℕ) → row g ≡ v → put row g v ≡ row
put_same row g v e = fun_ext (λ h. go h (ℕ_discrete h g))
  where
    go : (h : ℕ) → Dec (h ≡ g) → put row g v h ≡ row h
    go h (yes q) = rw (eq-eqb h g q, q) (sym e)
    go h (no q) = rw (ne_eqb h g q)

module _ (row : Row) (u : Tracker) where
  module _ (w : u.write ≡ false) where
    pub reads_nothing : changes_nothing row u ≡ true
    unfolding implies
    reads_nothing = rw w

    pub answer-read : answer row u ≡ read (row u.group) (turns_of u)
    answer-read = rw w

  module _ (w : u.write ≡ true) where
    pub after_write : after row u ≡ put row u.group u.value
    after_write = rw w

    pub after-here : after row u u.group ≡ u.value
    after-here = rw (w, eq-eqb u.group u.group refl)

    module _ (e : row u.group ≡ u.value) where
      pub same-nothing : changes_nothing row u ≡ true
      unfolding implies
      same-nothing = rw (w, eq-eqb _ _ e)

      pub answer-same : answer row u ≡ same (turns_of u)
      answer-same = rw (w, eq-eqb _ _ e)

    module _ (e : row u.group ≡ u.value → ⊥) where
      pub other-something : changes_nothing row u ≡ false
      unfolding implies
      other-something = rw (w, ne_eqb _ _ e)

      pub answer-done : answer row u ≡ done (turns_of u)
      answer-done = rw (w, ne_eqb _ _ e)

  pub after_nothing : changes_nothing row u ≡ true → after row u ≡ row
  unfolding implies
  after_nothing = go u.write
    where
      go : (b : Bool) → implies b (eqb (row u.group) u.value) ≡ true → pick b (put row u.group u.value) row ≡ row
      go true t = put_same row u.group u.value (eqb-true _ _ t)
      go false t = refl

  -- it changes something: a write of what is not there
  pub something : changes_nothing row u ≡ false → (u.write ≡ true) × (row u.group ≡ u.value → ⊥)
  something f = let r = not-implied u.write _ f in (r.0, eqb-false _ _ r.1)

  -- of its leaf alone
  pub after-far : (h : ℕ) → (leaf_of h ≡ leaf_of u.group → ⊥) → after row u h ≡ row h
  after-far h n = go u.write
    where
      go : (b : Bool) → pick b (put row u.group u.value) row h ≡ row h
      go true = rw (ne_eqb h u.group (λ e. n (ap leaf_of e)))
      go false = refl

  pub after-like : (row' : Row) (h : ℕ) → row' h ≡ row h → after row' u h ≡ after row u h
  after-like row' h e = go u.write
    where
      go : (b : Bool) → pick b (put row' u.group u.value) row' h ≡ pick b (put row u.group u.value) row h
      go true = ap (pick (eqb h u.group) u.value) e
      go false = e

  -- a value that was not there, in a leaf without tags, is one
  pub new-tag : changes_nothing row u ≡ false → tagged row (leaf_of u.group) ≡ false → tagged (after row u) (leaf_of u.group) ≡ true
  new-tag c f =
      let r = something c in
      ⊎_elim (λ z. z) (λ z. absurd (r.1 (untagged row _ f u.group refl ∙ sym (untagged (after row u) _ z u.group refl) ∙ after-here r.0))) (true-or-false (tagged (after row u) (leaf_of u.group)))

  -- over a 0, a read or a write of 0 is what changes nothing
  pub asks_nothing : row u.group ≡ 0 → asks_zero u ≡ changes_nothing row u
  unfolding implies
  asks_nothing z = go u.write
    where
      go : (b : Bool) → pick b (eqb u.value 0) true ≡ implies b (eqb (row u.group) u.value)
      go true = same_truth _ _ (λ t. eq-eqb _ _ (z ∙ sym (eqb-true _ _ t))) (λ t. eq-eqb _ _ (sym (eqb-true _ _ t) ∙ z))
      go false = refl
