-- Draining changes no content, and leaves every line clean.
use mathlib.Core.Path.{◌≡◌, refl, sym, ◌∙◌, subst}
use mathlib.Core.Bool.{true, false}
use mathlib.Core.Logic.{◌⊎◌, inl, inr, ⊎_elim}
use Prim.Native.Nat.{ℕ, zero, suc, ◌<◌, ◌≤◌}
use native.Mathlib.Omega.{arith}
use native.Mathlib.Decide.{ℕ_discrete}
use lib.ListN.{get_or, set}
use lib.Seq.{get_or-set_same, get_or-set_other}
use Rattle.laws.proofs.Choice.{not-both-ways, true-or-false}
use Rattle.line.specs.Word.{used, block_of, changed, cleaned}
use Rattle.rules.specs.State.{Rows}
use Rattle.rules.specs.Place.{line_bytes, written_back, drained}
use Rattle.line.proofs.Words.{block_of-cleaned, changed-cleaned, used-cleaned}
use Rattle.rules.proofs.Lined.{at, Has, new-or-old}
use Rattle.flat.proofs.Contents.{content, Good, content-in, Change, change-good, change-here, change-other, Same, same_none}
use Rattle.flat.proofs.Rows.{back-length, back-rest, back-here, back-backed}

-- the rows after line i was written back and marked clean
abbrev pub one : Rows → ℕ → Rows
one r i = record { lines = set r.lines i (cleaned (get_or r.lines i 0)); bytes = r.bytes; memory = written_back r.lines r.bytes r.memory i }

module _ {B l : ℕ} {r : Rows} (G : Good B l r) (i : ℕ) (il : i < l) where
  abbrev w : ℕ
  w = at r.lines i

  had : used (cleaned w) ≡ true → Has r.lines i (block_of (cleaned w))
  had u = record { is-used = sym (used-cleaned w) ∙ u; is_block = sym (block_of-cleaned w) }

  cleaning : Change B l r i (cleaned w) r.bytes (written_back r.lines r.bytes r.memory i) (line_bytes r.bytes i)
  cleaning = record {
    line-lt = il;
    bytes-long = G.bytes-long;
    memory-long = back-length G i il;
    here = refl;
    there = λ j q n. refl;
    rest = back-rest G i il;
    exists = λ u. G.apart.exists i _ (had u);
    alone = λ u j n h. n (G.apart.one j i _ h (had u));
    clean = λ u e. sym (back-here G i il _ (had u));
  }

  one-had : (j b : ℕ) → Has (set r.lines i (cleaned w)) j b → Has r.lines j b
  one-had j b h = ⊎_elim (λ o. subst (λ (k : ℕ). Has r.lines k b) (sym o.0) (subst (λ (c : ℕ). Has r.lines i c) o.2 (had o.1))) (λ o. o.1) (new-or-old G.apart _ _ cleaning.line-lt j b h)

  one-content : (b : ℕ) → b < B → content l (one r i) b ≡ content l r b
  one-content b bl = go (true-or-false (used (cleaned w))) (ℕ_discrete (block_of (cleaned w)) b)
    where
      go : (used (cleaned w) ≡ true) ⊎ (used (cleaned w) ≡ false) → Dec (block_of (cleaned w) ≡ b) → content l (one r i) b ≡ content l r b
      go (inl u) (yes q) = subst (λ (c : ℕ). content l (one r i) c ≡ content l r c) q (change-here G cleaning u ∙ sym (content-in G i _ (had u)))
      go (inl u) (no q) = change-other G cleaning b bl (λ h. q (block_of-cleaned w ∙ h.is_block)) (λ _ e. q e)
      go (inr u) q = change-other G cleaning b bl (λ h. not-both-ways h.is-used (sym (used-cleaned w) ∙ u)) (λ u' e. not-both-ways u' u)

  one_same : Same B l r (one r i)
  one_same = record { good = change-good G cleaning; backed = back-backed G i il; same = one-content; had = one-had }

same_then : {B l : ℕ} {r r1 r2 : Rows} → Same B l r r1 → Same B l r1 r2 → Same B l r r2
same_then p q = record {
  good = q.good;
  backed = λ d dl. ⊎_elim (λ e. ⊎_elim (λ z. inl (e ∙ z)) (λ z. inr (e ∙ z)) (p.backed d dl)) (λ e. inr (e ∙ p.same d dl)) (q.backed d dl);
  same = λ d dl. q.same d dl ∙ p.same d dl;
  had = λ j d h. p.had j d (q.had j d h);
}

-- the first i lines
pub record Drained (B l : ℕ) (r d : Rows) (i : ℕ) : Type 0 where
  pub same : Same B l r d
  pub clean : (j : ℕ) → j < i → changed (at d.lines j) ≡ false

pub drains : {B l : ℕ} {r : Rows} → Good B l r → (i : ℕ) → i ≤ l → Drained B l r (drained i r) i
unfolding drained
drains G zero q = record { same = same_none G; clean = λ j l. absurd (omega arith) }
drains {B} {l} {r} G (suc i) q = next (drained i r) i (omega arith) (drains G i (omega arith))
  where
    next : (d : Rows) (i : ℕ) → i < l → Drained B l r d i → Drained B l r (one d i) (suc i)
    next d i il D = record {
      same = same_then D.same (one_same D.same.good i il);
      clean = λ j jl. cl j jl (ℕ_discrete j i);
    }
      where
        cl : (j : ℕ) → j < suc i → Dec (j ≡ i) → changed (at (set d.lines i (cleaned (at d.lines i))) j) ≡ false
        cl j jl (yes e) = rw (e, get_or-set_same d.lines i (cleaned (at d.lines i)) 0 (omega (arith, D.same.good.apart.long))) (changed-cleaned (at d.lines i))
        cl j jl (no e) = rw (get_or-set_other d.lines i j (cleaned (at d.lines i)) 0 e) (D.clean j (omega arith))
