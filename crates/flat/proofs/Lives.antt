-- Contents read from the top down, with no access under way: plain reading is the row, and the contents are true. And true contents with no lines are where a run begins.
use mathlib.Core.Path.{◌≡◌, refl, sym, ap, ◌∙◌}
use mathlib.Core.Bool.{Bool, true, false}
use mathlib.Core.List.{List}
use mathlib.Core.Logic.{◌⊎◌, inl, inr, ⊎_elim}
use Prim.Native.Nat.{ℕ, zero, suc, ◌+◌, ◌-◌, ◌<◌}
use native.Mathlib.Omega.{arith}
use Rattle.laws.specs.Choice.{pick, both}
use Rattle.laws.proofs.Choice.{not-both-ways, true-or-false, both_true, both-when, both-false-left, never_true}
use Rattle.geometry.specs.TagMemory.{leaf_of, map_block_of}
use Rattle.tracker.specs.declared.Tracker.{Tracker}
use Rattle.tracker.specs.Tracker.{idle, is_idle}
use Rattle.tracker.proofs.Phases.{idle-unfinished}
use Rattle.rules.specs.State.{tracker_at}
use Rattle.flat.specs.Flat.{Row, tagged}
use Rattle.flat.proofs.Tags.{untagged, tagged-none}
use Rattle.flat.proofs.Contained.{View, pend, full_by, Counted, is-top, is-full, is-lined, Agrees, Contained}
use Rattle.flat.proofs.Differ.{differ-false}
use Rattle.flat.proofs.Full.{full-zero, full-not, full-none}
use Rattle.flat.proofs.Pending.{not-finishing, pends-not, pend-none}

-- Block k of level e, d levels below the top, counts by the bits over it, read from the top down: as memory's `counts`.
abbrev pub lives : (bits : ℕ → ℕ → Bool) (d e k : ℕ) → Bool
lives bits zero e k = true
lives bits (suc d) e k = both (lives bits d (suc e) (map_block_of k)) (bits e k)

-- plain reading of contents
abbrev pub plain_in : (top : ℕ) → View → Row
plain_in top v g = pick (lives v.bits top 0 (leaf_of g)) (v.group g) 0

-- block k of level e is all zero
abbrev pub Empty : View → ℕ → ℕ → Type 0
Empty v zero k = (g : ℕ) → leaf_of g ≡ k → v.group g ≡ 0
Empty v (suc e) k = (i : ℕ) → map_block_of i ≡ k → v.bits e i ≡ false

-- Contents are true: each bit 1 of a block that counts stands over a block that is not all zero.
abbrev pub True : (top : ℕ) → View → Type 0
True top v = (d e k : ℕ) → e + suc d ≡ top → lives v.bits (suc d) e k ≡ true → Empty v e k → ⊥

-- a leaf that reads 0 has no tag
pub empty-untagged : {top : ℕ} {ts : List Tracker} {row : Row} {v : View} → Agrees top ts row v → (k : ℕ) → Empty v 0 k → tagged row k ≡ false
empty-untagged {top} {ts} {row} {v} A k z = never_true (λ t. not-both-ways t (tagged-none row k (λ g q. sym (A.groups g (is-full (full-zero (tagged row) (pend ts) (leaf_of g) ∙ rw q t))) ∙ z g q)))

pub rest-none : (ts : List Tracker) → ((x : ℕ) → is_idle (tracker_at ts x) ≡ true) → (e k : ℕ) → pend ts e k ≡ false
rest-none ts rest e k = pend-none ts e k (λ y. pends-not (tracker_at ts y) e k (not-finishing (tracker_at ts y).phase (idle-unfinished (tracker_at ts y).phase (rest y)) e))

module _ {t : ℕ} {ts : List Tracker} {row : Row} {v : View} (A : Agrees (suc t) ts row v) (rest : (x : ℕ) → is_idle (tracker_at ts x) ≡ true) where
  abbrev top : ℕ
  top = suc t

  bit-full : (e k : ℕ) → e < top → Counted top (full_by ts row) v.lined (suc e) (map_block_of k) → v.bits e k ≡ full_by ts row e k
  bit-full e k l n = A.bits e k l n ∙ differ-false _ (rest-none ts rest e k)

  -- every bit above is 1 exactly if the block is full
  lives-full : (d e k : ℕ) → e + suc d ≡ top → lives v.bits (suc d) e k ≡ full_by ts row e k
  lives-full zero e k q = both-when true (v.bits e k) refl ∙ bit-full e k (omega arith) (is-top (omega arith))
  lives-full (suc d) e k q = ap (λ (b : Bool). both b (v.bits e k)) (lives-full d (suc e) (map_block_of k) (omega arith)) ∙ go (true-or-false (full_by ts row (suc e) (map_block_of k)))
    where
      go : (full_by ts row (suc e) (map_block_of k) ≡ true) ⊎ (full_by ts row (suc e) (map_block_of k) ≡ false) → both (full_by ts row (suc e) (map_block_of k)) (v.bits e k) ≡ full_by ts row e k
      go (inl f) = both-when _ _ f ∙ bit-full e k (omega arith) (is-full f)
      go (inr f) = both-false-left _ _ f ∙ sym (sym (differ-false _ (rest-none ts rest e k)) ∙ full-not (tagged row) (pend ts) e k (map_block_of k) refl f)

  lives-leaf : (k : ℕ) → lives v.bits top 0 k ≡ tagged row k
  lives-leaf k = lives-full t 0 k (omega arith) ∙ full-zero (tagged row) (pend ts) k

  pub rest-reads : (g : ℕ) → plain_in top v g ≡ row g
  rest-reads g = go (true-or-false (tagged row (leaf_of g)))
    where
      go : (tagged row (leaf_of g) ≡ true) ⊎ (tagged row (leaf_of g) ≡ false) → plain_in top v g ≡ row g
      go (inl f) = rw (lives-leaf (leaf_of g), f) (A.groups g (is-full (full-zero (tagged row) (pend ts) (leaf_of g) ∙ f)))
      go (inr f) = rw (lives-leaf (leaf_of g), f) (sym (untagged row (leaf_of g) f g refl))

  pub rest-true : True top v
  rest-true d zero k q l z = not-both-ways (sym (lives-full d 0 k q) ∙ l) (full-zero (tagged row) (pend ts) k ∙ empty-untagged A k z)
  rest-true d (suc e) k q l z =
      let f : full_by ts row (suc e) k ≡ true = sym (lives-full d (suc e) k q) ∙ l in
      not-both-ways f (full-none (tagged row) (pend ts) e k (λ i p. differ-false _ (rest-none ts rest e i) ∙ sym (bit-full e i (omega arith) (is-full (rw p f))) ∙ z i p))

-- True contents, no lines, nobody under way.
module _ (t : ℕ) (ts : List Tracker) (v : View) (rest : (x : ℕ) → tracker_at ts x ≡ idle) (bare : (e j : ℕ) → v.lined e j ≡ true → ⊥) (tr : True (suc t) v) where
  abbrev row0 : Row
  row0 = plain_in (suc t) v

  none_yet : (e k : ℕ) → pend ts e k ≡ false
  none_yet = rest-none ts (λ x. rw (rest x) refl)

  leaf-lives : (k : ℕ) → tagged row0 k ≡ lives v.bits (suc t) 0 k
  leaf-lives k = go (true-or-false (lives v.bits (suc t) 0 k))
    where
      reads : (g : ℕ) → leaf_of g ≡ k → lives v.bits (suc t) 0 k ≡ true → row0 g ≡ v.group g
      reads g q l = rw (q, l)

      go : (lives v.bits (suc t) 0 k ≡ true) ⊎ (lives v.bits (suc t) 0 k ≡ false) → tagged row0 k ≡ lives v.bits (suc t) 0 k
      go (inl l) = ⊎_elim (λ z. z ∙ sym l) (λ z. absurd (tr t 0 k (omega arith) l (λ g q. sym (reads g q l) ∙ untagged row0 k z g q))) (true-or-false (tagged row0 k))
      go (inr l) = tagged-none row0 k (λ g q. rw (q, l)) ∙ sym l

  full-lives : (e d k : ℕ) → e + suc d ≡ suc t → full_by ts row0 e k ≡ lives v.bits (suc d) e k
  full-lives zero d k q = let z : t ≡ d = omega arith in full-zero (tagged row0) (pend ts) k ∙ leaf-lives k ∙ ap (λ (b : ℕ). lives v.bits (suc b) 0 k) z
  full-lives (suc e) d k q = go (λ i. full-lives e (suc d) i (omega arith)) (true-or-false (lives v.bits (suc d) (suc e) k))
    where
      go : ((i : ℕ) → full_by ts row0 e i ≡ lives v.bits (suc (suc d)) e i) → (lives v.bits (suc d) (suc e) k ≡ true) ⊎ (lives v.bits (suc d) (suc e) k ≡ false)
          → full_by ts row0 (suc e) k ≡ lives v.bits (suc d) (suc e) k
      go ih (inl l) = ⊎_elim (λ z. z ∙ sym l) (λ z. absurd (tr d (suc e) k q l (λ i p. never_true (λ y.
          not-both-ways (differ-false _ (none_yet e i) ∙ ih i ∙ both_true _ _ (rw p l) y) (full-not (tagged row0) (pend ts) e i k p z)))))
          (true-or-false (full_by ts row0 (suc e) k))
      go ih (inr l) = full-none (tagged row0) (pend ts) e k (λ i p. differ-false _ (none_yet e i) ∙ ih i ∙ both-false-left _ _ (rw p l)) ∙ sym l

  pub begins-contained : Contained (suc t) ts row0 v
  begins-contained = record {
    agrees = record {
      groups = group;
      bits = λ e k l n. sym (differ-false _ (none_yet e k) ∙ bit e k (t - e) (omega arith) n);
      fits = λ x. rw (rest x) tt;
      low = λ x. rw (rest x) (omega arith);
      small = λ x. rw (rest x) (omega arith);
    };
    tight = record { only = λ e j l n. absurd (bare e j n) };
  }
    where
      group : (g : ℕ) → Counted (suc t) (full_by ts row0) v.lined 0 (leaf_of g) → v.group g ≡ row0 g
      group g (is-top q) = absurd (omega arith)
      group g (is-full f) = let l : lives v.bits (suc t) 0 (leaf_of g) ≡ true = sym (leaf-lives (leaf_of g)) ∙ sym (full-zero (tagged row0) (pend ts) (leaf_of g)) ∙ f in rw l
      group g (is-lined n) = absurd (bare 0 (leaf_of g) n)

      over : (e k d : ℕ) → e + suc d ≡ suc t → Counted (suc t) (full_by ts row0) v.lined (suc e) (map_block_of k) → lives v.bits d (suc e) (map_block_of k) ≡ true
      over e k zero q n = refl
      over e k (suc d) q (is-top p) = absurd (omega arith)
      over e k (suc d) q (is-full f) = sym (full-lives (suc e) d (map_block_of k) (omega arith)) ∙ f
      over e k (suc d) q (is-lined n) = absurd (bare (suc e) (map_block_of k) n)

      bit : (e k d : ℕ) → e + suc d ≡ suc t → Counted (suc t) (full_by ts row0) v.lined (suc e) (map_block_of k) → full_by ts row0 e k ≡ v.bits e k
      bit e k d q n = full-lives e d k q ∙ both-when _ _ (over e k d q n)
