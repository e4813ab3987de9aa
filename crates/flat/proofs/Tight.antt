-- No step leaves an empty block below the top in a line but its own writer's: what it has to show for Tight to be kept.
use mathlib.Core.Path.{◌≡◌, refl, sym, ap, ◌∙◌, subst}
use mathlib.Core.Bool.{true, false}
use mathlib.Core.List.{List}
use mathlib.Core.Logic.{◌⊎◌, inl, inr, ⊎_elim}
use Prim.Native.Nat.{ℕ, zero, suc, ◌≤◌, ◌<◌}
use native.Mathlib.Nat.{eq-or-lt_of_le, le_of_suc-le-suc}
use native.Mathlib.Omega.{arith}
use native.Mathlib.Decide.{ℕ_discrete}
use lib.ListN.{length, set}
use lib.Seq.{get_or-set_same, get_or-set_other}
use Rattle.geometry.specs.TagMemory.{index}
use Rattle.geometry.proofs.Levels.{index-next}
use Rattle.tracker.specs.declared.Tracker.{Tracker}
use Rattle.tracker.specs.Tracker.{idle}
use Rattle.rules.specs.State.{tracker_at}
use Rattle.flat.specs.Flat.{Row, tagged}
use Rattle.flat.proofs.Contained.{View, finishing, pend, full_by, Alone, Owns, Tight}
use Rattle.flat.proofs.Does.{Else}
use Rattle.flat.proofs.Differ.{differ-false}
use Rattle.flat.proofs.Full.{full_at}
use Rattle.flat.proofs.Pending.{pends-not, pend-own, others-not}

-- full on x's way, full above, where x is to put no bit
pub full-up : (top : ℕ) (ts : List Tracker) (row : Row) (x : ℕ) → x < length ts → Alone top ts x → (e c : ℕ) → e ≤ c → c ≤ top
    → ((b : ℕ) → e ≤ b → finishing (tracker_at ts x).phase b ≡ false) → full_by ts row e (index e (tracker_at ts x).group) ≡ true → full_by ts row c (index c (tracker_at ts x).group) ≡ true
full-up top ts row x xl alone e zero l m f z = let q : e ≡ 0 = omega arith in subst (λ (d : ℕ). full_by ts row d (index d (tracker_at ts x).group) ≡ true) q z
full-up top ts row x xl alone e (suc c) l m f z = ⊎_elim (λ q. subst (λ (d : ℕ). full_by ts row d (index d (tracker_at ts x).group) ≡ true) q z)
    (λ q. let el : e ≤ c = le_of_suc-le-suc q in
    full_at (tagged row) (pend ts) c (index c (tracker_at ts x).group) _ (sym (index-next c (tracker_at ts x).group))
    (differ-false _ (none c (omega arith) (f c el)) ∙ full-up top ts row x xl alone e c el (omega arith) f z)) (eq-or-lt_of_le l)
  where
    none : (b : ℕ) → b ≤ top → finishing (tracker_at ts x).phase b ≡ false → pend ts b (index b (tracker_at ts x).group) ≡ false
    none b bl n = pend-own ts b _ x xl (others-not top ts x alone b _ bl refl) ∙ pends-not (tracker_at ts x) b _ n

-- x becomes u' and its block of level e changes: what is to show of that block, and of the others that x kept
module _ {top : ℕ} {ts : List Tracker} {row : Row} {v v' : View} (T : Tight top ts row v) (row' : Row) (x : ℕ) (xl : x < length ts) (u' : Tracker) (e : ℕ)
    (E : Else v v' e (index e (tracker_at ts x).group))
    (fulls : (c i : ℕ) → c ≤ top → (c ≡ e → i ≡ index e (tracker_at ts x).group → ⊥) → full_by (set ts x u') row' c i ≡ full_by ts row c i) where
  abbrev own : ℕ → ℕ
  own c = index c (tracker_at ts x).group

  abbrev May : ℕ → ℕ → Type 0
  May c i = (full_by (set ts x u') row' c i ≡ true) ⊎ ((y : ℕ) × Owns (tracker_at (set ts x u') y) c i)

  pub tight-step : (e < top → v'.lined e (own e) ≡ true → (full_by (set ts x u') row' e (own e) ≡ true) ⊎ Owns u' e (own e))
      → ((c : ℕ) → c < top → (c ≡ e → ⊥) → Owns (tracker_at ts x) c (own c) → (full_by ts row c (own c) ≡ true) ⊎ Owns u' c (own c))
      → Tight top (set ts x u') row' v'
  tight-step here mine = record { only = λ c i l n. each c i l n (ℕ_discrete c e) (ℕ_discrete i (own e)) }
    where
      its : (c i : ℕ) → Owns u' c i → (y : ℕ) × Owns (tracker_at (set ts x u') y) c i
      its c i o = (x, rw (get_or-set_same ts x u' idle xl) o)

      who : (c i : ℕ) → c < top → (c ≡ e → i ≡ own e → ⊥) → (y : ℕ) → Owns (tracker_at ts y) c i → Dec (y ≡ x) → May c i
      who c i l d y o (no q) = inr (y, rw (get_or-set_other ts x y u' idle q) o)
      who c i l d y o (yes q) =
          let o' : Owns (tracker_at ts x) c i = rw q at o in
          ⊎_elim (λ t. inl (fulls c i (omega arith) d ∙ rw (sym o'.its) t)) (λ z. inr (its c i (subst (λ (k : ℕ). Owns u' c k) o'.its z)))
          (mine c l (λ p. d p (sym o'.its ∙ ap own p)) (subst (λ (k : ℕ). Owns (tracker_at ts x) c k) (sym o'.its) o'))

      far : (c i : ℕ) → c < top → v'.lined c i ≡ true → (c ≡ e → i ≡ own e → ⊥) → May c i
      far c i l n d = ⊎_elim (λ t. inl (fulls c i (omega arith) d ∙ t)) (λ o. who c i l d o.0 o.1 (ℕ_discrete o.0 x)) (T.only c i l (E.lined c i d n))

      each : (c i : ℕ) → c < top → v'.lined c i ≡ true → Dec (c ≡ e) → Dec (i ≡ own e) → May c i
      each c i l n (no p) q = far c i l n (λ a b. p a)
      each c i l n (yes p) (no q) = far c i l n (λ a b. q b)
      each c i l n (yes p) (yes q) = ⊎_elim (λ t. inl (rw (p, q) t)) (λ o. inr (its c i (rw (p, q) o))) (here (rw p at l) (rw (p, q) at n))
