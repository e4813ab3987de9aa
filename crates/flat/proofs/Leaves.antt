-- A Leaf step that changes its leaf: full 0 and the pending bit flip together, so that every bit stays.
use mathlib.Core.Path.{◌≡◌, refl, sym, ◌∙◌}
use mathlib.Core.Bool.{Bool, true, false}
use mathlib.Core.List.{List}
use mathlib.Core.Logic.{◌⊎◌, inl, inr}
use Prim.Native.Nat.{ℕ, zero, suc, ◌<◌}
use native.Mathlib.Omega.{arith}
use native.Mathlib.Decide.{ℕ_discrete}
use lib.ListN.{length, set}
use Rattle.laws.specs.Choice.{no as negated}
use Rattle.laws.proofs.Choice.{not-both-ways}
use Rattle.geometry.specs.TagMemory.{values, leaf_of, index}
use Rattle.geometry.proofs.Levels.{index-0}
use Rattle.tracker.specs.declared.Phase.TheVariants.{Under, Set, Clear}
use Rattle.tracker.specs.declared.Transfers.{Transfers}
use Rattle.tracker.specs.declared.Tracker.{Tracker}
use Rattle.tracker.specs.Tracker.{level_of, at}
use Rattle.rules.specs.State.{tracker_at}
use Rattle.flat.specs.Flat.{Row, tagged, by_tags, tracker_by}
use Rattle.flat.proofs.Tags.{tagged-same}
use Rattle.flat.proofs.Contained.{View, differ, pends, pend, full_by, bit_by, Counted, is-top, is-full, is-lined, Fits, Agrees, Alone}
use Rattle.flat.proofs.Does.{Else}
use Rattle.flat.proofs.Differ.{differ-false, differ-over}
use Rattle.flat.proofs.Full.{full-zero, bits_above, full-above}
use Rattle.flat.proofs.Pending.{not-finishing, finish-is, finish-not, pends-not, pends-is, pends-other, pends-idle, pend-own, pend-set, pend-keeps, others-not}
use Rattle.flat.proofs.Kept.{agrees-step, fits-step}

-- the tracker afterwards, by whether its leaf had and has a tag: a leaf that changed and had none has one now
module _ (u : Tracker) (m : Transfers) where
  left_here : (a b : Bool) (k : ℕ) → (a ≡ false → b ≡ true) → index 0 u.group ≡ k → pends (tracker_by u m (by_tags a b)) 0 k ≡ differ a b
  unfolding differ negated
  left_here true true k n q = pends-idle 0 k
  left_here true false k n q = pends-is (at u (Clear 0) m) 0 k (finish-is false 0) q
  left_here false true k n q = pends-is (at u (Set 0) m) 0 k (finish-is true 0) q
  left_here false false k n q = absurd (not-both-ways (n refl) refl)

  left_other : (a b : Bool) (k : ℕ) → (index 0 u.group ≡ k → ⊥) → pends (tracker_by u m (by_tags a b)) 0 k ≡ false
  left_other true true k q = pends-idle 0 k
  left_other true false k q = pends-other (at u (Clear 0) m) 0 k q
  left_other false b k q = pends-other (at u (Set 0) m) 0 k q

  left-above : (a b : Bool) (e k : ℕ) → 0 < e → pends (tracker_by u m (by_tags a b)) e k ≡ false
  left-above true true e k l = pends-idle e k
  left-above true false e k l = pends-not (at u (Clear 0) m) e k (finish-not false 0 e (λ q. omega arith))
  left-above false b e k l = pends-not (at u (Set 0) m) e k (finish-not true 0 e (λ q. omega arith))

  left-low : (top : ℕ) (a b : Bool) → 0 < top → level_of (tracker_by u m (by_tags a b)).phase < top
  left-low top true true l = l
  left-low top true false l = l
  left-low top false b l = l

  left-small : (a b : Bool) → u.value < values → (tracker_by u m (by_tags a b)).value < values
  left-small true true l = omega arith
  left-small true false l = l
  left-small false b l = l

module _ {top : ℕ} {ts : List Tracker} {row : Row} {v : View} (tp : 0 < top) (A : Agrees top ts row v)
    (x : ℕ) (xl : x < length ts) (m : Transfers) (ph : (tracker_at ts x).phase ≡ Under 0) (alone : Alone top ts x)
    (row' : Row) (rows : (g : ℕ) → (leaf_of g ≡ leaf_of (tracker_at ts x).group → ⊥) → row' g ≡ row g)
    (new : tagged row (leaf_of (tracker_at ts x).group) ≡ false → tagged row' (leaf_of (tracker_at ts x).group) ≡ true) where
  abbrev u : Tracker
  u = tracker_at ts x

  abbrev leaf : ℕ
  leaf = leaf_of u.group

  abbrev next : Tracker
  next = tracker_by u m (by_tags (tagged row leaf) (tagged row' leaf))

  tags : (k : ℕ) → (k ≡ leaf → ⊥) → tagged row' k ≡ tagged row k
  tags k n = tagged-same row k row' (λ g q. rows g (λ p. n (sym q ∙ p)))

  own-not : (e k : ℕ) → pends u e k ≡ false
  own-not e k = pends-not u e k (rw ph (not-finishing (Under 0) refl e))

  pend-above : (e k : ℕ) → 0 < e → pend (set ts x next) e k ≡ pend ts e k
  pend-above e k l = pend-keeps ts x xl next e k (left-above u m (tagged row leaf) (tagged row' leaf) e k l ∙ sym (own-not e k))

  nobody : (y : ℕ) → (y ≡ x → ⊥) → pends (tracker_at ts y) 0 leaf ≡ false
  nobody = others-not top ts x alone 0 leaf (omega arith) (index-0 u.group)

  -- the bits over leaves stay
  bit-zero : (k : ℕ) → Dec (k ≡ leaf) → bit_by (set ts x next) row' 0 k ≡ bit_by ts row 0 k
  bit-zero k (yes q) = rw (
    q,
    full-zero (tagged row') (pend (set ts x next)) leaf,
    full-zero (tagged row) (pend ts) leaf,
    pend-set ts x xl next 0 leaf nobody,
    left_here u m (tagged row leaf) (tagged row' leaf) leaf new (index-0 u.group),
    pend-own ts 0 leaf x xl nobody,
    own-not 0 leaf,
  )
      (differ-over (tagged row leaf) (tagged row' leaf) ∙ sym (differ-false (tagged row leaf) refl))
  bit-zero k (no q) = rw (
    full-zero (tagged row') (pend (set ts x next)) k,
    full-zero (tagged row) (pend ts) k,
    tags k q,
    pend-keeps ts x xl next 0 k (left_other u m (tagged row leaf) (tagged row' leaf) k (λ p. q (sym p ∙ index-0 u.group)) ∙ sym (own-not 0 k)),
  )

  -- every bit stays, and so does every block above the leaves
  leaf-bits : (e k : ℕ) → bit_by (set ts x next) row' e k ≡ bit_by ts row e k
  leaf-bits e k = bits_above (tagged row) (tagged row') (pend ts) (pend (set ts x next)) 0 (λ i. bit-zero i (ℕ_discrete i leaf)) pend-above e k (omega arith)

  pub leaf-fulls : (e k : ℕ) → (e ≡ 0 → k ≡ leaf → ⊥) → full_by (set ts x next) row' e k ≡ full_by ts row e k
  leaf-fulls zero k d = full-zero (tagged row') (pend (set ts x next)) k ∙ tags k (d refl) ∙ sym (full-zero (tagged row) (pend ts) k)
  leaf-fulls (suc e) k d = full-above (tagged row) (tagged row') (pend ts) (pend (set ts x next)) 0 (λ i. bit-zero i (ℕ_discrete i leaf)) pend-above (suc e) k (omega arith)

  next_fits : (f : ℕ → ℕ → Bool) (a b : Bool) → (a ≡ false → b ≡ true) → f 0 (index 0 u.group) ≡ b → Fits f (tracker_by u m (by_tags a b)) (tracker_by u m (by_tags a b)).phase
  next_fits f true true n q = tt
  next_fits f true false n q = q
  next_fits f false b n q = q ∙ n refl

  -- the step: the leaf, if it counts, has the new row's groups
  pub leaf-step : {v' : View} → Else v v' 0 leaf → ((tagged row' leaf ≡ true) ⊎ (v'.lined 0 leaf ≡ true) → (g : ℕ) → leaf_of g ≡ leaf → v'.group g ≡ row' g)
      → Agrees top (set ts x next) row' v'
  leaf-step {v'} E here = agrees-step A x xl next row' 0 leaf E (λ c i l d. leaf-fulls c i d) (λ c k l d. leaf-bits c k) (λ g d. rows g (λ q. d refl q))
      (λ g p q n. here (why n) g q) (λ c k p l q n. absurd (omega arith))
      (fits-step A x xl next row' 0 (omega arith) alone (λ c i l d. leaf-fulls c i (λ p q. d p (q ∙ sym (index-0 u.group))))
      (next_fits (full_by (set ts x next) row') (tagged row leaf) (tagged row' leaf) new (rw index-0 (full-zero (tagged row') (pend (set ts x next)) leaf))))
      (left-low u m top (tagged row leaf) (tagged row' leaf) tp) (left-small u m (tagged row leaf) (tagged row' leaf) (A.small x))
    where
      why : Counted top (full_by (set ts x next) row') v'.lined 0 leaf → (tagged row' leaf ≡ true) ⊎ (v'.lined 0 leaf ≡ true)
      why (is-top q) = absurd (omega arith)
      why (is-full t) = inl (sym (full-zero (tagged row') (pend (set ts x next)) leaf) ∙ t)
      why (is-lined t) = inr t
