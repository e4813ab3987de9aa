-- One step changes one block: what it has to show for Agrees to be kept.
use mathlib.Core.Path.{◌≡◌, refl, sym, ◌∙◌, subst}
use mathlib.Core.Bool.{Bool, true}
use mathlib.Core.List.{List}
use Prim.Native.Nat.{ℕ, suc, ◌≤◌, ◌<◌}
use native.Mathlib.Omega.{arith}
use native.Mathlib.Decide.{ℕ_discrete}
use lib.ListN.{length, set}
use Rattle.geometry.specs.TagMemory.{values, leaf_of, map_block_of, index}
use Rattle.geometry.proofs.Levels.{index-above}
use Rattle.tracker.specs.declared.Phase.{Phase}
use Rattle.tracker.specs.declared.Phase.TheVariants.{Idle, Probe, Top, Under, Set, Clear}
use Rattle.tracker.specs.declared.Tracker.{Tracker}
use Rattle.tracker.specs.Tracker.{holds_at, level_of}
use Rattle.rules.specs.State.{tracker_at}
use Rattle.flat.specs.Flat.{Row}
use Rattle.flat.proofs.Contained.{View, full_by, bit_by, Counted, is-top, is-full, is-lined, Fits, Agrees, Alone}
use Rattle.flat.proofs.Does.{Else}
use Rattle.flat.proofs.Pending.{each}

-- a tracker that holds nothing does not mind, and one that holds looks at its own block of its phase's level
pub fits-other : (f f' : ℕ → ℕ → Bool) (u : Tracker) (p : Phase) → (holds_at p ≡ true → f' (level_of p) (index (level_of p) u.group) ≡ f (level_of p) (index (level_of p) u.group))
    → Fits f u p → Fits f' u p
fits-other f f' u Idle s t = tt
fits-other f f' u (Probe d) s t = tt
fits-other f f' u Top s t = tt
fits-other f f' u (Under d) s t = λ z. s refl ∙ t z
fits-other f f' u (Set d) s t = s refl ∙ t
fits-other f f' u (Clear d) s t = s refl ∙ t

module _ {top : ℕ} {ts : List Tracker} {row : Row} {v : View} (A : Agrees top ts row v) (x : ℕ) (xl : x < length ts) (u' : Tracker) (row' : Row) where
  -- Every level and block but block j of level e says what it said; that one is right if it counts.
  module _ {v' : View} (e j : ℕ) (E : Else v v' e j)
      (fulls : (c i : ℕ) → c ≤ top → (c ≡ e → i ≡ j → ⊥) → full_by (set ts x u') row' c i ≡ full_by ts row c i)
      (bits : (c k : ℕ) → c < top → (suc c ≡ e → map_block_of k ≡ j → ⊥) → bit_by (set ts x u') row' c k ≡ bit_by ts row c k)
      (rows : (g : ℕ) → (0 ≡ e → leaf_of g ≡ j → ⊥) → row' g ≡ row g) where
    abbrev Counts : ℕ → ℕ → Type 0
    Counts c i = Counted top (full_by (set ts x u') row') v'.lined c i

    counted : (c i : ℕ) → c ≤ top → (c ≡ e → i ≡ j → ⊥) → Counts c i → Counted top (full_by ts row) v.lined c i
    counted c i l d (is-top q) = is-top q
    counted c i l d (is-full t) = is-full (sym (fulls c i l d) ∙ t)
    counted c i l d (is-lined t) = is-lined (E.lined c i d t)

    pub agrees-step : ((g : ℕ) → 0 ≡ e → leaf_of g ≡ j → Counts e j → v'.group g ≡ row' g)
        → ((c k : ℕ) → suc c ≡ e → c < top → map_block_of k ≡ j → Counts e j → v'.bits c k ≡ bit_by (set ts x u') row' c k)
        → ((y : ℕ) → Fits (full_by (set ts x u') row') (tracker_at (set ts x u') y) (tracker_at (set ts x u') y).phase) → level_of u'.phase < top → u'.value < values
        → Agrees top (set ts x u') row' v'
    agrees-step here-g here-b fits low small = record {
      groups = λ g n. group g n (ℕ_discrete 0 e) (ℕ_discrete (leaf_of g) j);
      bits = λ c k l n. bit_at c k l n (ℕ_discrete (suc c) e) (ℕ_discrete (map_block_of k) j);
      fits = fits;
      low = each ts x xl u' (λ z. level_of z.phase < top) low (λ y d. A.low y);
      small = each ts x xl u' (λ z. z.value < values) small (λ y d. A.small y);
    }
      where
        far : (g : ℕ) → Counts 0 (leaf_of g) → (0 ≡ e → leaf_of g ≡ j → ⊥) → v'.group g ≡ row' g
        far g n d = E.groups g d ∙ A.groups g (counted 0 (leaf_of g) (omega arith) d n) ∙ sym (rows g d)

        group : (g : ℕ) → Counts 0 (leaf_of g) → Dec (0 ≡ e) → Dec (leaf_of g ≡ j) → v'.group g ≡ row' g
        group g n (yes p) (yes q) = here-g g p q (subst (λ (c : ℕ). Counts c j) p (subst (λ (i : ℕ). Counts 0 i) q n))
        group g n (no p) q = far g n (λ a b. p a)
        group g n (yes p) (no q) = far g n (λ a b. q b)

        away : (c k : ℕ) → c < top → Counts (suc c) (map_block_of k) → (suc c ≡ e → map_block_of k ≡ j → ⊥) → v'.bits c k ≡ bit_by (set ts x u') row' c k
        away c k l n d = E.bits c k d ∙ A.bits c k l (counted (suc c) (map_block_of k) l d n) ∙ sym (bits c k l d)

        bit_at : (c k : ℕ) → c < top → Counts (suc c) (map_block_of k) → Dec (suc c ≡ e) → Dec (map_block_of k ≡ j) → v'.bits c k ≡ bit_by (set ts x u') row' c k
        bit_at c k l n (yes p) (yes q) = here-b c k p l q (subst (λ (d : ℕ). Counts d j) p (subst (λ (i : ℕ). Counts (suc c) i) q n))
        bit_at c k l n (no p) q = away c k l n (λ a b. p a)
        bit_at c k l n (yes p) (no q) = away c k l n (λ a b. q b)

  -- Fits of all, where full changes at most at x's block of level e
  pub fits-step : (e : ℕ) → e ≤ top → Alone top ts x
      → ((c i : ℕ) → c ≤ top → (c ≡ e → i ≡ index e (tracker_at ts x).group → ⊥) → full_by (set ts x u') row' c i ≡ full_by ts row c i)
      → Fits (full_by (set ts x u') row') u' u'.phase → (y : ℕ) → Fits (full_by (set ts x u') row') (tracker_at (set ts x u') y) (tracker_at (set ts x u') y).phase
  fits-step e el alone fulls mine = each ts x xl u' (λ z. Fits (full_by (set ts x u') row') z z.phase) mine (λ y d.
      let p = (tracker_at ts y).phase in
      let l : level_of p < top = A.low y in
      fits-other (full_by ts row) (full_by (set ts x u') row') (tracker_at ts y) p
      (λ h. fulls (level_of p) _ (omega arith) (λ q z. alone y d h (index-above e top _ _ el (subst (λ (b : ℕ). index b (tracker_at ts y).group ≡ index e (tracker_at ts x).group) q z))))
      (A.fits y))
