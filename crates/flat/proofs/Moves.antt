-- Steps that put no bit: under a top block with nobody at Finish bits say what the row says; blocks come in, are created, leave their lines.
use mathlib.Core.Path.{◌≡◌, refl, sym, ◌∙◌, subst}
use mathlib.Core.Bool.{false}
use mathlib.Core.List.{List}
use Prim.Native.Nat.{ℕ, suc, ◌<◌}
use native.Mathlib.Omega.{arith}
use lib.ListN.{length, set}
use Rattle.geometry.specs.TagMemory.{values, leaf_of, map_block_of}
use Rattle.tracker.specs.declared.Tracker.{Tracker}
use Rattle.tracker.specs.Tracker.{level_of}
use Rattle.rules.specs.State.{tracker_at}
use Rattle.flat.specs.Flat.{Row, tagged}
use Rattle.flat.proofs.Contained.{View, pends, pend, full_by, bit_by, Counted, is-top, is-full, is-lined, Fits, Agrees, Contained}
use Rattle.flat.proofs.Does.{Else, Stays, Brought, Created}
use Rattle.flat.proofs.Full.{full-not, full-below}
use Rattle.flat.proofs.Pending.{each, pend-keeps}
use Rattle.flat.proofs.Kept.{agrees-step, fits-other}

-- what stays comes in nowhere
pub stays-brought : {v v' : View} → Stays v v' → (e j : ℕ) → Brought v v' e j
stays-brought S e j = record { groups = S.groups; bits = S.bits; lined = λ c i d. S.lined c i }

pub brought-else : {v v' : View} {e j : ℕ} → Brought v v' e j → Else v v' e j
brought-else B = record { groups = λ g d. B.groups g; bits = λ c k d. B.bits c k; lined = B.lined }

module _ {top : ℕ} {ts : List Tracker} {row : Row} {v : View} where
  -- drain, and evicting alone
  pub agrees-stays : {v' : View} → Stays v v' → Agrees top ts row v → Agrees top ts row v'
  agrees-stays {v'} S A = record {
    groups = λ g n. S.groups g ∙ A.groups g (was 0 (leaf_of g) n);
    bits = λ e k l n. S.bits e k ∙ A.bits e k l (was (suc e) (map_block_of k) n);
    fits = A.fits;
    low = A.low;
    small = A.small;
  }
    where
      was : (e j : ℕ) → Counted top (full_by ts row) v'.lined e j → Counted top (full_by ts row) v.lined e j
      was e j (is-top q) = is-top q
      was e j (is-full t) = is-full t
      was e j (is-lined t) = is-lined (S.lined e j t)

  pub contained-stays : {v' : View} → Stays v v' → Contained top ts row v → Contained top ts row v'
  contained-stays S C = record { agrees = agrees-stays S C.agrees; tight = record { only = λ e j l n. C.tight.only e j l (S.lined e j n) } }

-- x becomes u', which is about to put the bit that x was to put, or none as x
module _ {top : ℕ} {ts : List Tracker} {row : Row} {v : View} (A : Agrees top ts row v) (x : ℕ) (xl : x < length ts) (u' : Tracker)
    (np : (e k : ℕ) → pends u' e k ≡ pends (tracker_at ts x) e k) where
  pub same_full : (c i : ℕ) → full_by (set ts x u') row c i ≡ full_by ts row c i
  same_full c i = full-below (tagged row) (tagged row) (pend ts) (pend (set ts x u')) c (λ k. refl) (λ b k l. pend-keeps ts x xl u' b k (np b k)) c i (omega arith)

  same_bit : (c i : ℕ) → bit_by (set ts x u') row c i ≡ bit_by ts row c i
  same_bit c i = rw (same_full c i, pend-keeps ts x xl u' c i (np c i))

  module _ (fit : Fits (full_by ts row) u' u'.phase) (low : level_of u'.phase < top) (small : u'.value < values) where
    -- block j of level e is right afterwards if it counts, every other one stays
    move_step : {v' : View} (e j : ℕ) → Else v v' e j
        → ((g : ℕ) → 0 ≡ e → leaf_of g ≡ j → v'.group g ≡ row g)
        → ((c k : ℕ) → suc c ≡ e → c < top → map_block_of k ≡ j → v'.bits c k ≡ bit_by ts row c k)
        → Agrees top (set ts x u') row v'
    move_step {v'} e j E here-g here-b = agrees-step A x xl u' row e j E (λ c i l d. same_full c i) (λ c k l d. same_bit c k) (λ g d. refl)
        (λ g p q n. here-g g p q) (λ c k p l q n. here-b c k p l q ∙ sym (same_bit c k))
        (each ts x xl u' (λ z. Fits (full_by (set ts x u') row) z z.phase) (any u' fit) (λ y d. any (tracker_at ts y) (A.fits y))) low small
      where
        any : (u : Tracker) → Fits (full_by ts row) u u.phase → Fits (full_by (set ts x u') row) u u.phase
        any u f = fits-other (full_by ts row) (full_by (set ts x u') row) u u.phase (λ h. same_full _ _) f

    -- a block that counts comes into a line as it is
    pub bring-step : {v' : View} (e j : ℕ) → Brought v v' e j → Counted top (full_by ts row) v.lined e j → Agrees top (set ts x u') row v'
    bring-step e j B n = move_step e j (brought-else B) (λ g p q. B.groups g ∙ A.groups g (at_block 0 (leaf_of g) p q)) (λ c k p l q. B.bits c k ∙ A.bits c k l (at_block (suc c) (map_block_of k) p q))
      where
        at_block : (c i : ℕ) → c ≡ e → i ≡ j → Counted top (full_by ts row) v.lined c i
        at_block c i p q = subst (λ (d : ℕ). Counted top (full_by ts row) v.lined d i) (sym p) (subst (λ (b : ℕ). Counted top (full_by ts row) v.lined e b) (sym q) n)

    pub stay-step : {v' : View} → Stays v v' → Agrees top (set ts x u') row v'
    stay-step S = bring-step top 0 (stays-brought S top 0) (is-top refl)

    -- an empty block is all zero
    pub create-step : {v' : View} (d j : ℕ) → Created v v' d j → full_by ts row (suc d) j ≡ false → Agrees top (set ts x u') row v'
    create-step {v'} d j Z f = move_step (suc d) j Z.only (λ g p q. absurd (omega arith)) zero
      where
        zero : (c k : ℕ) → suc c ≡ suc d → c < top → map_block_of k ≡ j → v'.bits c k ≡ bit_by ts row c k
        zero c k p l q = let z : c ≡ d = omega arith in rw z (Z.bits k q ∙ sym (full-not (tagged row) (pend ts) d k j q f))
