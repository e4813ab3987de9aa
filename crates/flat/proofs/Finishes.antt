-- Finish puts its bit and drops its pending bit; exactly where that empties or fills the block, the pending bit above it appears.
use mathlib.Core.Path.{◌≡◌, refl, sym, ap, ◌∙◌}
use mathlib.Core.Bool.{Bool, true, false}
use mathlib.Core.List.{List}
use mathlib.Core.Logic.{◌⊎◌, inl, inr, ⊎_elim}
use Prim.Native.Nat.{ℕ, suc, ◌+◌, ◌-◌, ◌*◌, ◌%◌, ◌≤◌, ◌<◌}
use native.Mathlib.Omega.{arith}
use native.Mathlib.Decide.{ℕ_discrete}
use lib.Dec.{eqb, ltb}
use lib.ListN.{length, set}
use borrow.Author.Tests.{eq-eqb, ne_eqb, lt-ltb, le-ltb, ltb-true}
use Rattle.laws.specs.Choice.{pick, both, no as negated}
use Rattle.laws.specs.Scan.{some}
use Rattle.laws.proofs.Choice.{not-both-ways, both_left, both_right, both-when, both-false-left}
use Rattle.laws.proofs.Splice.{lt-or-ge}
use Rattle.laws.proofs.Some.{some-true, some_same}
use Rattle.geometry.specs.TagMemory.{values, block_bits, map_block_of, index}
use Rattle.geometry.proofs.Levels.{index-next}
use Rattle.tracker.specs.declared.Phase.{Phase}
use Rattle.tracker.specs.declared.Transfers.{Transfers}
use Rattle.tracker.specs.declared.Tracker.{Tracker}
use Rattle.tracker.specs.Tracker.{level_of, at, finish_at}
use Rattle.rules.specs.State.{tracker_at}
use Rattle.flat.specs.Levels.{reaches, others}
use Rattle.flat.specs.Flat.{Row, tagged, goes, finishes, tracker_by}
use Rattle.flat.proofs.Contained.{View, differ, pends, pend, full_by, bit_by, Counted, is-top, is-full, is-lined, Fits, Agrees, Alone}
use Rattle.flat.proofs.Does.{Else, bits_with, some_with, must_change, finish_on}
use Rattle.flat.proofs.Differ.{differ-false, differ-true, differ-over}
use Rattle.flat.proofs.Full.{under-block, place-lt, block-place, above, above_in, above-index, full_at, full_is, full-same, bits_above, full-above, full-below, bits_below, full-reaches}
use Rattle.flat.proofs.Pending.{finish-is, finish-not, pends-not, pends-is, pends-other, pends-idle, pend-own, pend-set, pend-keeps, others-not, under-own}
use Rattle.flat.proofs.Kept.{agrees-step, fits-step}

pub fit_of : (f : ℕ → ℕ → Bool) (u : Tracker) (s : Bool) (d : ℕ) (p : Phase) → p ≡ finish_at s d → Fits f u p → f d (index d u.group) ≡ s
fit_of f u true d p q t = rw q at t
fit_of f u false d p q t = rw q at t

-- the tracker after Finish, by whether it goes on
module _ (u : Tracker) (m : Transfers) (s : Bool) (d : ℕ) where
  abbrev pub went : Bool → Tracker
  went on = tracker_by u m (pick on (goes (finish_at s (suc d))) finishes)

  went-not : (on : Bool) (c k : ℕ) → (c ≡ suc d → ⊥) → pends (went on) c k ≡ false
  went-not true c k n = pends-not (at u (finish_at s (suc d)) m) c k (finish-not s (suc d) c (λ q. n (sym q)))
  went-not false c k n = pends-idle c k

  went-other : (on : Bool) (k : ℕ) → (index (suc d) u.group ≡ k → ⊥) → pends (went on) (suc d) k ≡ false
  went-other true k n = pends-other (at u (finish_at s (suc d)) m) (suc d) k n
  went-other false k n = pends-idle (suc d) k

  went-here : (on : Bool) (k : ℕ) → index (suc d) u.group ≡ k → pends (went on) (suc d) k ≡ on
  went-here true k q = pends-is (at u (finish_at s (suc d)) m) (suc d) k (finish-is s (suc d)) q
  went-here false k q = pends-idle (suc d) k

  went-fits : (f : ℕ → ℕ → Bool) (on : Bool) → (on ≡ true → f (suc d) (index (suc d) u.group) ≡ s) → Fits f (went on) (went on).phase
  went-fits f false q = tt
  went-fits f true q = go s (q refl)
    where
      go : (z : Bool) → f (suc d) (index (suc d) u.group) ≡ z → Fits f (at u (finish_at z (suc d)) m) (finish_at z (suc d))
      go true y = y
      go false y = y

  went-low : (top : ℕ) (on : Bool) → 0 < top → (on ≡ true → suc d < top) → level_of (went on).phase < top
  went-low top false l q = l
  went-low top true l q = go s
    where
      go : (z : Bool) → level_of (finish_at z (suc d)) < top
      go true = q refl
      go false = q refl

  went-small : (on : Bool) → u.value < values → (went on).value < values
  went-small true l = l
  went-small false l = omega arith

-- the rule for going on is: the block was empty and is not, or was not and is
must-differ : (s was now : Bool) → (s ≡ true → now ≡ true) → (s ≡ false → was ≡ true) → must_change s was now ≡ differ was now
unfolding differ both negated
must-differ true true now p q = rw (p refl)
must-differ true false now p q = sym (p refl)
must-differ false true true p q = refl
must-differ false true false p q = refl
must-differ false false now p q = absurd (not-both-ways (q refl) refl)

-- set leaves a full block; clear that goes on an empty one
must-now : (s above now : Bool) → (s ≡ true → now ≡ true) → must_change s above now ≡ true → now ≡ s
unfolding both negated
must-now true above now p g = p refl
must-now false above true p g = absurd (not-both-ways g refl)
must-now false above false p g = refl

-- What tracker x has at Finish for a bit over level d: nobody else holds its top block, and the blocks above are in lines.
pub record AtFinish (t : ℕ) (ts : List Tracker) (v : View) (x : ℕ) (s : Bool) (d : ℕ) : Type 0 where
  pub there : (tracker_at ts x).phase ≡ finish_at s d
  pub low : d < suc t
  pub alone : Alone (suc t) ts x
  pub lined : (e : ℕ) → d < e → e ≤ suc t → v.lined e (index e (tracker_at ts x).group) ≡ true

module _ {t : ℕ} {ts : List Tracker} {row : Row} {v : View} {x : ℕ} {s : Bool} {d : ℕ} (A : Agrees (suc t) ts row v) (xl : x < length ts) (m : Transfers) (F : AtFinish t ts v x s d) where
  -- the block below, the block, whether a bit of it is 1 with the bit put, whether the access goes on, and what it is then
  abbrev u : Tracker
  u = tracker_at ts x

  abbrev k0 : ℕ
  k0 = index d u.group

  abbrev j0 : ℕ
  j0 = index (suc d) u.group

  abbrev now : Bool
  now = some_with v u s d

  abbrev on : Bool
  on = finish_on t v u s d

  abbrev next : Tracker
  next = went u m s d on

  abbrev was : Bool
  was = full_by ts row (suc d) j0

  j-is : map_block_of k0 ≡ j0
  j-is = sym (index-next d u.group)

  fit : full_by ts row d k0 ≡ s
  fit = fit_of (full_by ts row) u s d u.phase F.there (A.fits x)

  own-not : (c k : ℕ) → (c ≡ d → ⊥) → pends u c k ≡ false
  own-not c k n = pends-not u c k (rw F.there (finish-not s d c (λ q. n (sym q))))

  -- pending bits: elsewhere they stay
  pend-far : (c k : ℕ) → (c ≡ d → ⊥) → (c ≡ suc d → ⊥) → pend (set ts x next) c k ≡ pend ts c k
  pend-far c k n q = pend-keeps ts x xl next c k (went-not u m s d on c k q ∙ sym (own-not c k n))

  pend-beside : (k : ℕ) → (k ≡ k0 → ⊥) → pend (set ts x next) d k ≡ pend ts d k
  pend-beside k n = pend-keeps ts x xl next d k (went-not u m s d on d k (λ q. omega arith) ∙ sym (pends-other u d k (λ q. n (sym q))))

  pend-over : (k : ℕ) → (k ≡ j0 → ⊥) → pend (set ts x next) (suc d) k ≡ pend ts (suc d) k
  pend-over k n = pend-keeps ts x xl next (suc d) k (went-other u m s d on k (λ q. n (sym q)) ∙ sym (own-not (suc d) k (λ q. omega arith)))

  -- its own is dropped
  nobody : (c k : ℕ) → c ≤ suc t → index c u.group ≡ k → (y : ℕ) → (y ≡ x → ⊥) → pends (tracker_at ts y) c k ≡ false
  nobody = others-not (suc t) ts x F.alone

  pend-mine : pend ts d k0 ≡ true
  pend-mine = pend-own ts d k0 x xl (nobody d k0 (omega (arith, F.low)) refl) ∙ pends-is u d k0 (rw F.there (finish-is s d)) refl

  pend-dropped : pend (set ts x next) d k0 ≡ false
  pend-dropped = pend-set ts x xl next d k0 (nobody d k0 (omega (arith, F.low)) refl) ∙ went-not u m s d on d k0 (λ q. omega arith)

  -- and the one above appears where it goes on
  pend-none : pend ts (suc d) j0 ≡ false
  pend-none = pend-own ts (suc d) j0 x xl (nobody (suc d) j0 F.low refl) ∙ own-not (suc d) j0 (λ q. omega arith)

  pend-new : pend (set ts x next) (suc d) j0 ≡ on
  pend-new = pend-set ts x xl next (suc d) j0 (nobody (suc d) j0 F.low refl) ∙ went-here u m s d on j0 refl

  below : (c k : ℕ) → c ≤ d → full_by (set ts x next) row c k ≡ full_by ts row c k
  below = full-below (tagged row) (tagged row) (pend ts) (pend (set ts x next)) d (λ k. refl) (λ c k l. pend-far c k (λ q. omega arith) (λ q. omega arith))

  bit-beside : (k : ℕ) → (k ≡ k0 → ⊥) → bit_by (set ts x next) row d k ≡ bit_by ts row d k
  bit-beside k n = rw (below d k (omega arith), pend-beside k n)

  bit-was : bit_by ts row d k0 ≡ negated s
  bit-was = differ-true (full_by ts row d k0) pend-mine ∙ ap negated fit

  right : (k : ℕ) → map_block_of k ≡ j0 → v.bits d k ≡ bit_by ts row d k
  right k q = A.bits d k F.low (rw q (is-lined (F.lined (suc d) (omega arith) F.low)))

  -- the bits of the block are those put
  bit-put : (k : ℕ) → map_block_of k ≡ j0 → bit_by (set ts x next) row d k ≡ bits_with v u s d k
  bit-put k q = go (ℕ_discrete k k0)
    where
      go : Dec (k ≡ k0) → bit_by (set ts x next) row d k ≡ bits_with v u s d k
      go (yes e) = rw (eq-eqb k k0 e, e) (differ-false (full_by (set ts x next) row d k0) pend-dropped ∙ below d k0 (omega arith) ∙ fit)
      go (no e) = rw (ne_eqb k k0 e) (bit-beside k e ∙ sym (right k q))

  pub now_full : full_by (set ts x next) row (suc d) j0 ≡ now
  now_full = full_is (tagged row) (pend (set ts x next)) (bits_with v u s d) d j0 bit-put

  pub set-now : s ≡ true → now ≡ true
  set-now z = some-true _ block_bits (k0 % block_bits) (place-lt k0) (rw (block-place k0 j0 j-is, eq-eqb k0 k0 refl) z)

  clear-was : s ≡ false → was ≡ true
  unfolding negated
  clear-was z = full_at (tagged row) (pend ts) d k0 j0 j-is (bit-was ∙ rw z)

  above-is : d < t → v.bits (suc d) j0 ≡ was
  above-is l = A.bits (suc d) j0 (omega arith) (is-lined (rw (sym (index-next (suc d) u.group)) (F.lined (suc (suc d)) (omega arith) (omega arith)))) ∙ differ-false was pend-none

  -- below the top it goes on exactly where the block was emptied or filled
  pub on-is : d < t → on ≡ differ was now
  on-is l = both-when _ _ (lt-ltb d t l) ∙ rw (above-is l) (must-differ s was now set-now clear-was)

  -- so that no bit above moves
  full-beside : (k : ℕ) → (k ≡ j0 → ⊥) → full_by (set ts x next) row (suc d) k ≡ full_by ts row (suc d) k
  full-beside k n = full-same (tagged row) (tagged row) (pend ts) (pend (set ts x next)) d k (λ i q. bit-beside i (λ p. n (sym q ∙ ap map_block_of p ∙ j-is)))

  bit-over : d < t → (k : ℕ) → Dec (k ≡ j0) → bit_by (set ts x next) row (suc d) k ≡ bit_by ts row (suc d) k
  bit-over l k (yes e) = rw (e, now_full, pend-new, on-is l) (differ-over was now ∙ sym (differ-false was pend-none))
  bit-over l k (no e) = rw (full-beside k e, pend-over k e)

  far-over : (c k : ℕ) → suc d < c → pend (set ts x next) c k ≡ pend ts c k
  far-over c k l = pend-far c k (λ q. omega arith) (λ q. omega arith)

  pub finish-fulls : (c i : ℕ) → c ≤ suc t → (c ≡ suc d → i ≡ j0 → ⊥) → full_by (set ts x next) row c i ≡ full_by ts row c i
  finish-fulls c i l n = ⊎_elim (λ q. here q (ℕ_discrete c (suc d))) (λ q. below c i q) (lt-or-ge d c)
    where
      here : d < c → Dec (c ≡ suc d) → full_by (set ts x next) row c i ≡ full_by ts row c i
      here q (yes p) = rw p (full-beside i (n p))
      here q (no p) = full-above (tagged row) (tagged row) (pend ts) (pend (set ts x next)) (suc d) (λ k. bit-over (omega arith) k (ℕ_discrete k j0)) far-over c i (omega arith)

  finish-bits : (c k : ℕ) → c < suc t → (c ≡ d → map_block_of k ≡ j0 → ⊥) → bit_by (set ts x next) row c k ≡ bit_by ts row c k
  finish-bits c k l n = ⊎_elim
      (λ q. bits_above (tagged row) (tagged row) (pend ts) (pend (set ts x next)) (suc d) (λ i. bit-over (omega arith) i (ℕ_discrete i j0)) far-over c k q)
      (λ q. here q (ℕ_discrete c d)) (lt-or-ge d c)
    where
      here : c ≤ d → Dec (c ≡ d) → bit_by (set ts x next) row c k ≡ bit_by ts row c k
      here q (yes p) = rw p (bit-beside k (λ y. n p (ap map_block_of y ∙ j-is)))
      here q (no p) = bits_below (tagged row) (tagged row) (pend ts) (pend (set ts x next)) d (λ i. refl) (λ b i z. pend-far b i (λ y. omega arith) (λ y. omega arith)) c k (omega arith)

  on-low : on ≡ true → suc d < suc t
  on-low z = let y : d < t = ltb-true d t (both_left _ _ z) in omega arith

  -- the step: the block, if it counts, has the bits put
  pub finish-step : {v' : View} → Else v v' (suc d) j0 → ((d ≡ t) ⊎ ((now ≡ true) ⊎ (v'.lined (suc d) j0 ≡ true)) → (k : ℕ) → map_block_of k ≡ j0 → v'.bits d k ≡ bits_with v u s d k)
      → Agrees (suc t) (set ts x next) row v'
  finish-step {v'} E here = agrees-step A x xl next row (suc d) j0 E finish-fulls (λ c k l n. finish-bits c k l (λ p q. n (ap suc p) q)) (λ g n. refl)
      (λ g p q n. absurd (omega arith)) bits
      (fits-step A x xl next row (suc d) F.low F.alone finish-fulls
      (went-fits u m s d (full_by (set ts x next) row) on (λ z. now_full ∙ must-now s (v.bits (suc d) j0) now set-now (both_right _ _ z))))
      (went-low u m s d (suc t) on (omega arith) on-low) (went-small u m s d on (A.small x))
    where
      why : Counted (suc t) (full_by (set ts x next) row) v'.lined (suc d) j0 → (d ≡ t) ⊎ ((now ≡ true) ⊎ (v'.lined (suc d) j0 ≡ true))
      why (is-top q) = inl (omega arith)
      why (is-full z) = inr (inl (sym now_full ∙ z))
      why (is-lined z) = inr (inr z)

      bits : (c k : ℕ) → suc c ≡ suc d → c < suc t → map_block_of k ≡ j0 → Counted (suc t) (full_by (set ts x next) row) v'.lined (suc d) j0 → v'.bits c k ≡ bit_by (set ts x next) row c k
      bits c k p l q n = let z : c ≡ d = omega arith in rw z (here (why n) k q ∙ sym (bit-put k q))

  -- The rule by the row alone: it goes on exactly if no other block under the same block has a tag, for set and for clear alike.
  beside-reaches : (k : ℕ) → map_block_of k ≡ j0 → (k ≡ k0 → ⊥) → bit_by ts row d k ≡ reaches block_bits (tagged row) d k
  beside-reaches k q n = go (t - d) (omega arith)
    where
      go : (r : ℕ) → d + suc r ≡ suc t → bit_by ts row d k ≡ reaches block_bits (tagged row) d k
      go r e =
          let z : above (suc r) k ≡ index (suc t) u.group = above_in r k ∙ ap (above r) (q ∙ sym j-is) ∙ sym (above_in r k0) ∙ above-index d (suc r) u.group ∙ ap (λ (c : ℕ). index c u.group) e in
          differ-false _ (under-own (suc t) ts x F.alone d (suc r) k e z (pends-other u d k (λ y. n (sym y))))
          ∙ full-reaches (tagged row) (pend ts) (suc t) (index (suc t) u.group) d (λ c b i l p a. under-own (suc t) ts x F.alone c b i p a (own-not c i (λ y. omega arith))) d (suc r) k (omega arith) e z

  abbrev other : ℕ → Bool
  other k = both (negated (eqb k k0)) (reaches block_bits (tagged row) d k)

  other-is : (b : ℕ → Bool) → b k0 ≡ false → ((k : ℕ) → map_block_of k ≡ j0 → (k ≡ k0 → ⊥) → b k ≡ bit_by ts row d k) → (k : ℕ) → map_block_of k ≡ j0 → Dec (k ≡ k0) → b k ≡ other k
  unfolding both negated
  other-is b z f k q (yes e) = rw (eq-eqb k k0 e, e) z
  other-is b z f k q (no e) = rw (ne_eqb k k0 e) (f k q e ∙ beside-reaches k q e)

  others-are : others block_bits (tagged row) d k0 ≡ some (λ i. other (j0 * block_bits + i)) block_bits
  unfolding others map_block_of
  others-are = ap (λ (j : ℕ). some (λ i. other (j * block_bits + i)) block_bits) j-is

  on-others : d < t → on ≡ negated (others block_bits (tagged row) d k0)
  unfolding negated differ
  on-others l = on-is l ∙ go s refl
    where
      go : (z : Bool) → s ≡ z → differ was now ≡ negated (others block_bits (tagged row) d k0)
      go true z = differ-true was (set-now z) ∙ ap negated (full_is (tagged row) (pend ts) other d j0
          (λ k q. other-is (bit_by ts row d) (bit-was ∙ rw z) (λ i p n. refl) k q (ℕ_discrete k k0)) ∙ sym others-are)
      go false z = rw (clear-was z) (ap negated (some_same _ _ block_bits (λ i b. other-is (bits_with v u s d) (rw (eq-eqb k0 k0 refl) z)
          (λ k p n. rw (ne_eqb k k0 n) (right k p)) (j0 * block_bits + i) (under-block j0 i b) (ℕ_discrete (j0 * block_bits + i) k0)) ∙ sym others-are))

  pub finish-on : on ≡ both (ltb d t) (negated (others block_bits (tagged row) d k0))
  finish-on = ⊎_elim (λ l. on-others l ∙ sym (both-when _ _ (lt-ltb d t l))) (λ l. both-false-left _ _ (le-ltb d t l) ∙ sym (both-false-left _ _ (le-ltb d t l))) (lt-or-ge d t)
