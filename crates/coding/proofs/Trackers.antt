-- The trackers' words: one tracker's after the other's, each eight.
use mathlib.Core.Path.{◌≡◌, refl, ap, sym, ◌∙◌}
use mathlib.Core.List.{List, [], ◌∷◌, ◌++◌, append_assoc, append-nil}
use mathlib.Core.Bool.{Bool, true, false}
use Prim.Native.Nat.{ℕ, zero, suc, ◌+◌, ◌*◌, ◌/◌, ◌%◌, ◌≤◌, ◌<◌}
use native.Mathlib.Numerals.{add-one}
use native.Mathlib.Omega.{arith}
use lib.Dec.{eqb}
use borrow.Author.Tests.{lt-ltb, ltb-true, eq-eqb, eqb-true}
use lib.ListN.{length, take, drop, get_or, length-append}
use lib.Seq.{take-suc, get_or-append_seam, get_or-append-add, length-take-le, split_at}
use Rattle.laws.specs.Choice.{one}
use Rattle.laws.proofs.Choice.{both_true, both_left, both_right}
use Rattle.tracker.specs.declared.Phase.{Phase}
use Rattle.tracker.specs.declared.Phase.TheVariants.{Idle, Probe, Top, Under, Set, Clear}
use Rattle.tracker.specs.declared.Tracker.{Tracker}
use Rattle.tracker.specs.Tracker.{idle, level_of}
use Rattle.coding.specs.Words.{most_level, phase_number, phase_of, codes_phase, tracker_place, tracker_coded, trackers_coded, tracker_in, trackers_to}

-- a phase has one number: which it is and its level are told apart
which-of : (r d : ℕ) → r < 8 → (r + 8 * d) % 8 ≡ r
which-of r d h = omega arith

level-of : (r d : ℕ) → r < 8 → (r + 8 * d) / 8 ≡ d
level-of r d h = omega arith

pub phase_of-phase_number : (p : Phase) → phase_of (phase_number p) ≡ p
unfolding phase_of
phase_of-phase_number Idle = refl
phase_of-phase_number (Probe d) = rw (which-of 1 d (omega arith), level-of 1 d (omega arith))
phase_of-phase_number Top = refl
phase_of-phase_number (Under d) = rw (which-of 3 d (omega arith), level-of 3 d (omega arith))
phase_of-phase_number (Set d) = rw (which-of 4 d (omega arith), level-of 4 d (omega arith))
phase_of-phase_number (Clear d) = rw (which-of 5 d (omega arith), level-of 5 d (omega arith))

phase_number-below : (p : Phase) → level_of p ≤ most_level → phase_number p < 8 * suc most_level
phase_number-below Idle h = omega arith
phase_number-below (Probe d) h = omega arith
phase_number-below Top h = omega arith
phase_number-below (Under d) h = omega arith
phase_number-below (Set d) h = omega arith
phase_number-below (Clear d) h = omega arith

-- a phase whose level fits is coded by its number, and a word that codes a phase is its number
pub phase-codes : (p : Phase) → level_of p ≤ most_level → codes_phase (phase_number p) ≡ true
unfolding codes_phase
phase-codes p h = both_true _ _ (lt-ltb _ _ (phase_number-below p h)) (eq-eqb _ _ (ap phase_number (phase_of-phase_number p)))

module _ (k : ℕ) (h : codes_phase k ≡ true) where
  pub coded-below : k < 8 * suc most_level
  unfolding codes_phase
  coded-below = ltb-true _ _ (both_left _ _ h)

  pub phase_number-phase_of : phase_number (phase_of k) ≡ k
  unfolding codes_phase
  phase_number-phase_of = eqb-true _ _ (both_right _ _ h)

-- the level of a phase that has a small number is small
pub level-fits : (p : Phase) → phase_number p < 8 * suc most_level → level_of p ≤ most_level
level-fits Idle h = omega arith
level-fits (Probe d) h = omega arith
level-fits Top h = omega arith
level-fits (Under d) h = omega arith
level-fits (Set d) h = omega arith
level-fits (Clear d) h = omega arith

-- so with a test and its word
pub one_below : (b : Bool) → one b < 2
one_below true = omega arith
one_below false = omega arith

pub eqb-one : (b : Bool) → eqb (one b) 1 ≡ b
eqb-one true = refl
eqb-one false = refl

pub one-eqb : (k : ℕ) → k < 2 → one (eqb k 1) ≡ k
one-eqb zero h = refl
one-eqb (suc zero) h = refl
one-eqb (suc (suc k)) h = absurd (omega arith)

pub length-tracker : (t : Tracker) → length (tracker_coded t) ≡ 8
unfolding tracker_coded
length-tracker t = refl

pub length-trackers : (ts : List Tracker) → length (trackers_coded ts) ≡ 8 * length ts
unfolding trackers_coded
length-trackers [] = refl
length-trackers (t ∷ ts) = omega (arith, length-append (tracker_coded t) (trackers_coded ts), length-tracker t, length-trackers ts)

-- those of a list after another's
pub trackers-append : (ts us : List Tracker) → trackers_coded (ts ++ us) ≡ trackers_coded ts ++ trackers_coded us
unfolding trackers_coded
trackers-append [] us = refl
trackers-append (t ∷ ts) us = ap (λ (l : List ℕ). tracker_coded t ++ l) (trackers-append ts us) ∙ sym (append_assoc (tracker_coded t) (trackers_coded ts) (trackers_coded us))

pub trackers-one : (t : Tracker) → trackers_coded (t ∷ []) ≡ tracker_coded t
unfolding trackers_coded
trackers-one t = append-nil (tracker_coded t)

-- one more tracker
pub trackers-more : (ts : List Tracker) (x : ℕ) → x < length ts → trackers_coded (take (x + 1) ts) ≡ trackers_coded (take x ts) ++ tracker_coded (get_or ts x idle)
trackers-more ts x h =
    rw (add-one x, take-suc ts x idle h)
    (trackers-append (take x ts) (get_or ts x idle ∷ []) ∙ ap (λ (l : List ℕ). trackers_coded (take x ts) ++ l) (trackers-one (get_or ts x idle)))

-- the tracker whose coding stands somewhere is read there
pub tracker_in-coded : (q r : List ℕ) (t : Tracker) → tracker_in (q ++ (tracker_coded t ++ r)) (length q) ≡ t
unfolding tracker_in tracker_coded
tracker_in-coded q r t =
    rw (
      get_or-append_seam q (phase_number t.phase) (one t.write ∷ one t.bottom ∷ t.group ∷ t.value ∷ t.turns ∷ t.transfers.fetched ∷ t.transfers.back ∷ r) 0,
      get_or-append-add q (phase_number t.phase ∷ one t.write ∷ one t.bottom ∷ t.group ∷ t.value ∷ t.turns ∷ t.transfers.fetched ∷ t.transfers.back ∷ r) 1 0,
      get_or-append-add q (phase_number t.phase ∷ one t.write ∷ one t.bottom ∷ t.group ∷ t.value ∷ t.turns ∷ t.transfers.fetched ∷ t.transfers.back ∷ r) 2 0,
      get_or-append-add q (phase_number t.phase ∷ one t.write ∷ one t.bottom ∷ t.group ∷ t.value ∷ t.turns ∷ t.transfers.fetched ∷ t.transfers.back ∷ r) 3 0,
      get_or-append-add q (phase_number t.phase ∷ one t.write ∷ one t.bottom ∷ t.group ∷ t.value ∷ t.turns ∷ t.transfers.fetched ∷ t.transfers.back ∷ r) 4 0,
      get_or-append-add q (phase_number t.phase ∷ one t.write ∷ one t.bottom ∷ t.group ∷ t.value ∷ t.turns ∷ t.transfers.fetched ∷ t.transfers.back ∷ r) 5 0,
      get_or-append-add q (phase_number t.phase ∷ one t.write ∷ one t.bottom ∷ t.group ∷ t.value ∷ t.turns ∷ t.transfers.fetched ∷ t.transfers.back ∷ r) 6 0,
      get_or-append-add q (phase_number t.phase ∷ one t.write ∷ one t.bottom ∷ t.group ∷ t.value ∷ t.turns ∷ t.transfers.fetched ∷ t.transfers.back ∷ r) 7 0,
      phase_of-phase_number t.phase,
      eqb-one t.write,
      eqb-one t.bottom,
    )

-- the words of tracker x among those of all
pub trackers-split : (p : List ℕ) (ts : List Tracker) (x : ℕ) → x < length ts
    → p ++ trackers_coded ts ≡ (p ++ trackers_coded (take x ts)) ++ (tracker_coded (get_or ts x idle) ++ trackers_coded (drop (suc x) ts))
unfolding trackers_coded
trackers-split p ts x h =
    ap (λ (us : List Tracker). p ++ trackers_coded us) (split_at ts x idle h)
    ∙ ap (λ (l : List ℕ). p ++ l) (trackers-append (take x ts) (get_or ts x idle ∷ drop (suc x) ts))
    ∙ sym (append_assoc p (trackers_coded (take x ts)) (tracker_coded (get_or ts x idle) ++ trackers_coded (drop (suc x) ts)))

pub length_before : (p : List ℕ) (ts : List Tracker) (x : ℕ) → length p ≡ tracker_place 0 → x ≤ length ts → length (p ++ trackers_coded (take x ts)) ≡ tracker_place x
length_before p ts x e h = omega (arith, length-append p (trackers_coded (take x ts)), length-trackers (take x ts), length-take-le x ts h)

-- each tracker is read where its words stand
pub tracker_in-at : (p : List ℕ) (ts : List Tracker) (x : ℕ) → length p ≡ tracker_place 0 → x < length ts → tracker_in (p ++ trackers_coded ts) (tracker_place x) ≡ get_or ts x idle
tracker_in-at p ts x e h =
    rw (trackers-split p ts x h, ← length_before p ts x e (omega arith))
    (tracker_in-coded (p ++ trackers_coded (take x ts)) (trackers_coded (drop (suc x) ts)) (get_or ts x idle))

pub trackers_to-coded : (p : List ℕ) (ts : List Tracker) (x : ℕ) → length p ≡ tracker_place 0 → x ≤ length ts → trackers_to (p ++ trackers_coded ts) x ≡ take x ts
unfolding trackers_to
trackers_to-coded p ts zero e h = refl
trackers_to-coded p ts (suc x) e h =
    rw (trackers_to-coded p ts x e (omega arith), tracker_in-at p ts x e (omega arith)) (sym (take-suc ts x idle (omega arith)))
