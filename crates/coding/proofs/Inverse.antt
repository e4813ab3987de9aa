-- The coding and its inverse: every state has one coding, which codes it; words that code a state are its coding.
use mathlib.Core.Path.{◌≡◌, refl, ap, sym, ◌∙◌}
use mathlib.Core.List.{List, [], ◌∷◌, ◌++◌, append_assoc}
use mathlib.Core.Bool.{true}
use mathlib.Core.Logic.{⊎_elim}
use Prim.Native.Nat.{ℕ, zero, suc, ◌+◌, ◌*◌, ◌≤◌, ◌<◌}
use native.Mathlib.Omega.{arith}
use borrow.Author.Tests.{lt-ltb, eq-eqb}
use lib.ListN.{length, take, drop, get_or, get_or-append}
use lib.Seq.{take_all, get_or-append-add, get_or-append_seam, get_or_at}
use Rattle.laws.specs.Choice.{one}
use Rattle.laws.specs.Bytes.{part}
use Rattle.laws.proofs.Choice.{both_true}
use Rattle.laws.proofs.Scan.{all-is}
use Rattle.laws.proofs.Splice.{lt-or-ge, get_d_part, length-part'}
use Rattle.laws.proofs.Parts.{piece, part-add, part_none, part-all}
use Rattle.geometry.specs.TagMemory.{values, most_trackers, most_lines}
use Rattle.tracker.specs.declared.Tracker.{Tracker}
use Rattle.tracker.specs.Tracker.{idle, most_turns}
use Rattle.tracker.specs.Transfers.{most_transfers}
use Rattle.rules.specs.State.{State, tracker_at}
use Rattle.coding.specs.Words.{tracker_place, state_words, phase_number, phase_of, shape_coded, tracker_coded, trackers_coded, coded, tracker_in, trackers_to, shape_in, decoded, codes_tracker, codes_shape, codes_line, codes}
use Rattle.coding.specs.Fields.{TrackerFits, Fits}
use Rattle.laws.proofs.Stores.{part-4, part-8}
use Rattle.coding.proofs.Trackers.{phase_number-phase_of, phase-codes, coded-below, level-fits, one-eqb, one_below, trackers_to-coded, trackers-append, trackers-one, trackers-split, length_before}
use Rattle.coding.proofs.Turns.{narrow, coding, length-trackers_to, length-coded}

-- the words before the trackers
front : State → List ℕ
front s = shape_coded s.shape ++ s.lines

coded-front : (s : State) → coded s ≡ front s ++ trackers_coded s.trackers
unfolding coded front
coded-front s = sym (append_assoc (shape_coded s.shape) s.lines (trackers_coded s.trackers))

shape-back : (s : State)
    → ◌≡◌ {A = State} (record { shape = shape_in (coded s); lines = s.lines; trackers = s.trackers }) s
unfolding coded shape_in
shape-back s = refl

-- what a state's coding codes is the state
module _ (s : State) (lined : length s.lines ≡ most_lines) (tracked : length s.trackers ≡ most_trackers) where
  length_front : length (front s) ≡ tracker_place 0
  unfolding front
  length_front = omega arith

  lines-back : part (coded s) 4 64 ≡ s.lines
  unfolding coded
  lines-back = piece (coded s) (shape_coded s.shape) s.lines (trackers_coded s.trackers) 4 64 refl refl lined

  trackers-back : trackers_to (coded s) 8 ≡ s.trackers
  trackers-back =
      rw (coded-front s) (trackers_to-coded (front s) s.trackers 8 length_front (omega arith)) ∙ take_all 8 s.trackers (omega arith)

  pub decoded-coded : decoded (coded s) ≡ s
  unfolding decoded
  decoded-coded = rw (lines-back, trackers-back) (shape-back s)

-- a state has one coding
pub coded-one : (s u : State) → length s.lines ≡ most_lines → length s.trackers ≡ most_trackers → length u.lines ≡ most_lines → length u.trackers ≡ most_trackers
    → coded s ≡ coded u → s ≡ u
coded-one s u a b c d e = sym (decoded-coded s a b) ∙ ap decoded e ∙ decoded-coded u c d

-- words that code a tracker are its coding
tracker-back : (w : List ℕ) (at : ℕ) → at + 8 ≤ length w → codes_tracker w at ≡ true → tracker_coded (tracker_in w at) ≡ part w at 8
unfolding tracker_coded tracker_in
tracker-back w at h q =
    let n = narrow w at q in
    rw (phase_number-phase_of (get_or w at 0) n.phase, one-eqb (get_or w (at + 1) 0) n.write, one-eqb (get_or w (at + 2) 0) n.bottom) (sym (part-8 w at h))

trackers_to-zero : (w : List ℕ) → trackers_coded (trackers_to w 0) ≡ []
unfolding trackers_to trackers_coded
trackers_to-zero w = refl

trackers_to-suc : (w : List ℕ) (x : ℕ) → trackers_coded (trackers_to w (suc x)) ≡ trackers_coded (trackers_to w x) ++ tracker_coded (tracker_in w (tracker_place x))
unfolding trackers_to
trackers_to-suc w x =
    trackers-append (trackers_to w x) (tracker_in w (tracker_place x) ∷ []) ∙ ap (λ (l : List ℕ). trackers_coded (trackers_to w x) ++ l) (trackers-one (tracker_in w (tracker_place x)))

trackers-part : (w : List ℕ) (x : ℕ) → tracker_place x ≤ length w → ((y : ℕ) → y < x → codes_tracker w (tracker_place y) ≡ true) → trackers_coded (trackers_to w x) ≡ part w 68 (8 * x)
trackers-part w zero h q = trackers_to-zero w ∙ sym (part_none w 68)
trackers-part w (suc x) h q =
    let e : 8 * suc x ≡ 8 * x + 8 = omega arith in
    let k : 68 + 8 * x + 8 ≤ length w = omega arith in
    trackers_to-suc w x
    ∙ rw (trackers-part w x (omega arith) (λ y l. q y (omega arith)), tracker-back w (tracker_place x) k (q x (omega arith)), e)
    (sym (part-add w 68 (8 * x) 8))

-- words that code a state are the coding of what they code
pub coded-decoded : (w : List ℕ) → codes w ≡ true → coded (decoded w) ≡ w
unfolding coded decoded shape_in
coded-decoded w h =
    let c = coding w h in
    let e = c.size in
    rw (trackers-part w 8 (omega arith) c.trackers)
    (ap (λ (l : List ℕ). l ++ (part w 4 64 ++ part w 68 64)) (sym (part-4 w (omega arith))) ∙ ap (λ (l : List ℕ). part w 0 4 ++ l) (sym (part-add w 4 64 64)) ∙ sym (part-add w 0 4 128) ∙ part-all w 132 e)

-- the coding of a state whose fields fit codes a state
tracker-codes : (q r : List ℕ) (t : Tracker) → TrackerFits t → codes_tracker (q ++ (tracker_coded t ++ r)) (length q) ≡ true
unfolding codes_tracker tracker_coded
tracker-codes q r t f =
    let ws : List ℕ = phase_number t.phase ∷ one t.write ∷ one t.bottom ∷ t.group ∷ t.value ∷ t.turns ∷ t.transfers.fetched ∷ t.transfers.back ∷ r in
    rw (
      get_or-append_seam q (phase_number t.phase) (one t.write ∷ one t.bottom ∷ t.group ∷ t.value ∷ t.turns ∷ t.transfers.fetched ∷ t.transfers.back ∷ r) 0,
      get_or-append-add q ws 1 0,
      get_or-append-add q ws 2 0,
      get_or-append-add q ws 3 0,
      get_or-append-add q ws 4 0,
      get_or-append-add q ws 5 0,
      get_or-append-add q ws 6 0,
      get_or-append-add q ws 7 0,
    )
    (both_true _ _ (both_true _ _
    (both_true _ _ (phase-codes t.phase f.level) (both_true _ _ (lt-ltb (one t.write) 2 (one_below t.write)) (lt-ltb (one t.bottom) 2 (one_below t.bottom))))
    (both_true _ _ (lt-ltb t.group values f.group) (both_true _ _ (lt-ltb t.value values f.value) (lt-ltb t.turns (suc most_turns) (omega (arith, f.turns))))))
    (both_true _ _ (lt-ltb t.transfers.fetched (suc most_transfers) (omega (arith, f.fetched))) (lt-ltb t.transfers.back (suc most_transfers) (omega (arith, f.back)))))

module _ (s : State) (f : Fits s) where
  line-codes : (i : ℕ) → i < 64 → codes_line (coded s) i ≡ true
  unfolding coded
  line-codes i h =
      lt-ltb (get_or (coded s) (4 + i) 0) values
      (rw (get_or-append-add (shape_coded s.shape) (s.lines ++ trackers_coded s.trackers) i 0, get_or-append s.lines (trackers_coded s.trackers) 0 i (omega (arith, f.lined))) (f.lines i h))

  trackers-code : (x : ℕ) → x < 8 → codes_tracker (coded s) (tracker_place x) ≡ true
  trackers-code x h =
      let k : x < length s.trackers = omega (arith, f.tracked) in
      let e = length_front s f.lined f.tracked in
      rw (coded-front s, trackers-split (front s) s.trackers x k, ← length_before (front s) s.trackers x e (omega arith))
      (tracker-codes (front s ++ trackers_coded (take x s.trackers)) (trackers_coded (drop (suc x) s.trackers)) (tracker_at s.trackers x) (f.trackers x h))

  shape-codes : codes_shape (coded s) ≡ true
  unfolding coded
  shape-codes = both_true _ _ (lt-ltb s.shape.n values f.n) (lt-ltb s.shape.t values f.t)

  pub codes-coded : codes (coded s) ≡ true
  unfolding codes
  codes-coded =
      both_true _ _ (eq-eqb (length (coded s)) state_words (length-coded s f.lined f.tracked))
      (both_true _ _ shape-codes (both_true _ _ (all-is (codes_line (coded s)) 64 line-codes) (all-is (λ x. codes_tracker (coded s) (tracker_place x)) 8 trackers-code)))

-- what words code has fields that fit
tracker-fits : (w : List ℕ) (at : ℕ) → codes_tracker w at ≡ true → TrackerFits (tracker_in w at)
unfolding tracker_in
tracker-fits w at q =
    let n = narrow w at q in
    let t = n.turns in
    let f = n.fetched in
    let b = n.back in
    record {
      level = level-fits (phase_of (get_or w at 0)) (rw (phase_number-phase_of (get_or w at 0) n.phase) (coded-below (get_or w at 0) n.phase));
      group = n.group;
      value = n.value;
      turns = omega arith;
      fetched = omega arith;
      back = omega arith;
    }

trackers_to-front : (w : List ℕ) (x y : ℕ) → y < x → get_or (trackers_to w (suc x)) y idle ≡ get_or (trackers_to w x) y idle
unfolding trackers_to
trackers_to-front w x y h = get_or-append (trackers_to w x) (tracker_in w (tracker_place x) ∷ []) idle y (omega (arith, length-trackers_to w x))

trackers_to-last : (w : List ℕ) (x : ℕ) → get_or (trackers_to w (suc x)) x idle ≡ tracker_in w (tracker_place x)
unfolding trackers_to
trackers_to-last w x = get_or_at (trackers_to w x) (tracker_in w (tracker_place x)) [] idle x (length-trackers_to w x)

trackers_to-at : (w : List ℕ) (x y : ℕ) → y < x → get_or (trackers_to w x) y idle ≡ tracker_in w (tracker_place y)
trackers_to-at w zero y h = absurd (omega arith)
trackers_to-at w (suc x) y h =
    ⊎_elim (λ l. trackers_to-front w x y l ∙ trackers_to-at w x y l) (λ g. let e : y ≡ x = omega arith in rw e (trackers_to-last w x)) (lt-or-ge y x)

pub decoded-fits : (w : List ℕ) → codes w ≡ true → Fits (decoded w)
unfolding decoded shape_in
decoded-fits w h =
    let c = coding w h in
    let e = c.size in
    record {
      n = c.n;
      t = c.t;
      lined = length-part' w 4 64 (omega arith);
      tracked = length-trackers_to w 8;
      lines = λ i k. rw (get_d_part w 4 64 i k) (c.lines i k);
      trackers = λ x k. rw (trackers_to-at w 8 x k) (tracker-fits w (tracker_place x) (c.trackers x k));
    }

-- words code a state exactly if they are the coding of a state whose fields fit
pub codes-exactly : (w : List ℕ) → codes w ≡ true → (s : State) × (Fits s × (coded s ≡ w))
codes-exactly w h = (decoded w, (decoded-fits w h, coded-decoded w h))
