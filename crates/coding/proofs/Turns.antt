-- What each turn of a loop over the words does, and what a state's words are below.
use mathlib.Core.Path.{◌≡◌, refl, ap, sym, ◌∙◌}
use mathlib.Core.List.{List, [], ◌∷◌, ◌++◌, append-nil, append_assoc}
use mathlib.Core.Bool.{Bool, true, false, ◌&&◌}
use Prim.Native.Nat.{ℕ, zero, suc, ◌+◌, ◌*◌, ◌≤◌, ◌<◌}
use native.Mathlib.Numerals.{add-one}
use native.Mathlib.Omega.{arith}
use borrow.Author.Tests.{ltb-true, eqb-true}
use lib.ListN.{length, take, drop, get_or, set, length-append, drop_of_length-le}
use lib.Seq.{set_at, drop-cons, append_snoc, length-take-le, take_all}
use Rattle.laws.specs.Choice.{both}
use Rattle.laws.specs.Bytes.{part, splice}
use Rattle.laws.proofs.Choice.{both_left, both_right}
use Rattle.laws.specs.Scan.{all}
use Rattle.laws.proofs.Scan.{all-at, all-zero}
use Rattle.laws.proofs.Splice.{length-part'}
use Rattle.laws.proofs.Parts.{part-add, part_none}
use Rattle.std.specs.List.{list_all}
use Rattle.std.proofs.lemmas.List.Folds.{list_all-append}
use Rattle.laws.proofs.Writes.{splice-then, splice-set}
use Rattle.tracker.specs.declared.Tracker.{Tracker}
use Rattle.tracker.specs.Tracker.{idle}
use Rattle.rules.specs.State.{State}
use Rattle.coding.specs.Words.{tracker_place, state_words, shape_coded, coded, codes_phase, tracker_coded, trackers_coded, tracker_in, trackers_to, codes_tracker, codes_line, codes}
use Rattle.laws.proofs.Stores.{part-1, splice_all}
use Rattle.coding.proofs.Trackers.{length-trackers, trackers-more}

-- a test of each word of a part
and-both : (a b : Bool) → (a && b) ≡ both a b
unfolding both
and-both true b = refl
and-both false b = refl

all-one : (p : ℕ → Bool) (x : ℕ) → list_all p (x ∷ []) ≡ p x
all-one p x = by-test (p x)
  where
    by-test : (b : Bool) → (b && true) ≡ b
    by-test true = refl
    by-test false = refl

all-next : (p : ℕ → Bool) (n : ℕ) → all p (suc n) ≡ both (all p n) (p n)
unfolding all
all-next p n = refl

pub all-part : (p : ℕ → Bool) (w : List ℕ) (at n : ℕ) → at + n ≤ length w → list_all p (part w at n) ≡ all (λ i. p (get_or w (at + i) 0)) n
all-part p w at zero h = rw (part_none w at) (sym (all-zero (λ i. p (get_or w (at + i) 0))))
all-part p w at (suc n) h =
    let e : suc n ≡ n + 1 = omega arith in
    rw (all-next (λ i. p (get_or w (at + i) 0)) n, ← all-part p w at n (omega arith))
    (rw (e, part-add w at n 1, part-1 w (at + n) (omega arith)) (list_all-append p (part w at n) (get_or w (at + n) 0 ∷ []) ∙ and-both (list_all p (part w at n)) (list_all p (get_or w (at + n) 0 ∷ [])) ∙ rw (all-one p (get_or w (at + n) 0))))

-- what the words of a tracker are below
pub record Narrow (w : List ℕ) (at : ℕ) : Type 0 where
  pub phase : codes_phase (get_or w at 0) ≡ true
  pub write : get_or w (at + 1) 0 < 2
  pub bottom : get_or w (at + 2) 0 < 2
  pub group : get_or w (at + 3) 0 < 4294967296
  pub value : get_or w (at + 4) 0 < 4294967296
  pub turns : get_or w (at + 5) 0 < 65536
  pub fetched : get_or w (at + 6) 0 < 256
  pub back : get_or w (at + 7) 0 < 256

pub narrow : (w : List ℕ) (at : ℕ) → codes_tracker w at ≡ true → Narrow w at
unfolding codes_tracker
narrow w at h =
    let six = both_left _ _ h in
    let two = both_right _ _ h in
    let a = both_left _ _ six in
    let b = both_right _ _ six in
    let a' = both_right _ _ a in
    let b' = both_right _ _ b in
    record {
      phase = both_left _ _ a;
      write = ltb-true _ _ (both_left _ _ a');
      bottom = ltb-true _ _ (both_right _ _ a');
      group = ltb-true _ _ (both_left _ _ b);
      value = ltb-true _ _ (both_left _ _ b');
      turns = ltb-true _ _ (both_right _ _ b');
      fetched = ltb-true _ _ (both_left _ _ two);
      back = ltb-true _ _ (both_right _ _ two);
    }

-- words that code a state
pub record Coding (w : List ℕ) : Type 0 where
  pub size : length w ≡ state_words
  pub n : get_or w 0 0 < 4294967296
  pub t : get_or w 1 0 < 4294967296
  pub lines : (i : ℕ) → i < 64 → get_or w (4 + i) 0 < 4294967296
  pub trackers : (x : ℕ) → x < 8 → codes_tracker w (tracker_place x) ≡ true

pub coding : (w : List ℕ) → codes w ≡ true → Coding w
unfolding codes
coding w h =
    let r = both_right _ _ h in
    let s = both_left _ _ r in
    let q = both_right _ _ r in
    record {
      size = eqb-true _ _ (both_left _ _ h);
      n = ltb-true _ _ (both_left _ _ s);
      t = ltb-true _ _ (both_right _ _ s);
      lines = λ i k. ltb-true _ _ (all-at (codes_line w) 64 (both_left _ _ q) i k);
      trackers = λ x k. all-at (λ x. codes_tracker w (tracker_place x)) 8 (both_right _ _ q) x k;
    }

-- the lines read one by one
module _ (l w : List ℕ) (e : length l ≡ 64) (h : 68 ≤ length w) where
  pub line_read : (i : ℕ) → i < 64 → set (splice l 0 (part w 4 i)) i (get_or w (4 + i) 0) ≡ splice l 0 (part w 4 (i + 1))
  line_read i k =
      let p : length (part w 4 i) ≡ i = length-part' w 4 i (omega arith) in
      splice-set l 0 (part w 4 i) (get_or w (4 + i) 0) i (omega arith) (omega arith)
      ∙ ap (splice l 0) (sym (part-add w 4 i 1 ∙ ap (λ (t : List ℕ). part w 4 i ++ t) (part-1 w (4 + i) (omega arith))))

  pub lines-read : splice l 0 (part w 4 64) ≡ part w 4 64
  lines-read = splice_all l (part w 4 64) (omega (arith, length-part' w 4 64 (omega arith)))

-- the trackers read one by one
pub length-trackers_to : (w : List ℕ) (x : ℕ) → length (trackers_to w x) ≡ x
unfolding trackers_to
length-trackers_to w zero = refl
length-trackers_to w (suc x) = omega (arith, length-append (trackers_to w x) (tracker_in w (tracker_place x) ∷ []), length-trackers_to w x)

trackers_to-more : (w : List ℕ) (x : ℕ) → trackers_to w (suc x) ≡ trackers_to w x ++ (tracker_in w (tracker_place x) ∷ [])
unfolding trackers_to
trackers_to-more w x = refl

pub tracker-read : (w : List ℕ) (ts : List Tracker) (x : ℕ) → x < length ts
    → set (trackers_to w x ++ drop x ts) x (tracker_in w (tracker_place x)) ≡ trackers_to w (x + 1) ++ drop (x + 1) ts
tracker-read w ts x h =
    rw (add-one x, trackers_to-more w x, append_snoc (trackers_to w x) (tracker_in w (tracker_place x)) (drop (suc x) ts), drop-cons ts x idle h)
    (set_at (trackers_to w x) (get_or ts x idle) (drop (suc x) ts) (tracker_in w (tracker_place x)) x (length-trackers_to w x))

pub trackers-read : (w : List ℕ) (ts : List Tracker) (x : ℕ) → length ts ≤ x → trackers_to w x ++ drop x ts ≡ trackers_to w x
trackers-read w ts x h = rw (drop_of_length-le ts h) (append-nil (trackers_to w x))

-- the lines and the trackers written one by one
pub lines-written : (w ls : List ℕ) (i : ℕ) → length ls ≤ i → splice w 4 (take i ls) ≡ splice w 4 ls
lines-written w ls i h = ap (splice w 4) (take_all i ls h)

module _ (w : List ℕ) (ts : List Tracker) (e : length w ≡ 132) (k : length ts ≡ 8) (x : ℕ) where
  pub tracker-written : x < 8
      → splice (splice w 68 (trackers_coded (take x ts))) (68 + 8 * x) (tracker_coded (get_or ts x idle)) ≡ splice w 68 (trackers_coded (take (x + 1) ts))
  tracker-written h =
      let q : length (trackers_coded (take x ts)) ≡ 8 * x = length-trackers (take x ts) ∙ ap (λ (n : ℕ). 8 * n) (length-take-le x ts (omega arith)) in
      splice-then w 68 (trackers_coded (take x ts)) (tracker_coded (get_or ts x idle)) (68 + 8 * x) (omega arith) (omega arith)
      ∙ ap (splice w 68) (sym (trackers-more ts x (omega arith)))

  pub trackers-written : 8 ≤ x → splice w 68 (trackers_coded (take x ts)) ≡ splice w 68 (trackers_coded ts)
  trackers-written h = ap (λ (us : List Tracker). splice w 68 (trackers_coded us)) (take_all x ts (omega arith))

-- a state written part by part is its coding
module _ (s : State) (lined : length s.lines ≡ 64) (tracked : length s.trackers ≡ 8) where
  pub length-coded : length (coded s) ≡ state_words
  unfolding coded
  length-coded = omega (arith, length-append s.lines (trackers_coded s.trackers), length-trackers s.trackers)

  pub encoded : (w : List ℕ) → length w ≡ state_words → splice (splice (splice w 0 (shape_coded s.shape)) 4 s.lines) 68 (trackers_coded s.trackers) ≡ coded s
  unfolding coded
  encoded w e =
      let q : 68 ≡ 4 + length s.lines = omega arith in
      let k : length (shape_coded s.shape ++ s.lines) ≡ 68 = omega arith in
      ap (λ (l : List ℕ). splice l 68 (trackers_coded s.trackers)) (splice-then w 0 (shape_coded s.shape) s.lines 4 refl (omega arith))
      ∙ splice-then w 0 (shape_coded s.shape ++ s.lines) (trackers_coded s.trackers) 68 (omega arith) (omega arith)
      ∙ ap (splice w 0) (append_assoc (shape_coded s.shape) s.lines (trackers_coded s.trackers))
      ∙ splice_all w (coded s) (length-coded ∙ sym e)
