-- What a sheet of zeros means: with drifted 0 and changed 0 the two lists of lines are the same, byte for byte; and the same lists give zeros.
use Prim.Native.Nat.{ℕ, ◌+◌, ◌-◌, ◌<◌, ◌≤◌}
use mathlib.Core.Path.{◌≡◌, refl, ap}
use mathlib.Core.Bool.{Bool, true, false, not}
use mathlib.Core.List.{List, []}
use mathlib.Core.Logic.{⊎_elim}
use native.Mathlib.Omega.{arith}
use borrow.Author.Tests.{lt-ltb, ltb-true, ltb-false, eq-eqb, eqb-true, le-leb, not-false}
use lib.Dec.{ltb, leb, eqb}
use lib.ListN.{length, get_or}
use lib.Seq.{ext_get_or}
use Rattle.laws.specs.Choice.{pick, both}
use Rattle.laws.specs.Scan.{all}
use Rattle.laws.proofs.Choice.{not-both-ways, both_true, both_left, both_right}
use Rattle.laws.proofs.Splice.{lt-or-ge}
use Rattle.laws.proofs.Scan.{all-at, all-is, count_none}
use Rattle.laws.proofs.Count.{count-zero}
use Rattle.output.specs.Line.{alike_at, line_of}
use Rattle.measure.specs.Pair.{same_from, same_bytes, other_pair, ending_pair, pair_ending, pair_lines, pair_of, one_pair, drift_of}
use Rattle.measure.specs.Sheet.{places, pair_at, drifted, changed}
use Rattle.output.specs.declared.Line.{Line}
use Rattle.output.specs.declared.Line.TheVariants.{Plain, Ending}
use Rattle.std.specs.Prelude.{Option, Some, None}
use Rattle.output.specs.declared.Counts.{Counts}
use Rattle.measure.specs.declared.Pair.{Pair}

-- ## The same bytes

same-places : List ℕ → List ℕ → ℕ → Bool
same-places a b k = eqb (get_or a (0 + k) 0) (get_or b (0 + k) 0)

pub same-bytes-equal : (a b : List ℕ) → same_bytes a b ≡ true → a ≡ b
unfolding same_bytes same_from alike_at same-places
same-bytes-equal a b h =
    let fit : Bool = both (leb (0 + (length a - 0)) (length a)) (leb (0 + (length a - 0)) (length b)) in
    let each : Bool = all (same-places a b) (length a - 0) in
    let e : length a - 0 ≡ length b - 0 = eqb-true (length a - 0) (length b - 0) (both_left (eqb (length a - 0) (length b - 0)) (both fit each) h) in
    let s : all (same-places a b) (length a - 0) ≡ true = both_right fit each (both_right (eqb (length a - 0) (length b - 0)) (both fit each) h) in
    ext_get_or 0 a b (omega arith)
    (λ i l.
    let z : 0 + i ≡ i = omega arith in
    let w : get_or a (0 + i) 0 ≡ get_or b (0 + i) 0 = eqb-true (get_or a (0 + i) 0) (get_or b (0 + i) 0) (all-at (same-places a b) (length a - 0) s i (omega arith)) in
    rw z at w)

pub same-bytes-self : (a : List ℕ) → same_bytes a a ≡ true
unfolding same_bytes same_from alike_at
same-bytes-self a =
    both_true _ _ (eq-eqb (length a - 0) (length a - 0) refl)
    (both_true _ _ (both_true _ _ (le-leb (0 + (length a - 0)) (length a) (omega arith)) (le-leb (0 + (length a - 0)) (length a) (omega arith)))
    (all-is (λ k. eqb (get_or a (0 + k) 0) (get_or a (0 + k) 0)) (length a - 0) (λ k l. eq-eqb (get_or a (0 + k) 0) (get_or a (0 + k) 0) refl)))

-- ## A pair without drift or change

module _ (a b : List ℕ) where
  clean-other : (other_pair a b).changed ≡ false → same_bytes a b ≡ true
  unfolding other_pair
  clean-other h = not-false (same_bytes a b) h

  clean-ending : (k : Counts) (i : ℕ) (l : Counts) (j : ℕ) → (ending_pair a k i b l j).changed ≡ false → drift_of (ending_pair a k i b l j) ≡ 0 → same_bytes a b ≡ true
  unfolding ending_pair drift_of
  clean-ending k i l j h d =
      let e : k.turns ≡ l.turns = omega arith in
      rw (eq-eqb k.turns l.turns e) at (not-false (pick (eqb k.turns l.turns) (same_bytes a b) (same_from a i b j)) h)

  clean-pick :
      (t : Bool) (k : Counts) (i : ℕ) (l : Counts) (j : ℕ) →
      (pick t (ending_pair a k i b l j) (other_pair a b)).changed ≡ false →
      drift_of (pick t (ending_pair a k i b l j) (other_pair a b)) ≡ 0 →
      same_bytes a b ≡ true
  clean-pick true k i l j h d = clean-ending k i l j h d
  clean-pick false k i l j h d = clean-other h

  clean-lines : (x y : Option Line) → (pair_lines a x b y).changed ≡ false → drift_of (pair_lines a x b y) ≡ 0 → same_bytes a b ≡ true
  unfolding pair_lines pair_ending
  clean-lines (Some (Ending x)) (Some (Ending y)) h d = clean-pick (both (eqb x.at y.at) (alike_at a 0 b 0 x.at)) x.counts x.next y.counts y.next h d
  clean-lines (Some (Ending x)) (Some Plain) h d = clean-other h
  clean-lines (Some (Ending x)) None h d = clean-other h
  clean-lines (Some Plain) y h d = clean-other h
  clean-lines None y h d = clean-other h

  pub clean-pair : (pair_of a b).changed ≡ false → drift_of (pair_of a b) ≡ 0 → a ≡ b
  unfolding pair_of
  clean-pair h d = same-bytes-equal a b (clean-lines (line_of a) (line_of b) h d)

-- ## The lists

clean-test : (t : Bool) (p : Pair) → (pick t p one_pair).changed ≡ false → t ≡ true
clean-test true p h = refl
clean-test false p h = absurd (not-both-ways refl h)

module _ (xs ys : List (List ℕ)) (d : drifted (pair_at xs ys) (places xs ys) ≡ 0) (c : changed (pair_at xs ys) (places xs ys) ≡ 0) where
  unchanged : (k : ℕ) → k < places xs ys → (pair_at xs ys k).changed ≡ false
  unfolding changed
  unchanged k l = count-zero (λ m. (pair_at xs ys m).changed) (places xs ys) k c l

  undrifted : (k : ℕ) → k < places xs ys → drift_of (pair_at xs ys k) ≡ 0
  unfolding drifted
  undrifted k l =
      let h : drift_of (pair_at xs ys k) ≤ 0 = ltb-false 0 (drift_of (pair_at xs ys k)) (count-zero (λ m. ltb 0 (drift_of (pair_at xs ys m))) (places xs ys) k d l) in
      omega arith

  in_both : (k : ℕ) → k < places xs ys → both (ltb k (length xs)) (ltb k (length ys)) ≡ true
  unfolding pair_at
  in_both k l = clean-test (both (ltb k (length xs)) (ltb k (length ys))) (pair_of (get_or xs k []) (get_or ys k [])) (unchanged k l)

  in-first : (k : ℕ) → k < places xs ys → k < length xs
  in-first k l = ltb-true k (length xs) (both_left (ltb k (length xs)) (ltb k (length ys)) (in_both k l))

  in-second : (k : ℕ) → k < places xs ys → k < length ys
  in-second k l = ltb-true k (length ys) (both_right (ltb k (length xs)) (ltb k (length ys)) (in_both k l))

  pair-there : (k : ℕ) → k < places xs ys → pair_at xs ys k ≡ pair_of (get_or xs k []) (get_or ys k [])
  unfolding pair_at
  pair-there k l = rw (in_both k l)

  same_length : length xs ≡ length ys
  unfolding places
  same_length =
      ⊎_elim
      (λ (l : length xs < length ys). absurd (omega (arith, in-first (length xs) (omega arith))))
      (λ (l : length ys ≤ length xs).
      ⊎_elim
      (λ (m : length ys < length xs). absurd (omega (arith, in-second (length ys) (omega arith))))
      (λ (m : length xs ≤ length ys). omega arith)
      (lt-or-ge (length ys) (length xs)))
      (lt-or-ge (length xs) (length ys))

  below : (k : ℕ) → k < length xs → k < places xs ys
  unfolding places
  below k l = omega arith

  pub zero_same : xs ≡ ys
  zero_same =
      ext_get_or [] xs ys same_length
      (λ k l.
      clean-pair (get_or xs k []) (get_or ys k [])
      (rw (pair-there k (below k l)) at (unchanged k (below k l)))
      (rw (pair-there k (below k l)) at (undrifted k (below k l))))

-- ## A list beside itself

module _ (a : List ℕ) where
  self-other : (other_pair a a).changed ≡ false
  unfolding other_pair
  self-other = ap not (same-bytes-self a)

  self-ending : (k : Counts) (i : ℕ) → (ending_pair a k i a k i).changed ≡ false
  unfolding ending_pair
  self-ending k i = rw (eq-eqb k.turns k.turns refl) (ap not (same-bytes-self a))

  self-still : (k : Counts) (i : ℕ) → drift_of (ending_pair a k i a k i) ≡ 0
  unfolding ending_pair drift_of
  self-still k i = omega arith

  other-still : drift_of (other_pair a a) ≡ 0
  unfolding other_pair drift_of
  other-still = refl

  self-pick : (t : Bool) (k : Counts) (i : ℕ) → (pick t (ending_pair a k i a k i) (other_pair a a)).changed ≡ false
  self-pick true k i = self-ending k i
  self-pick false k i = self-other

  still_pick : (t : Bool) (k : Counts) (i : ℕ) → drift_of (pick t (ending_pair a k i a k i) (other_pair a a)) ≡ 0
  still_pick true k i = self-still k i
  still_pick false k i = other-still

  self-lines : (x : Option Line) → (pair_lines a x a x).changed ≡ false
  unfolding pair_lines pair_ending
  self-lines (Some (Ending x)) = self-pick (both (eqb x.at x.at) (alike_at a 0 a 0 x.at)) x.counts x.next
  self-lines (Some Plain) = self-other
  self-lines None = self-other

  still-lines : (x : Option Line) → drift_of (pair_lines a x a x) ≡ 0
  unfolding pair_lines pair_ending
  still-lines (Some (Ending x)) = still_pick (both (eqb x.at x.at) (alike_at a 0 a 0 x.at)) x.counts x.next
  still-lines (Some Plain) = other-still
  still-lines None = other-still

  pub self-clean : (pair_of a a).changed ≡ false
  unfolding pair_of
  self-clean = self-lines (line_of a)

  pub self-undrifted : drift_of (pair_of a a) ≡ 0
  unfolding pair_of
  self-undrifted = still-lines (line_of a)

module _ (xs : List (List ℕ)) where
  self-at : (k : ℕ) → k < places xs xs → pair_at xs xs k ≡ pair_of (get_or xs k []) (get_or xs k [])
  unfolding places pair_at both
  self-at k l = rw (lt-ltb k (length xs) (omega arith))

  pub same-changed : changed (pair_at xs xs) (places xs xs) ≡ 0
  unfolding changed
  same-changed = count_none (λ k. (pair_at xs xs k).changed) (places xs xs) (λ k l. rw (self-at k l) (self-clean (get_or xs k [])))

  pub same-drifted : drifted (pair_at xs xs) (places xs xs) ≡ 0
  unfolding drifted
  same-drifted =
      count_none (λ k. ltb 0 (drift_of (pair_at xs xs k))) (places xs xs)
      (λ k l. rw (self-at k l, self-undrifted (get_or xs k [])))
