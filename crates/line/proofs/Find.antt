-- Laws of which line: each scan's turns as a loop makes them, and what its result says, from the laws of `first`.
use mathlib.Core.Path.{◌≡◌, sym, ◌∙◌}
use mathlib.Core.List.{List}
use mathlib.Core.Bool.{Bool, true, false}
use mathlib.Core.Logic.{⊎_elim}
use Prim.Native.Nat.{ℕ, ◌+◌, ◌≤◌, ◌<◌, min}
use native.Mathlib.Omega.{arith}
use lib.Dec.{leb}
use lib.ListN.{length, get_or, get_or-eq_default}
use borrow.Author.Tests.{lt-ltb, le-ltb, le-leb, lt-leb}
use Rattle.laws.specs.Choice.{both, no}
use Rattle.laws.proofs.Choice.{true-or-false, not-both-ways, both_true, both_right, both-false-left, both-false-right, no_true, no_false}
use Rattle.laws.proofs.Splice.{lt-or-ge}
use Rattle.laws.proofs.Scan.{first-zero, first-≤, first-miss, first-hit, first_holds, first-before, first-is, first-none, none_first}
use Rattle.line.specs.Word.{used, held, has}
use Rattle.line.specs.Find.{line_of, lowest_free, loose_from, victim, after}
use Rattle.line.proofs.Words.{free-used, free-held, free-has, not-used}

no-is : (b : Bool) → b ≡ false → no b ≡ true
unfolding no
no-is b h = rw h

no-not : (b : Bool) → b ≡ true → no b ≡ false
unfolding no
no-not b h = rw h

-- a line past the row is free
past : (lines : List ℕ) (i : ℕ) → length lines ≤ i → get_or lines i 0 ≡ 0
past lines i h = get_or-eq_default lines 0 h

module _ (lines : List ℕ) (b : ℕ) where
  pub line_of-zero : line_of lines 0 b ≡ 0
  unfolding line_of
  line_of-zero = first-zero (λ i. has (get_or lines i 0) b)

  pub line_of-miss : (i : ℕ) → line_of lines i b ≡ i → has (get_or lines i 0) b ≡ false → line_of lines (i + 1) b ≡ i + 1
  unfolding line_of
  line_of-miss i e f = first-miss (λ i. has (get_or lines i 0) b) i e f

  pub line_of-hit : (i l : ℕ) → line_of lines i b ≡ i → has (get_or lines i 0) b ≡ true → i < l → line_of lines l b ≡ i
  unfolding line_of
  line_of-hit i l e t h = first-hit (λ i. has (get_or lines i 0) b) i l e t h

  pub line_of-≤ : (l : ℕ) → line_of lines l b ≤ l
  unfolding line_of
  line_of-≤ l = first-≤ (λ i. has (get_or lines i 0) b) l

  -- the line found has the block
  pub line_of-has : (l : ℕ) → line_of lines l b < l → has (get_or lines (line_of lines l b) 0) b ≡ true
  unfolding line_of
  line_of-has l h = first_holds (λ i. has (get_or lines i 0) b) l h

  -- and no line before it
  pub line_of-before : (l i : ℕ) → i < line_of lines l b → has (get_or lines i 0) b ≡ false
  unfolding line_of
  line_of-before l i h = first-before (λ i. has (get_or lines i 0) b) l i h

  pub line_of-is : (l i : ℕ) → i < l → has (get_or lines i 0) b ≡ true → ((k : ℕ) → k < i → has (get_or lines k 0) b ≡ false) → line_of lines l b ≡ i
  unfolding line_of
  line_of-is l i h t f = first-is (λ i. has (get_or lines i 0) b) l i h t f

  pub line_of-none : (l : ℕ) → ((k : ℕ) → k < l → has (get_or lines k 0) b ≡ false) → line_of lines l b ≡ l
  unfolding line_of
  line_of-none l f = first-none (λ i. has (get_or lines i 0) b) l f

  pub none-line_of : (l k : ℕ) → line_of lines l b ≡ l → k < l → has (get_or lines k 0) b ≡ false
  unfolding line_of
  none-line_of l k e h = none_first (λ i. has (get_or lines i 0) b) l k e h

  -- none of the row's has it: none has
  pub line_of-past : (l e : ℕ) → e ≡ min l (length lines) → line_of lines e b ≡ e → line_of lines l b ≡ l
  line_of-past l e m n =
      line_of-none l
      (λ k h. ⊎_elim (λ (q : k < e). none-line_of e k n q) (λ (q : e ≤ k). rw (past lines k (omega arith)) (free-has b)) (lt-or-ge k e))

  -- the one that has it is one of the row's
  pub line_of-in : (l : ℕ) → line_of lines l b < l → line_of lines l b < length lines
  line_of-in l h =
      ⊎_elim (λ q. q) (λ (q : length lines ≤ line_of lines l b). absurd (not-both-ways (line_of-has l h) (rw (past lines (line_of lines l b) q) (free-has b)))) (lt-or-ge (line_of lines l b) (length lines))

module _ (lines : List ℕ) where
  pub lowest_free-zero : lowest_free lines 0 ≡ 0
  unfolding lowest_free
  lowest_free-zero = first-zero (λ i. no (used (get_or lines i 0)))

  pub lowest_free-miss : (i : ℕ) → lowest_free lines i ≡ i → used (get_or lines i 0) ≡ true → lowest_free lines (i + 1) ≡ i + 1
  unfolding lowest_free
  lowest_free-miss i e u = first-miss (λ i. no (used (get_or lines i 0))) i e (no-not _ u)

  pub lowest_free-hit : (i l : ℕ) → lowest_free lines i ≡ i → get_or lines i 0 ≡ 0 → i < l → lowest_free lines l ≡ i
  unfolding lowest_free
  lowest_free-hit i l e z h = first-hit (λ i. no (used (get_or lines i 0))) i l e (rw z (no-is _ free-used)) h

  pub lowest_free-≤ : (l : ℕ) → lowest_free lines l ≤ l
  unfolding lowest_free
  lowest_free-≤ l = first-≤ (λ i. no (used (get_or lines i 0))) l

  -- the line found is free
  pub lowest_free-free : (l : ℕ) → lowest_free lines l < l → get_or lines (lowest_free lines l) 0 ≡ 0
  unfolding lowest_free
  lowest_free-free l h = not-used _ (no_true _ (first_holds (λ i. no (used (get_or lines i 0))) l h))

  -- and none before it
  pub lowest_free-before : (l i : ℕ) → i < lowest_free lines l → used (get_or lines i 0) ≡ true
  unfolding lowest_free
  lowest_free-before l i h = no_false _ (first-before (λ i. no (used (get_or lines i 0))) l i h)

  -- the lines past the row are free
  pub lowest_free-past : (l e : ℕ) → e ≡ min l (length lines) → lowest_free lines e ≡ e → lowest_free lines l ≡ e
  lowest_free-past l e m n =
      ⊎_elim (λ (q : e < l). lowest_free-hit e l n (past lines e (omega arith)) q)
      (λ (q : l ≤ e). let f : l ≡ e = omega arith in rw f n) (lt-or-ge e l)

module _ (lines : List ℕ) (from : ℕ) where
  -- none below `from`
  pub loose_from-below : (i : ℕ) → i ≤ from → loose_from lines i from ≡ i
  unfolding loose_from
  loose_from-below i h = first-none (λ i. both (leb from i) (no (held (get_or lines i 0)))) i (λ k q. both-false-left _ _ (lt-leb from k (omega arith)))

  pub loose_from-miss : (i : ℕ) → loose_from lines i from ≡ i → held (get_or lines i 0) ≡ true → loose_from lines (i + 1) from ≡ i + 1
  unfolding loose_from
  loose_from-miss i e t = first-miss (λ i. both (leb from i) (no (held (get_or lines i 0)))) i e (both-false-right _ _ (no-not _ t))

  pub loose_from-hit : (i l : ℕ) → from ≤ i → loose_from lines i from ≡ i → held (get_or lines i 0) ≡ false → i < l → loose_from lines l from ≡ i
  unfolding loose_from
  loose_from-hit i l g e f h =
      first-hit (λ i. both (leb from i) (no (held (get_or lines i 0)))) i l e (both_true _ _ (le-leb from i g) (no-is _ f)) h

  pub loose_from-≤ : (l : ℕ) → loose_from lines l from ≤ l
  unfolding loose_from
  loose_from-≤ l = first-≤ (λ i. both (leb from i) (no (held (get_or lines i 0)))) l

  -- no tracker holds the line found
  pub loose_from-loose : (l : ℕ) → loose_from lines l from < l → held (get_or lines (loose_from lines l from) 0) ≡ false
  unfolding loose_from
  loose_from-loose l h = no_true _ (both_right _ _ (first_holds (λ i. both (leb from i) (no (held (get_or lines i 0)))) l h))

  -- and each before it from `from` is held
  pub loose_from-before : (l i : ℕ) → i < loose_from lines l from → from ≤ i → held (get_or lines i 0) ≡ true
  unfolding loose_from
  loose_from-before l i h g =
      ⊎_elim (λ t. t)
      (λ f. absurd (not-both-ways (both_true _ _ (le-leb from i g) (no-is _ f)) (first-before (λ i. both (leb from i) (no (held (get_or lines i 0)))) l i h)))
      (true-or-false (held (get_or lines i 0)))

  -- the lines past the row are loose
  pub loose_from-past : (l e : ℕ) → e ≡ min l (length lines) → from ≤ e → loose_from lines e from ≡ e → loose_from lines l from ≡ e
  loose_from-past l e m g n =
      ⊎_elim (λ (q : e < l). loose_from-hit e l g n (rw (past lines e (omega arith)) free-held) q)
      (λ (q : l ≤ e). let f : l ≡ e = omega arith in rw f n) (lt-or-ge e l)

  pub loose_from-far : (l : ℕ) → min l (length lines) ≤ from → loose_from lines l from ≡ min l from
  loose_from-far l m =
      ⊎_elim
      (λ (q : from < l). let f : min l from ≡ from = omega arith in
      loose_from-hit from l (omega arith) (loose_from-below from (omega arith)) (rw (past lines from (omega arith)) free-held) q ∙ sym f)
      (λ (q : l ≤ from). let f : min l from ≡ l = omega arith in loose_from-below l q ∙ sym f) (lt-or-ge from l)

module _ (lines : List ℕ) (l hand : ℕ) where
  pub victim-at : loose_from lines l hand < l → victim lines l hand ≡ loose_from lines l hand
  unfolding victim
  victim-at h = rw (lt-ltb _ _ h)

  pub victim-round : l ≤ loose_from lines l hand → victim lines l hand ≡ loose_from lines l 0
  unfolding victim
  victim-round h = rw (le-ltb _ _ h)

  pub victim-≤ : victim lines l hand ≤ l
  victim-≤ =
      ⊎_elim (λ (h : loose_from lines l hand < l). omega (arith, victim-at h))
      (λ (h : l ≤ loose_from lines l hand). omega (arith, victim-round h, loose_from-≤ lines 0 l)) (lt-or-ge (loose_from lines l hand) l)

  -- no tracker holds the line found
  pub victim-loose : victim lines l hand < l → held (get_or lines (victim lines l hand) 0) ≡ false
  victim-loose v =
      ⊎_elim (λ (h : loose_from lines l hand < l). rw (victim-at h) (loose_from-loose lines hand l h))
      (λ (h : l ≤ loose_from lines l hand). rw (victim-round h) (loose_from-loose lines 0 l (omega (arith, victim-round h)))) (lt-or-ge (loose_from lines l hand) l)

  -- there is none only where trackers hold every line
  pub victim-none : l ≤ victim lines l hand → (i : ℕ) → i < l → held (get_or lines i 0) ≡ true
  victim-none v i q =
      ⊎_elim (λ (h : loose_from lines l hand < l). absurd (omega (arith, victim-at h)))
      (λ (h : l ≤ loose_from lines l hand). loose_from-before lines 0 l i (omega (arith, victim-round h)) (omega arith)) (lt-or-ge (loose_from lines l hand) l)

pub after_next : (l i : ℕ) → i + 1 < l → after l i ≡ i + 1
unfolding after
after_next l i h = rw (lt-ltb (i + 1) l h)

pub after_last : (l i : ℕ) → l ≤ i + 1 → after l i ≡ 0
unfolding after
after_last l i h = rw (le-ltb (i + 1) l h)

pub after-below : (l i : ℕ) → 0 < l → after l i < l
after-below l i p =
    ⊎_elim (λ (h : i + 1 < l). omega (arith, after_next l i h)) (λ (h : l ≤ i + 1). omega (arith, after_last l i h)) (lt-or-ge (i + 1) l)
