-- The tally of one place after the other is the sheet: each number is what its definition over all places says.
-- By induction on the places; only the farthest line needs a thought: a place that is farther than all before it is the first of its distance,
-- and one that is not leaves the first as it was.
use Prim.Native.Nat.{ℕ, zero, suc, ◌+◌, ◌<◌, ◌≤◌, max}
use mathlib.Core.Path.{◌≡◌, refl, sym, ap, ◌∙◌}
use mathlib.Core.Bool.{false}
use mathlib.Core.List.{List}
use mathlib.Core.Logic.{⊎_elim}
use native.Mathlib.Numerals.{add-one}
use native.Mathlib.Omega.{arith}
use borrow.Author.Tests.{lt-ltb, le-ltb, eq-eqb, ne_eqb}
use lib.Dec.{ltb, eqb}
use Rattle.laws.specs.Choice.{pick, one}
use Rattle.laws.specs.Scan.{first, count}
use Rattle.laws.proofs.Splice.{lt-or-ge}
use Rattle.laws.proofs.Scan.{first-hit, first-none, first-suc-old}
use Rattle.laws.proofs.Count.{largest-suc, largest-least, largest-first}
use Rattle.laws.specs.Count.{sum, largest}
use Rattle.output.specs.Line.{shown}
use Rattle.measure.specs.Pair.{is_ending, recorded, replayed, drift_of}
use Rattle.measure.specs.Sheet.{stay, places, pair_at, endings, drifted, farthest, farthest_line, total, changed, blocks, sheet, sheet_of, no_tally, plus_blocks, added, tallied}
use Rattle.output.specs.declared.Counts.{Counts}
use Rattle.measure.specs.declared.Pair.{Pair}

pub stay-stay : (x d : ℕ) → stay (x + d) ≡ stay (stay x + d)
stay-stay x d = omega arith

-- ## The farthest line

farthest-is : (pair : ℕ → Pair) (n : ℕ) → farthest pair n ≡ largest (λ k. drift_of (pair k)) n
unfolding farthest
farthest-is pair n = refl

farthest-suc : (pair : ℕ → Pair) (n : ℕ) → farthest pair (suc n) ≡ max (farthest pair n) (drift_of (pair n))
unfolding farthest
farthest-suc pair n = largest-suc (λ k. drift_of (pair k)) n

line_of : (pair : ℕ → Pair) (n v : ℕ) → farthest pair n ≡ v → 0 < v → farthest_line pair n ≡ first (λ k. eqb (drift_of (pair k)) v) n + 1
unfolding farthest_line
line_of pair n v e h = let z : eqb v 0 ≡ false = ne_eqb v 0 (λ q. omega arith) in rw (e, z)

line-none : (pair : ℕ → Pair) (n : ℕ) → farthest pair n ≡ 0 → farthest_line pair n ≡ 0
unfolding farthest_line
line-none pair n e = rw e

-- a place that is farther than all before it
pub line-farther : (pair : ℕ → Pair) (n : ℕ) → farthest pair n < drift_of (pair n) → farthest_line pair (suc n) ≡ n + 1
line-farther pair n h =
    let v : farthest pair (suc n) ≡ drift_of (pair n) = omega (arith, farthest-suc pair n) in
    line_of pair (suc n) (drift_of (pair n)) v (omega arith)
    ∙ ap (λ (m : ℕ). m + 1) (first-hit (λ k. eqb (drift_of (pair k)) (drift_of (pair n))) n (suc n)
    (first-none (λ k. eqb (drift_of (pair k)) (drift_of (pair n))) n
    (λ k l. ne_eqb (drift_of (pair k)) (drift_of (pair n)) (λ e. omega (arith, farthest-is pair n, largest-least (λ k. drift_of (pair k)) n k l))))
    (eq-eqb (drift_of (pair n)) (drift_of (pair n)) refl) (omega arith))

-- one that is not
pub line-nearer : (pair : ℕ → Pair) (n : ℕ) → drift_of (pair n) ≤ farthest pair n → farthest_line pair (suc n) ≡ farthest_line pair n
line-nearer pair n h =
    ⊎_elim
    (λ (l : 0 < farthest pair n).
    let v : farthest pair (suc n) ≡ farthest pair n = omega (arith, farthest-suc pair n) in
    line_of pair (suc n) (farthest pair n) v l
    ∙ (ap (λ (m : ℕ). m + 1) (first-suc-old (λ k. eqb (drift_of (pair k)) (farthest pair n)) n
    (largest-first (λ k. drift_of (pair k)) (farthest pair n) n (sym (farthest-is pair n)) l))
    ∙ sym (line_of pair n (farthest pair n) refl l)))
    (λ (l : farthest pair n ≤ 0).
    let v : farthest pair (suc n) ≡ 0 = omega (arith, farthest-suc pair n) in
    let w : farthest pair n ≡ 0 = omega arith in
    line-none pair (suc n) v ∙ sym (line-none pair n w))
    (lt-or-ge 0 (farthest pair n))

pub line-suc :
    (pair : ℕ → Pair) (n : ℕ) →
    stay (farthest_line pair (suc n)) ≡ pick (ltb (farthest pair n) (drift_of (pair n))) (stay (stay n + 1)) (stay (farthest_line pair n))
line-suc pair n =
    ⊎_elim
    (λ (l : farthest pair n < drift_of (pair n)).
    rw (lt-ltb (farthest pair n) (drift_of (pair n)) l, line-farther pair n l) (stay-stay n 1))
    (λ (l : drift_of (pair n) ≤ farthest pair n). rw (le-ltb (farthest pair n) (drift_of (pair n)) l, line-nearer pair n l))
    (lt-or-ge (farthest pair n) (drift_of (pair n)))

-- ## The tally

blocks_more : (carried : ℕ → Counts) (n : ℕ) → plus_blocks (blocks carried n) (carried n) ≡ blocks carried (suc n)
unfolding plus_blocks blocks sum
blocks_more carried n =
    rw (← stay-stay (sum (λ k. (shown (carried k).transfers).fetched) n) (shown (carried n).transfers).fetched, ← stay-stay (sum (λ k. (shown (carried k).transfers).back) n) (shown (carried n).transfers).back)

start : (pair : ℕ → Pair) → no_tally ≡ sheet pair 0
unfolding sheet endings drifted farthest farthest_line total changed blocks count sum largest first
start pair = refl

more : (pair : ℕ → Pair) (n : ℕ) → added (sheet pair n) (pair n) ≡ sheet pair (suc n)
unfolding sheet added endings drifted farthest total changed count sum largest
more pair n =
    rw (
      ← line-suc pair n,
      ← stay-stay (count (λ k. is_ending (pair k)) n) (one (is_ending (pair n))),
      ← stay-stay (count (λ k. ltb 0 (drift_of (pair k))) n) (one (ltb 0 (drift_of (pair n)))),
      ← stay-stay (sum (λ k. drift_of (pair k)) n) (drift_of (pair n)),
      ← stay-stay (count (λ k. (pair k).changed) n) (one (pair n).changed),
      ← stay-stay n 1,
      blocks_more (λ k. recorded (pair k)) n,
      blocks_more (λ k. replayed (pair k)) n,
      add-one n,
    )

pub tally-is-sheet : (pair : ℕ → Pair) (n : ℕ) → tallied pair n ≡ sheet pair n
unfolding tallied
tally-is-sheet pair zero = start pair
tally-is-sheet pair (suc n) = rw (tally-is-sheet pair n) (more pair n)

-- of two lists of lines
pub tally-of-lines : (xs ys : List (List ℕ)) → tallied (pair_at xs ys) (places xs ys) ≡ sheet_of xs ys
unfolding sheet_of
tally-of-lines xs ys = tally-is-sheet (pair_at xs ys) (places xs ys)
