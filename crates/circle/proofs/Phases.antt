-- The phases of a device, over its levels: where an access stands at each, and that the table makes only moves that fit there.
use mathlib.Core.Path.{◌≡◌, refl, ap}
use mathlib.Core.Bool.{Bool, true, false}
use Prim.Native.Nat.{ℕ, zero, suc, ◌+◌, ◌-◌, ◌*◌, ◌≤◌, ◌<◌, min}
use native.Mathlib.Omega.{arith}
use lib.Dec.{ltb}
use borrow.Author.Tests.{ltb-true, ltb-false}
use Rattle.laws.specs.Choice.{pick}
use Rattle.laws.proofs.Choice.{pick-by}
use Rattle.tracker.specs.declared.Phase.{Phase}
use Rattle.tracker.specs.declared.Phase.TheVariants.{Idle, Probe, Top, Under, Set, Clear}
use Rattle.tracker.specs.Tracker.{first_phase, holds_at, level_of, after_probe}
use Rattle.circle.specs.Table.{Move, to, onward, rule}
use Rattle.circle.specs.LastTurn.{bound, last_turn, last_turn_of_three}
use Rattle.circle.proofs.Levels.{Stand, rests, before, after, is_after, early, later, Fits, Levels}

-- 01's four numbers, and 02's four
pub last_turn-is : (M : ℕ) (write bottom : Bool) → bound 2 (suc M) write bottom ≡ last_turn (suc M) write bottom
unfolding bound
last_turn-is M false false = omega arith
last_turn-is M true false = omega arith
last_turn-is M false true = omega arith
last_turn-is M true true = omega arith

pub last_turn_of_three-is : (M : ℕ) (write bottom : Bool) → bound 3 (suc M) write bottom ≡ last_turn_of_three (suc M) write bottom
unfolding bound
last_turn_of_three-is M false false = omega arith
last_turn_of_three-is M true false = omega arith
last_turn_of_three-is M false true = omega arith
last_turn_of_three-is M true true = omega arith

module _ (below : ℕ) where
  -- the turns that an access at Under d has at most after its next: down to the leaf, and a write up again to the top. No access comes to a level that is not below the top.
  abbrev after_under : Bool → ℕ → ℕ
  after_under write d = min d below + pick write (suc below) 0

  abbrev pub stand : Bool → Phase → Stand
  stand write Idle = rests
  stand write (Probe d) = before (suc (below - d))
  stand write Top = before 0
  stand write (Under d) = after (after_under write d)
  stand write (Set d) = after (below - d)
  stand write (Clear d) = after (below - d)

  pub stand-first : (write bottom : Bool) → stand write (first_phase bottom) ≡ before (early (suc below) bottom)
  stand-first write false = refl
  stand-first write true = ap before (omega arith)

  pub stand-holding : (write : Bool) (at : Phase) → holds_at at ≡ is_after (stand write at)
  stand-holding write Idle = refl
  stand-holding write (Probe d) = refl
  stand-holding write Top = refl
  stand-holding write (Under d) = refl
  stand-holding write (Set d) = refl
  stand-holding write (Clear d) = refl

  abbrev left : Stand → ℕ
  left rests = 0
  left (before k) = 0
  left (after r) = suc r

  left_le : (write : Bool) (at : Phase) → left (stand write at) ≤ 2 * suc below
  left_le write Idle = omega arith
  left_le write (Probe d) = omega arith
  left_le write Top = omega arith
  left_le true (Under d) = omega arith
  left_le false (Under d) = omega arith
  left_le write (Set d) = omega arith
  left_le write (Clear d) = omega arith

  pub stand-short : (write : Bool) (at : Phase) (r : ℕ) → stand write at ≡ after r → suc r ≤ 2 * suc below
  stand-short write at r e = let l : left (after r) ≤ 2 * suc below = rw e at (left_le write at) in omega arith

  abbrev pub phases : Levels (suc below)
  phases = record { At = Phase; first = first_phase; holding = holds_at; stand = stand; stand-first = stand-first; stand-holding = stand-holding; stand-short = stand-short }

  -- the moves that fit where an access stands
  abbrev Fit : (held write : Bool) → Stand → Move Phase → Type 0
  Fit held write = Fits (stand write) (later (suc below) write) held

  fits-probe : (held write : Bool) (d : ℕ) → Fit held write (stand write (Probe d)) (to (after_probe (suc below) d))
  fits-probe held write d = pick-by (λ (p : Phase). stand write p ≡ before (below - d)) (ltb (suc d) (suc below))
      (λ h. let l : suc d < suc below = ltb-true _ _ h in ap before (omega arith)) (λ h. let l : suc below ≤ suc d = ltb-false _ _ h in ap before (omega arith))

  -- who holds may go on to where fewer turns are left
  fits-less : (held write : Bool) (p : Phase) (r r' : ℕ) → stand write p ≡ after r' → r' < r → Fit held write (after r) (to p)
  fits-less held write p zero r' e l = absurd (omega arith)
  fits-less held write p (suc r) r' e l = (r', e, omega arith)

  fits-onward : (held write quit : Bool) (d : ℕ) (p : Phase) → stand write p ≡ after (below - suc d) → Fit held write (after (below - d)) (onward below quit d p)
  fits-onward held write true d p e = tt
  fits-onward held write false d p e = pick-by (Fit held write (after (below - d))) (ltb d below)
      (λ h. let l : d < below = ltb-true _ _ h in fits-less held write p (below - d) (below - suc d) e (omega arith)) (λ h. tt)

  pub fits : (held quit set write : Bool) (at : Phase) → level_of at < suc below → Fit held write (stand write at) (rule below held quit set write at)
  fits held quit set write Idle l = tt
  fits held true set write (Probe d) l = tt
  fits held false set write (Probe d) l = fits-probe held write d
  fits true quit set write Top l = refl
  fits false true set write Top l = tt
  fits false false set false Top l = (refl, after_under false below, refl, omega arith)
  fits false false set true Top l = (refl, after_under true below, refl, omega arith)
  fits held quit set false (Under zero) l = tt
  fits held true set true (Under zero) l = tt
  fits held false set true (Under zero) l = pick-by (λ (p : Phase). Fit held true (stand true (Under 0)) (to p)) set
      (λ h. fits-less held true (Set 0) (after_under true 0) (below - 0) refl (omega arith)) (λ h. fits-less held true (Clear 0) (after_under true 0) (below - 0) refl (omega arith))
  fits held true set write (Under (suc e)) l = tt
  fits held false set write (Under (suc e)) l = fits-less held write (Under e) (after_under write (suc e)) (after_under write e) refl (omega arith)
  fits held quit set write (Set d) l = fits-onward held write quit d (Set (suc d)) refl
  fits held quit set write (Clear d) l = fits-onward held write quit d (Clear (suc d)) refl
