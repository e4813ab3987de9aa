-- One call on contents: a step of a busy tracker is its course on the row, and every call keeps what lines and memory contain. A drain is `contained-stays` of Moves.
use mathlib.Core.Path.{◌≡◌, refl, sym, ◌∙◌}
use mathlib.Core.Bool.{Bool, true, false}
use mathlib.Core.List.{List}
use Prim.Native.Nat.{ℕ, suc, ◌<◌}
use native.Mathlib.Omega.{arith}
use lib.ListN.{length, set}
use Rattle.laws.proofs.Choice.{pick-by, not-both-ways}
use Rattle.geometry.specs.TagMemory.{values, index}
use Rattle.tracker.specs.declared.Phase.{Phase}
use Rattle.tracker.specs.declared.Phase.TheVariants.{Idle, Probe, Top, Under, Set, Clear}
use Rattle.tracker.specs.declared.Access.{Access}
use Rattle.tracker.specs.declared.Transfers.{Transfers}
use Rattle.tracker.specs.declared.Tracker.{Tracker}
use Rattle.tracker.specs.Tracker.{is_idle, is_idle_at, at_finish, level_of, first_phase, issued}
use Rattle.tracker.proofs.Phases.{idle-unfinished}
use Rattle.rules.specs.State.{tracker_at}
use Rattle.flat.specs.Flat.{Row, Course, course, row_by, tracker_by}
use Rattle.flat.proofs.Contained.{View, pends, full_by, Fits, Keeping, Free, Holding, Contained}
use Rattle.flat.proofs.Does.{Stays, decides, Does}
use Rattle.flat.proofs.Pending.{not-finishing, pends-not}
use Rattle.flat.proofs.Moves.{stays-brought, brought-else, same_full, stay-step}
use Rattle.flat.proofs.Decides.{Ready, decides-course}
use Rattle.flat.proofs.Tight.{tight-step}
use Rattle.flat.proofs.Plays.{plays}

-- the course of a step of tracker x, by what is in a line
abbrev pub course_in : (t : ℕ) → List Tracker → Row → View → (held : Bool) → ℕ → Course
course_in t ts row v held x =
    let u = tracker_at ts x in
    course t row (λ e. v.lined e (index e u.group)) held u u.phase

pub record Stepped (t : ℕ) (ts : List Tracker) (row : Row) (v v' : View) (held : Bool) (x : ℕ) (m : Transfers) : Type 0 where
  pub decided : decides t v held (tracker_at ts x) (tracker_at ts x).phase ≡ course_in t ts row v held x
  pub contained : Contained (suc t) (set ts x (tracker_by (tracker_at ts x) m (course_in t ts row v held x))) (row_by row (tracker_at ts x) (course_in t ts row v held x)) v'

pub one-step : (t : ℕ) (ts : List Tracker) (row : Row) (v v' : View) → Contained (suc t) ts row v → Holding (suc t) ts v → (x : ℕ) → x < length ts → is_idle (tracker_at ts x) ≡ false
    → (held : Bool) → (held ≡ false → Free (suc t) ts (index (suc t) (tracker_at ts x).group)) → Does t v v' held (tracker_at ts x) (tracker_at ts x).phase
    → (m : Transfers) → Stepped t ts row v v' held x m
one-step t ts row v v' C H x xl busy held free D m = record {
  decided = decides-course ready held free (tracker_at ts x).phase refl;
  contained = plays v' ready m held free (tracker_at ts x).phase refl (is-busy (tracker_at ts x).phase busy) D;
}
  where
    ready : Ready t ts row v x
    ready = record { contained = C; holding = H; x_lt = xl }

    is-busy : (p : Phase) → is_idle_at p ≡ false → p ≡ Idle → ⊥
    is-busy p b q = not-both-ways (rw q refl) b

-- an idle tracker begins an access
module _ {top : ℕ} {ts : List Tracker} {row : Row} {v : View} (tp : 0 < top) (C : Contained top ts row v) (x : ℕ) (xl : x < length ts) (rests : is_idle (tracker_at ts x) ≡ true)
    (a : Access) (value-lt : a.value < values) where
  first-calm : at_finish (first_phase a.bottom) ≡ false
  first-calm = pick-by (λ p. at_finish p ≡ false) a.bottom (λ z. refl) (λ z. refl)

  np : (e k : ℕ) → pends (issued a) e k ≡ pends (tracker_at ts x) e k
  np e k = pends-not (issued a) e k (not-finishing (first_phase a.bottom) first-calm e)
      ∙ sym (pends-not (tracker_at ts x) e k (not-finishing (tracker_at ts x).phase (idle-unfinished (tracker_at ts x).phase rests) e))

  stays : Stays v v
  stays = record { groups = λ g. refl; bits = λ e k. refl; lined = λ e j n. n }

  keeps-none : (p : Phase) (e : ℕ) → is_idle_at p ≡ true → Keeping p e → ⊥
  keeps-none Idle e r k = k
  keeps-none (Probe d) e r k = k
  keeps-none Top e r k = k
  keeps-none (Under d) e r k = not-both-ways r refl
  keeps-none (Set d) e r k = not-both-ways r refl
  keeps-none (Clear d) e r k = k

  pub contained-issued : Contained top (set ts x (issued a)) row v
  contained-issued = record {
    agrees = stay-step C.agrees x xl (issued a) np (pick-by (λ p. Fits (full_by ts row) (issued a) p) a.bottom (λ z. tt) (λ z. tt))
        (pick-by (λ p. level_of p < top) a.bottom (λ z. tp) (λ z. tp)) (pick-by (λ n. n < values) a.write (λ z. value-lt) (λ z. omega arith)) stays;
    tight = tight-step C.tight row x xl (issued a) top (brought-else (stays-brought stays top _)) (λ c i l d. same_full C.agrees x xl (issued a) np c i) (λ l n. absurd (omega arith))
        (λ c l d o. absurd (keeps-none (tracker_at ts x).phase c rests o.keeps));
  }
