-- One tracker of the row changes: the trackers that are then there, what they claim, and the lines where it held nothing and holds nothing.
use mathlib.Core.Path.{◌≡◌, sym, ap, ◌∙◌, subst}
use mathlib.Core.Bool.{true, false}
use mathlib.Core.List.{List}
use Prim.Native.Nat.{ℕ, suc, ◌<◌}
use native.Mathlib.Omega.{arith}
use native.Mathlib.Decide.{ℕ_discrete}
use lib.ListN.{length, set, length-set}
use lib.Seq.{get_or-set_same, get_or-set_other}
use Rattle.geometry.specs.declared.Shape.{Shape}
use Rattle.geometry.specs.TagMemory.{groups}
use Rattle.laws.proofs.Choice.{not-both-ways}
use Rattle.tracker.specs.declared.Tracker.{Tracker}
use Rattle.tracker.specs.Tracker.{idle, is_idle, holds_at}
use Rattle.tracker.proofs.Phases.{loose-keeps, loose-asks}
use Rattle.rules.specs.State.{tracker_at}
use Rattle.rules.specs.Whole.{phase_whole}
use Rattle.rules.proofs.Lined.{Fewer, unchanged, fewer-lined}
use Rattle.rules.proofs.Whole.{claim_of, claims_of, LinedBy, Tracked}

pub tracker-same : (ts : List Tracker) (x : ℕ) (t : Tracker) → x < length ts → tracker_at (set ts x t) x ≡ t
tracker-same ts x t q = get_or-set_same ts x t idle q

pub tracker-other : (ts : List Tracker) (x y : ℕ) (t : Tracker) → (y ≡ x → ⊥) → tracker_at (set ts x t) y ≡ tracker_at ts y
tracker-other ts x y t n = get_or-set_other ts x y t idle n

-- a tracker may become another that is as it must be
pub tracked-set : (top n t : ℕ) (ts : List Tracker) (x : ℕ) (u : Tracker) → Tracked top n t ts → x < t → (is_idle u ≡ false → u.group < groups n)
    → phase_whole top u.write u.bottom u.phase ≡ true → Tracked top n t (set ts x u)
tracked-set top n t ts x u k xl g p = record {
  long = rw (length-set ts x u) k.long;
  above = λ y q. ap is_idle (tracker-other ts x y u (λ e. omega arith)) ∙ k.above y q;
  group-lt = λ y e. group y e (ℕ_discrete y x);
  phase-ok = λ y. phase y (ℕ_discrete y x);
}
  where
    here : (y : ℕ) → y ≡ x → tracker_at (set ts x u) y ≡ u
    here y q = rw q (tracker-same ts x u (omega (arith, k.long)))

    group : (y : ℕ) → is_idle (tracker_at (set ts x u) y) ≡ false → Dec (y ≡ x) → (tracker_at (set ts x u) y).group < groups n
    group y e (yes q) = rw (here y q) (g (ap is_idle (sym (here y q)) ∙ e))
    group y e (no q) = rw (tracker-other ts x y u q) (k.group-lt y (ap is_idle (sym (tracker-other ts x y u q)) ∙ e))

    phase : (y : ℕ) → Dec (y ≡ x) → phase_whole top (tracker_at (set ts x u) y).write (tracker_at (set ts x u) y).bottom (tracker_at (set ts x u) y).phase ≡ true
    phase y (yes q) = rw (here y q) p
    phase y (no q) = rw (tracker-other ts x y u q) (k.phase-ok y)

-- what the trackers claim once x is u
module _ (n : ℕ) (ts : List Tracker) (x : ℕ) (u : Tracker) (xl : x < length ts) where
  pub claims-other : (y : ℕ) → (y ≡ x → ⊥) → claims_of n (set ts x u) y ≡ claims_of n ts y
  claims-other y q = ap (claim_of n) (tracker-other ts x y u q)

  pub claims-now : claims_of n (set ts x u) x ≡ claim_of n u
  claims-now = ap (claim_of n) (tracker-same ts x u xl)

  -- the others claim what they did
  pub fewer-at : (y e : ℕ) → (y ≡ x → Fewer (claims_of n ts x) (claim_of n u) e) → Fewer (claims_of n ts y) (claims_of n (set ts x u) y) e
  fewer-at y e f = go (ℕ_discrete y x)
    where
      go : Dec (y ≡ x) → Fewer (claims_of n ts y) (claims_of n (set ts x u) y) e
      go (yes q) = subst (λ (z : ℕ). Fewer (claims_of n ts z) (claims_of n (set ts x u) z) e) (sym q)
          (subst (λ (w : Tracker). Fewer (claims_of n ts x) (claim_of n w) e) (sym (tracker-same ts x u xl)) (f q))
      go (no q) = unchanged (claims-other y q) e

-- a tracker that holds nothing before and after
pub quiet : (shape : Shape) (ts : List Tracker) (x : ℕ) (u : Tracker) {lines : List ℕ} → x < length ts → holds_at (tracker_at ts x).phase ≡ false → holds_at u.phase ≡ false
    → LinedBy shape ts lines → LinedBy shape (set ts x u) lines
quiet shape ts x u xl h h' v = fewer-lined v (claims_of shape.n (set ts x u)) (λ y e el. fewer-at shape.n ts x u xl y (suc e) (λ _. record {
  keeps_same = loose-keeps u.phase (suc e) h' ∙ sym (loose-keeps (tracker_at ts x).phase (suc e) h);
  asks-fewer = λ q. absurd (not-both-ways q (loose-asks u.phase (suc e) h'));
  block_same = λ q. absurd (not-both-ways q (loose-keeps (tracker_at ts x).phase (suc e) h));
}))
