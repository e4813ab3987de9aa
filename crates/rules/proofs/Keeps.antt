-- Each rule of a step keeps a whole state whole and the lent lengths right, and refuses nothing.
use mathlib.Core.Path.{◌≡◌, sym, ap, ◌∙◌, subst, refl}
use mathlib.Core.Bool.{true, false}
use mathlib.Core.List.{List}
use Prim.Native.Nat.{ℕ, suc, ◌+◌, ◌<◌, ◌≤◌, zero}
use native.Mathlib.Omega.{arith}
use lib.ListN.{set, length-set}
use borrow.Author.Tests.{lt-ltb, le-ltb}
use Rattle.geometry.specs.declared.Shape.{Shape}
use Rattle.geometry.specs.Shape.{below_top, top_of}
use Rattle.geometry.specs.TagMemory.{block_over}
use Rattle.laws.proofs.Choice.{not-both-ways, both_true, true-or-false, pick-by, both_left}
use Rattle.tracker.specs.declared.Tracker.{Tracker}
use Rattle.tracker.specs.Tracker.{holds_at, asks_at, keeps_at, is_idle_at, after_probe, goes_to, counted}
use Rattle.tracker.proofs.Phases.{loose-keeps, loose-asks, keeps-under, asks-under}
use Rattle.line.specs.Word.{line_blocks, block_of, held_by, marks}
use Rattle.rules.specs.State.{Rows}
use Rattle.rules.specs.Whole.{phase_whole}
use Rattle.rules.specs.Place.{Brought, bring_in}
use Rattle.rules.specs.Step.{own_line, Turned, goes, waits, asks_zero, says_zero, group_in, bit_in, lines_held_by, probe, descend, top, under, by_phase}
use Rattle.rules.proofs.Words.{block_of-held_by, holder-held_by, used-held_by}
use Rattle.rules.proofs.Lined.{at, Claim, held-lined}
use Rattle.rules.proofs.Whole.{claims_of, LinedBy, t-most}
use Rattle.rules.proofs.Placed.{unmoved, as_long}
use Rattle.rules.proofs.Ways.{top_held, holds_it, top-wait, top-on, under-map}
use mathlib.Core.Logic.{⊎_elim}
use lib.Dec.{eqb, ltb}
use Rattle.laws.specs.Choice.{both, no as negated}
use Rattle.laws.proofs.Splice.{lt-or-ge}
use Rattle.tracker.specs.declared.Phase.{Phase}
use Rattle.tracker.specs.declared.Phase.TheVariants.{Idle, Probe, Top, Under, Set, Clear}
use Rattle.tracker.specs.Transfers.{none}
use Rattle.rules.proofs.Situation.{phase-was, BringsIn, NobodyKeeps, top-unkept, own-brings, under-lt, under-keeps, under-asks, under-own, under-free, map-brings}
pub use Rattle.rules.proofs.Turns.{is_no, Keeps}
pub use Rattle.rules.proofs.Trackers.{tracker-same, tracker-other, tracked-set}
pub use Rattle.rules.proofs.Situation.{Situation, group-ok, few, small, own-lt, own-has, own-holder, one-holder}
use Rattle.rules.proofs.Turns.{quietly, mine-now, turn-fewer, goes-tracked, brought-go, ends-here, goes-here, says_zero-ok}
use Rattle.rules.proofs.KeepsLeaf.{keeps-at_leaf}
use Rattle.rules.proofs.KeepsFinish.{keeps-at_finish}
pub use Rattle.rules.proofs.KeepsFinish.{put_bit-length}

module _ (sit : Situation) where
  abbrev shape : Shape
  shape = sit.shape

  abbrev n : ℕ
  n = shape.n

  abbrev l : ℕ
  l = shape.l

  abbrev x : ℕ
  x = sit.x

  abbrev ts : List Tracker
  ts = sit.ts

  abbrev r : Rows
  r = sit.r

  abbrev u : Tracker
  u = sit.u

  -- its block of level e, and the line of it
  abbrev block : ℕ → ℕ
  block e = block_over e n u.group

  abbrev own : ℕ → ℕ
  own e = own_line shape u r e

  abbrev Left : Turned → Type 0
  Left o = Keeps shape x ts r o

  module _ (d : ℕ) (e : u.phase ≡ Probe d) where
    probe-free : holds_at u.phase ≡ false
    probe-free = rw e

    probe-bottom : u.bottom ≡ true
    probe-bottom = both_left u.bottom (ltb d (top_of shape)) (subst (λ (p : Phase). phase_whole (top_of shape) u.write u.bottom p ≡ true) e (phase-was sit))

    probe-on : Left (goes u (after_probe (top_of shape) d) none shape r)
    probe-on = pick-by (λ (p : Phase). Left (goes u p none shape r)) (ltb (suc d) (top_of shape))
        (λ q. goes-here sit probe-free (Probe (suc d)) refl (both_true _ _ probe-bottom q)) (λ _. goes-here sit probe-free Top refl refl)

  pub keeps-probe : (d : ℕ) → u.phase ≡ Probe d → Left (probe shape d u r)
  unfolding probe
  keeps-probe zero e =
      pick-by Left (ltb (own 0) l)
      (λ _. pick-by Left u.write
      (λ _. pick-by Left (eqb (group_in r.bytes (own 0) u.group) u.value) (λ _. ends-here sit (probe-free 0 e) _ refl) (λ _. probe-on 0 e))
      (λ _. ends-here sit (probe-free 0 e) _ refl))
      (λ _. probe-on 0 e)
  keeps-probe (suc d) e =
      pick-by Left (both (both (ltb (own (suc d)) l) (negated (top_held shape u r))) (both (eqb (bit_in r.bytes (own (suc d)) d u.group) 0) (asks_zero u)))
      (λ _. ends-here sit (probe-free (suc d) e) (says_zero u) (says_zero-ok sit)) (λ _. probe-on (suc d) e)

  -- on from its block of level d + 1, which is in a line and kept by nobody; of the other levels it keeps and asks for those above
  module _ (d : ℕ) (dl : d < top_of shape) (not_yet : keeps_at u.phase (suc d) ≡ false)
      (was : (e : ℕ) → e < top_of shape → (e ≡ d → ⊥) → (keeps_at u.phase (suc e) ≡ ltb d (suc e)) × (asks_at u.phase (suc e) ≡ ltb d (suc e)))
      (free : NobodyKeeps sit (block (suc d))) (b : Brought) (f : BringsIn sit (block (suc d)) b) where
    abbrev now : Tracker
    now = goes_to u (Under d) b.copies

    abbrev line : ℕ
    line = at b.rows.lines b.line

    line-fits : block_of line < line_blocks
    line-fits = rw f.has-it.is_block (omega (arith, small sit, f.lined.apart.exists b.line _ f.has-it))

    x-marks : x + 1 < marks
    x-marks = omega (arith, t-most shape sit.limits-ok, sit.x_lt)

    comes-to-hold : LinedBy shape (set ts x now) (lines_held_by b.rows.lines b.line x)
    comes-to-hold =
        held-lined f.lined b.line (held_by line (x + 1)) f.line-lt (claims_of n (set ts x now)) x d (block (suc d)) sit.x_lt dl
        (λ y e el q. turn-fewer sit now y (suc e) (λ yx. let w = was e el (λ ed. q yx ed) in
        record { keeps_same = keeps-under d (suc e) ∙ sym w.0; asks-fewer = λ a. w.1 ∙ sym (asks-under d (suc e)) ∙ a; block_same = λ _. refl }))
        (ap (λ (c : Claim). c.keeps (suc d)) (mine-now sit now) ∙ keeps-under d (suc d) ∙ lt-ltb d (suc d) (omega arith))
        (ap (λ (c : Claim). c.block (suc d)) (mine-now sit now))
        (ap (λ (w : Tracker). keeps_at w.phase (suc d)) sit.is-u ∙ not_yet)
        f.has-it f.loose (used-held_by line (x + 1) line-fits x-marks) (block_of-held_by line (x + 1) line-fits x-marks ∙ f.has-it.is_block) (holder-held_by line (x + 1) line-fits x-marks)

    descend-holds : Left (holds_it x d u b)
    descend-holds = record {
      says = refl;
      shaped = f.shaped;
      lined = comes-to-hold;
      tracked = goes-tracked sit (Under d) _ (lt-ltb _ _ dl);
      long = record { lines_long = length-set b.rows.lines b.line _ ∙ f.long.lines_long; bytes-long = f.long.bytes-long; memory-long = f.long.memory-long };
    }

    keeps-descend : Left (descend x own d u b)
    unfolding descend
    keeps-descend =
        pick-by Left (both (eqb (bit_in b.rows.bytes b.line d u.group) 0) (asks_zero u))
        (λ _. brought-go sit (block (suc d)) b free f (says_zero u) (says_zero-ok sit)) (λ _. descend-holds)

  pub keeps-top : u.phase ≡ Top → Left (top shape x u r)
  keeps-top m = ⊎_elim (λ h. rw (top-wait shape x u r h) waits-ok) (λ h. rw (top-on shape x u r h (here h).line-lt) (on h)) (true-or-false (top_held shape u r))
    where
      none-held : holds_at u.phase ≡ false
      none-held = rw m

      waits-ok : Left (waits u shape r)
      waits-ok = record {
        says = refl;
        shaped = unmoved sit.hand-lt;
        lined = quietly sit (counted u) none-held none-held sit.lined;
        tracked = goes-tracked sit u.phase _ (phase-was sit);
        long = as_long;
      }

      here : top_held shape u r ≡ false → BringsIn sit (block (top_of shape)) (bring_in shape (block (top_of shape)) r)
      here h = own-brings sit (top_of shape) (omega arith) (top-unkept sit h)

      on : top_held shape u r ≡ false → Left (descend x own (below_top shape) u (bring_in shape (block (top_of shape)) r))
      on h = keeps-descend (below_top shape) (omega arith) (loose-keeps u.phase (top_of shape) none-held)
          (λ e el q. let z : ltb (below_top shape) (suc e) ≡ false = le-ltb (below_top shape) (suc e) (omega arith) in (loose-keeps u.phase (suc e) none-held ∙ sym z, loose-asks u.phase (suc e) none-held ∙ sym z))
          (top-unkept sit h) _ (here h)

  module _ (d : ℕ) (p : u.phase ≡ Under (suc d)) where
    keeps-map : Left (under shape x (suc d) u r)
    keeps-map = rw (under-map shape x u r d (under-own sit (suc d) p) (map-brings sit d p).line-lt)
        (keeps-descend d (omega (arith, under-lt sit (suc d) p)) (under-keeps sit (suc d) p (suc d) ∙ le-ltb (suc d) (suc d) (omega arith))
        (λ e el q. (under-keeps sit (suc d) p (suc e) ∙ up e q, under-asks sit (suc d) p (suc e) ∙ up e q)) (under-free sit (suc d) p) _ (map-brings sit d p))
      where
        up : (e : ℕ) → (e ≡ d → ⊥) → ltb (suc d) (suc e) ≡ ltb d (suc e)
        up e q = ⊎_elim (λ (s : d < e). lt-ltb (suc d) (suc e) (omega arith) ∙ sym (lt-ltb d (suc e) (omega arith)))
            (λ (s : e ≤ d). le-ltb (suc d) (suc e) (omega arith) ∙ sym (le-ltb d (suc e) (omega arith))) (lt-or-ge d e)

  keeps-at_under : (d : ℕ) → u.phase ≡ Under d → Left (under shape x d u r)
  keeps-at_under zero e = keeps-at_leaf sit e
  keeps-at_under (suc d) e = keeps-map d e

  pub keeps-by_phase : (p : Phase) → u.phase ≡ p → Left (by_phase shape x u r p)
  keeps-by_phase Idle e = absurd (not-both-ways (ap is_idle_at e) sit.busy)
  keeps-by_phase (Probe d) e = keeps-probe d e
  keeps-by_phase Top e = keeps-top e
  keeps-by_phase (Under d) e = keeps-at_under d e
  keeps-by_phase (Set d) e = keeps-at_finish sit true d e
  keeps-by_phase (Clear d) e = keeps-at_finish sit false d e
