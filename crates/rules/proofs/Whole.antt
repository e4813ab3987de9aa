-- What a whole state has, as facts, and back: the test says exactly this.
use mathlib.Core.Path.{◌≡◌, refl, sym, ap, ◌∙◌, subst}
use mathlib.Core.Bool.{Bool, true, false}
use mathlib.Core.List.{List}
use mathlib.Core.Logic.{◌⊎◌, inl, inr, ⊎_elim}
use Prim.Native.Nat.{ℕ, suc, ◌+◌, ◌-◌, ◌*◌, ◌<◌, ◌≤◌}
use native.Mathlib.Omega.{arith}
use lib.Dec.{eqb, ltb, leb}
use lib.ListN.{length, get_or, get_or-eq_default}
use borrow.Author.Tests.{lt-ltb, ltb-true, leb-true, le-leb, eqb-true, eq-eqb}
use Rattle.tracker.proofs.Phases.{asks-keeps}
use Rattle.geometry.specs.declared.Shape.{Shape}
use Rattle.geometry.specs.Shape.{at_hand, top_of}
use Rattle.geometry.specs.TagMemory.{groups, most_leaves_of, most_trackers, most_lines, in_limits_of, block_over, blocks_of}
use Rattle.geometry.proofs.Limits.{in_limits-least, in_limits-most}
use Rattle.geometry.proofs.Shapes.{below-hand}
use Rattle.laws.specs.Choice.{both, implies, no}
use Rattle.laws.specs.Scan.{all}
use Rattle.laws.proofs.Choice.{not-both-ways, both_left, both_right, both_true, implies_true, implied, no_true}
use Rattle.laws.proofs.Splice.{lt-or-ge}
use Rattle.laws.proofs.Scan.{all-at, all-is}
use Rattle.laws.proofs.Some.{some_is, some-true}
use Rattle.tracker.specs.declared.Phase.{Phase}
use Rattle.tracker.specs.declared.Phase.TheVariants.{Idle, Probe, Top, Under, Set, Clear}
use Rattle.tracker.specs.declared.Tracker.{Tracker}
use Rattle.tracker.specs.Tracker.{idle, is_idle, is_idle_at, level_of, asks_at, keeps_at}
use Rattle.line.specs.Word.{used, block_of, holder, held}
use Rattle.line.specs.Find.{line_of}
use Rattle.rules.specs.State.{State, tracker_at}
use Rattle.rules.specs.Whole.{limits, keeps, line_whole, phase_whole, level_whole, tracker_whole, whole}
use Rattle.line.proofs.Words.{free-used}
use Rattle.rules.proofs.Words.{held-holder, holder-held}
use Rattle.rules.proofs.Lined.{at, Has, Apart, Claim, Kept, Lined, low, line_of-is, line_of-has}

-- what a tracker claims of n leaves' blocks, by its phase
abbrev pub claim_of : ℕ → Tracker → Claim
claim_of n u = record { keeps = keeps_at u.phase; asks = asks_at u.phase; block = λ e. block_over e n u.group; asks-keeps = asks-keeps u.phase }

abbrev pub claims_of : ℕ → List Tracker → ℕ → Claim
claims_of n ts x = claim_of n (tracker_at ts x)

-- the lines of a state with this shape and these trackers: each names the tracker that keeps its block
abbrev pub LinedBy : Shape → List Tracker → List ℕ → Type 0
LinedBy shape ts lines = Lined (blocks_of (top_of shape) shape.n) shape.l shape.t (top_of shape) (claims_of shape.n ts) lines

-- the trackers: those from t on are idle, busy groups exist, phases are as they must be
pub record Tracked (top n t : ℕ) (ts : List Tracker) : Type 0 where
  pub long : t ≤ length ts
  pub above : (x : ℕ) → t ≤ x → is_idle (tracker_at ts x) ≡ true
  pub group-lt : (x : ℕ) → is_idle (tracker_at ts x) ≡ false → (tracker_at ts x).group < groups n
  pub phase-ok : (x : ℕ) → phase_whole top (tracker_at ts x).write (tracker_at ts x).bottom (tracker_at ts x).phase ≡ true

pub record Whole (s : State) : Type 0 where
  pub limits-ok : limits s.shape ≡ true
  pub hand-lt : s.shape.hand < s.shape.l
  pub lined : LinedBy s.shape s.trackers s.lines
  pub tracked : Tracked (top_of s.shape) s.shape.n s.shape.t s.trackers

module _ (shape : Shape) (h : limits shape ≡ true) where
  pub in_limits-of : in_limits_of (top_of shape) shape.n ≡ true
  unfolding limits
  in_limits-of = both_left _ _ h

  pub n-least : 1 ≤ shape.n
  n-least = in_limits-least (top_of shape) shape.n in_limits-of

  pub n-most : shape.n ≤ most_leaves_of (top_of shape)
  n-most = in_limits-most (top_of shape) shape.n in_limits-of

  pub t-least : 1 ≤ shape.t
  unfolding limits
  t-least = leb-true _ _ (both_left _ _ (both_left _ _ (both_right _ _ h)))

  pub t-most : shape.t ≤ most_trackers
  unfolding limits
  t-most = leb-true _ _ (both_right _ _ (both_left _ _ (both_right _ _ h)))

  pub l-least : top_of shape * shape.t + 1 ≤ shape.l
  unfolding limits
  l-least = leb-true _ _ (both_left _ _ (both_right _ _ (both_right _ _ h)))

  pub l-most : shape.l ≤ most_lines
  unfolding limits
  l-most = leb-true _ _ (both_right _ _ (both_right _ _ (both_right _ _ h)))

-- the limits do not ask for the hand
pub limits-hand : (shape : Shape) (h : ℕ) → limits (at_hand shape h) ≡ limits shape
unfolding limits
limits-hand shape h = rw (below-hand shape h)

-- an idle tracker's phase is as it must be; a phase is of a level below the top
idle-ok : (top : ℕ) (w b : Bool) (p : Phase) → is_idle_at p ≡ true → phase_whole top w b p ≡ true
idle-ok top w b Idle h = refl
idle-ok top w b (Probe d) h = absurd (not-both-ways h refl)
idle-ok top w b Top h = refl
idle-ok top w b (Under d) h = absurd (not-both-ways h refl)
idle-ok top w b (Set d) h = absurd (not-both-ways h refl)
idle-ok top w b (Clear d) h = absurd (not-both-ways h refl)

pub phase-level : (top : ℕ) (w b : Bool) (p : Phase) → phase_whole (suc top) w b p ≡ true → level_of p < suc top
phase-level top w b Idle h = omega arith
phase-level top w b (Probe d) h = ltb-true _ _ (both_right _ _ h)
phase-level top w b Top h = omega arith
phase-level top w b (Under d) h = ltb-true _ _ h
phase-level top w b (Set d) h = ltb-true _ _ (both_right _ _ h)
phase-level top w b (Clear d) h = ltb-true _ _ (both_right _ _ h)

-- to keep a block is to keep it at a level
module _ (top n : ℕ) (u : Tracker) (b : ℕ) where
  abbrev keeps_here : ℕ → Bool
  keeps_here e = both (keeps_at u.phase (suc e)) (eqb (block_over (suc e) n u.group) b)

  pub keeps-kept : keeps top n u b ≡ true → Kept top (claim_of n u) b
  unfolding keeps
  keeps-kept h =
      let o = some_is keeps_here top h in
      record { below = o.one; below-lt = o.one-lt; is-kept = both_left _ _ o.holds-there; its-block = eqb-true _ _ (both_right _ _ o.holds-there) }

  pub kept-keeps : Kept top (claim_of n u) b → keeps top n u b ≡ true
  unfolding keeps
  kept-keeps o = some-true keeps_here top o.below o.below-lt (both_true _ _ o.is-kept (eq-eqb _ _ o.its-block))

module _ (s : State) (w : whole s ≡ true) where
  abbrev top : ℕ
  top = top_of s.shape

  abbrev n : ℕ
  n = s.shape.n

  abbrev t : ℕ
  t = s.shape.t

  abbrev l : ℕ
  l = s.shape.l

  part1 : both (limits s.shape) (ltb s.shape.hand s.shape.l) ≡ true
  unfolding whole
  part1 = both_left _ _ w

  part2 : both (leb s.shape.l (length s.lines)) (leb s.shape.t (length s.trackers)) ≡ true
  unfolding whole
  part2 = both_left _ _ (both_right _ _ w)

  lines-above : all (λ i. implies (leb s.shape.l i) (no (used (get_or s.lines i 0)))) (length s.lines) ≡ true
  unfolding whole
  lines-above = both_left _ _ (both_left _ _ (both_right _ _ (both_right _ _ w)))

  trackers-above : all (λ x. implies (leb s.shape.t x) (is_idle (tracker_at s.trackers x))) (length s.trackers) ≡ true
  unfolding whole
  trackers-above = both_right _ _ (both_left _ _ (both_right _ _ (both_right _ _ w)))

  lines_ok : all (line_whole s) s.shape.l ≡ true
  unfolding whole
  lines_ok = both_left _ _ (both_right _ _ (both_right _ _ (both_right _ _ w)))

  trackers-ok : all (tracker_whole s) s.shape.t ≡ true
  unfolding whole
  trackers-ok = both_right _ _ (both_right _ _ (both_right _ _ (both_right _ _ w)))

  free-above : (i : ℕ) → s.shape.l ≤ i → used (at s.lines i) ≡ false
  free-above i q = ⊎_elim
      (λ p. no_true _ (implies_true _ _ (all-at (λ j. implies (leb s.shape.l j) (no (used (get_or s.lines j 0)))) (length s.lines) lines-above i p) (le-leb _ _ q)))
      (λ p. ap used (get_or-eq_default s.lines 0 p) ∙ free-used) (lt-or-ge i (length s.lines))

  idle-above : (x : ℕ) → s.shape.t ≤ x → is_idle (tracker_at s.trackers x) ≡ true
  idle-above x q = ⊎_elim
      (λ p. implies_true _ _ (all-at (λ y. implies (leb s.shape.t y) (is_idle (tracker_at s.trackers y))) (length s.trackers) trackers-above x p) (le-leb _ _ q))
      (λ p. ap is_idle (get_or-eq_default s.trackers idle p)) (lt-or-ge x (length s.trackers))

  used_low : (i : ℕ) → used (at s.lines i) ≡ true → i < s.shape.l
  used_low i u = ⊎_elim (λ q. q) (λ q. absurd (not-both-ways u (free-above i q))) (lt-or-ge i s.shape.l)

  line-facts : (i b : ℕ) → Has s.lines i b
      → both (both (ltb b (blocks_of top n)) (eqb (line_of s.lines l b) i))
      (implies (held (at s.lines i)) (both (leb (holder (at s.lines i)) t) (keeps top n (tracker_at s.trackers (holder (at s.lines i) - 1)) b))) ≡ true
  unfolding line_whole
  line-facts i b h = rw h.is_block at (implies_true _ _ (all-at (line_whole s) l lines_ok i (used_low i h.is-used)) h.is-used)

  tracker-facts : (x : ℕ) → x < t
      → both (both (implies (no (is_idle (tracker_at s.trackers x))) (ltb (tracker_at s.trackers x).group (groups n)))
      (phase_whole top (tracker_at s.trackers x).write (tracker_at s.trackers x).bottom (tracker_at s.trackers x).phase))
      (all (λ e. level_whole s x (tracker_at s.trackers x) (suc e)) top) ≡ true
  unfolding tracker_whole
  tracker-facts x q = all-at (tracker_whole s) t trackers-ok x q

  -- of tracker x and level e + 1, whose block has its line here
  module _ (x e : ℕ) (xl : x < t) (el : e < top) where
    abbrev block : ℕ
    block = (claims_of n s.trackers x).block (suc e)

    abbrev line : ℕ
    line = line_of s.lines l block

    level-facts : both (implies (asks_at (tracker_at s.trackers x).phase (suc e)) (ltb line l))
        (implies (both (keeps_at (tracker_at s.trackers x).phase (suc e)) (ltb line l)) (eqb (holder (at s.lines line)) (x + 1))) ≡ true
    unfolding level_whole
    level-facts = all-at (λ k. level_whole s x (tracker_at s.trackers x) (suc k)) top (both_right _ _ (tracker-facts x xl)) e el

    asked-lt : (claims_of n s.trackers x).asks (suc e) ≡ true → line < l
    asked-lt h = ltb-true _ _ (implies_true _ _ (both_left _ _ level-facts) h)

    kept-holder : (claims_of n s.trackers x).keeps (suc e) ≡ true → line < l → holder (at s.lines line) ≡ x + 1
    kept-holder h q = eqb-true _ _ (implies_true _ _ (both_right _ _ level-facts) (both_true _ _ h (lt-ltb _ _ q)))

  apart-facts : Apart (blocks_of top n) l s.lines
  apart-facts = record {
    long = leb-true _ _ (both_left _ _ part2);
    above = free-above;
    exists = λ i b h. ltb-true _ _ (both_left _ _ (both_left _ _ (line-facts i b h)));
    one = λ i j b h h'. sym (eqb-true _ _ (both_right _ _ (both_left _ _ (line-facts i b h)))) ∙ eqb-true _ _ (both_right _ _ (both_left _ _ (line-facts j b h')));
  }

  lined-facts : LinedBy s.shape s.trackers s.lines
  lined-facts = record {
    apart = apart-facts;
    named = λ i b h p. let r = implies_true _ _ (both_right _ _ (line-facts i b h)) (holder-held _ p) in
        (leb-true _ _ (both_left _ _ r), keeps-kept top n _ b (both_right _ _ r));
    marked = λ x e i xl el k h. let q : line x e xl el ≡ i = line_of-is apart-facts i _ h in
        subst (λ (j : ℕ). holder (at s.lines j) ≡ x + 1) q (kept-holder x e xl el k (rw q (low apart-facts i _ h)));
    in-line = λ x e xl el k. let q = asked-lt x e xl el k in
        record { line = line x e xl el; has-it = line_of-has s.lines l _ q; is-holder = kept-holder x e xl el (asks-keeps (tracker_at s.trackers x).phase (suc e) k) q };
  }

  tracked-facts : Tracked top n t s.trackers
  unfolding no
  tracked-facts = record {
    long = leb-true _ _ (both_right _ _ part2);
    above = idle-above;
    group-lt = λ x e. group x e (lt-or-ge x t);
    phase-ok = λ x. ⊎_elim (λ q. both_right _ _ (both_left _ _ (tracker-facts x q))) (λ q. idle-ok top (tracker_at s.trackers x).write (tracker_at s.trackers x).bottom (tracker_at s.trackers x).phase (idle-above x q)) (lt-or-ge x t);
  }
    where
      no-is : {b : Bool} → b ≡ false → no b ≡ true
      no-is {b} e = rw e

      group : (x : ℕ) → is_idle (tracker_at s.trackers x) ≡ false → (x < t) ⊎ (t ≤ x) → (tracker_at s.trackers x).group < groups n
      group x e (inl q) = ltb-true _ _ (implies_true _ _ (both_left _ _ (both_left _ _ (tracker-facts x q))) (no-is e))
      group x e (inr q) = absurd (not-both-ways (idle-above x q) e)

pub whole-facts : (s : State) → whole s ≡ true → Whole s
whole-facts s w = record {
  limits-ok = both_left _ _ (part1 s w);
  hand-lt = ltb-true _ _ (both_right _ _ (part1 s w));
  lined = lined-facts s w;
  tracked = tracked-facts s w;
}

module _ (s : State) (f : Whole s) where
  line-back : (i : ℕ) → line_whole s i ≡ true
  unfolding line_whole
  line-back i = implied _ _ (λ u.
      let h : Has s.lines i (block_of (at s.lines i)) = record { is-used = u; is_block = refl } in
      both_true _ _ (both_true _ _ (lt-ltb _ _ (f.lined.apart.exists i _ h)) (eq-eqb _ _ (line_of-is f.lined.apart i _ h)))
      (implied _ _ (λ p. let r = f.lined.named i _ h (held-holder _ p) in
      both_true _ _ (le-leb _ _ r.0) (kept-keeps (top_of s.shape) s.shape.n _ _ r.1))))

  level-back : (x e : ℕ) → x < s.shape.t → e < top_of s.shape → level_whole s x (tracker_at s.trackers x) (suc e) ≡ true
  unfolding level_whole
  level-back x e xl el =
      both_true _ _
      (implied _ _ (λ k. let h = f.lined.in-line x e xl el k in rw (line_of-is f.lined.apart h.line _ h.has-it) (lt-ltb _ _ (low f.lined.apart h.line _ h.has-it))))
      (implied _ _ (λ k. eq-eqb _ _ (f.lined.marked x e _ xl el (both_left _ _ k) (line_of-has s.lines s.shape.l _ (ltb-true _ _ (both_right _ _ k))))))

  tracker-back : (x : ℕ) → x < s.shape.t → tracker_whole s x ≡ true
  unfolding tracker_whole
  tracker-back x q =
      both_true _ _ (both_true _ _ (implied _ _ (λ p. lt-ltb _ _ (f.tracked.group-lt x (no_true _ p)))) (f.tracked.phase-ok x))
      (all-is _ _ (λ e el. level-back x e q el))

  no-used : (i : ℕ) → s.shape.l ≤ i → no (used (at s.lines i)) ≡ true
  unfolding no
  no-used i q = rw (f.lined.apart.above i q)

  pub facts-whole : whole s ≡ true
  unfolding whole
  facts-whole =
      both_true _ _ (both_true _ _ f.limits-ok (lt-ltb _ _ f.hand-lt))
      (both_true _ _ (both_true _ _ (le-leb _ _ f.lined.apart.long) (le-leb _ _ f.tracked.long))
      (both_true _ _ (both_true _ _
      (all-is _ _ (λ i q. implied _ _ (λ p. no-used i (leb-true _ _ p))))
      (all-is _ _ (λ x q. implied _ _ (λ p. f.tracked.above x (leb-true _ _ p)))))
      (both_true _ _ (all-is _ _ (λ i q. line-back i)) (all-is _ _ (λ x q. tracker-back x q)))))

-- nor does a whole state ask for the hand, but that it is at a line
pub hand-whole : (shape : Shape) (h : ℕ) (lines : List ℕ) (ts : List Tracker) → limits shape ≡ true → h < shape.l → LinedBy shape ts lines → Tracked (top_of shape) shape.n shape.t ts
    → Whole (record { shape = at_hand shape h; lines = lines; trackers = ts })
hand-whole shape h lines ts lim hl v k = record {
  limits-ok = limits-hand shape h ∙ lim;
  hand-lt = hl;
  lined = subst (λ (b : ℕ). Lined (blocks_of (suc b) shape.n) shape.l shape.t (suc b) (claims_of shape.n ts) lines) (sym (below-hand shape h)) v;
  tracked = subst (λ (b : ℕ). Tracked (suc b) shape.n shape.t ts) (sym (below-hand shape h)) k;
}
