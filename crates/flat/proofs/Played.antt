-- A step of a busy tracker in a whole state whose rows mean the row: it says, leaves and does to the row what its course says.
use mathlib.Core.Path.{◌≡◌, refl, sym, ap, ◌∙◌, subst}
use mathlib.Core.Bool.{Bool, true, false}
use mathlib.Core.List.{List}
use mathlib.Core.Logic.{⊎_elim}
use Prim.Native.Nat.{ℕ, zero, suc, ◌-◌, ◌<◌, ◌≤◌}
use native.Mathlib.Omega.{arith}
use lib.Dec.{eqb, ltb}
use lib.ListN.{length, set}
use borrow.Author.Tests.{ltb-true, eq-eqb, eqb-true}
use Rattle.laws.specs.Choice.{pick, both, no as negated}
use Rattle.laws.specs.Scan.{some}
use Rattle.laws.proofs.Choice.{not-both-ways, true-or-false, both_left, both_right, both_true, no_true, same_truth}
use Rattle.laws.proofs.Splice.{lt-or-ge}
use Rattle.geometry.specs.declared.Shape.{Shape}
use Rattle.geometry.specs.Shape.{below_top, top_of}
use Rattle.geometry.specs.TagMemory.{index, block_on, block_over, blocks_of}
use Rattle.geometry.proofs.Levels.{index-0, index-lt}
use Rattle.tracker.specs.declared.Phase.{Phase}
use Rattle.tracker.specs.declared.Phase.TheVariants.{Idle, Probe, Top, Under, Set, Clear}
use Rattle.tracker.specs.declared.Tracker.{Tracker}
use Rattle.tracker.specs.Tracker.{is_idle, holds_at, level_of, asks_at, after_probe}
use Rattle.tracker.proofs.Phases.{idle-loose, holds-busy, asks-keeps, asks-holds, asks-above, asks-is}
use Rattle.line.specs.Word.{holder, held}
use Rattle.rules.specs.State.{State, Rows, tracker_at, lengths_right}
use Rattle.rules.specs.Whole.{holds, whole}
use Rattle.rules.specs.Step.{Turned, own_line, by_phase}
use Rattle.rules.proofs.Words.{held-holder}
use Rattle.laws.proofs.Some.{some_is, some-true}
use Rattle.rules.proofs.Lined.{at, Has, Kept, line_of-has}
use Rattle.rules.proofs.Whole.{claims_of, Whole, whole-facts, t-most}
use Rattle.rules.proofs.Placed.{place-loose}
use Rattle.rules.proofs.Situation.{Situation, group-ok, level-lt, few, small, own-has, one-holder, level-below, kept-holds, kept_top, top-unkept}
use Rattle.rules.proofs.Calls.{situation, rows}
use Rattle.rules.proofs.Ways.{top_held}
use Rattle.flat.specs.Flat.{Row, has_tag, others_have, changes_nothing, Course, course, says, row_by, tracker_by, some_holds}
use Rattle.flat.proofs.Contents.{Good}
use Rattle.flat.proofs.Contained.{View, Free, Holding, Contained}
use Rattle.flat.proofs.Does.{leaf_in, decides}
use Rattle.flat.proofs.Decides.{Ready, row_zero, leaf-row, probe-told, leaf-told}
use Rattle.flat.proofs.Stepped.{course_in, Stepped, one-step}
use Rattle.flat.proofs.Viewed.{view_of, Between, exists-is, has-lined, lined-is}
use Rattle.flat.proofs.Steps.{Relies, seen, Turns, turns-probe, turns-top, turns-map}
use Rattle.flat.proofs.StepsLeaf.{turns-leaf}
use Rattle.flat.proofs.StepsFinish.{turns-set, turns-clear}

-- the rows mean the row: what they contain, with the accesses under way, agrees with it
pub record Means (top n l : ℕ) (r : Rows) (ts : List Tracker) (row : Row) : Type 0 where
  pub good : Good (blocks_of top n) l r
  pub between : Between top n l r
  pub contained : Contained top ts row (view_of top n l r)

-- a step of tracker x, which is u, that takes course c on the row
pub record Plays (top n l x : ℕ) (ts : List Tracker) (row : Row) (u : Tracker) (c : Course) (o : Turned) : Type 0 where
  pub said-is : o.said ≡ says row u c
  pub tracker-is : o.tracker ≡ tracker_by u o.tracker.transfers c
  pub means : Means top n l o.rows (set ts x o.tracker) (row_by row u c)

-- what is said depends on the row where the access ends, and there on its group alone
says-like : (row row' : Row) (u : Tracker) (c : Course) → (c ≡ Course.ends → row' u.group ≡ row u.group) → says row' u c ≡ says row u c
says-like row row' u Course.waits e = refl
says-like row row' u (Course.goes p) e = refl
says-like row row' u Course.ends e = rw (e refl)
says-like row row' u (Course.takes p) e = refl
says-like row row' u Course.finishes e = refl

-- it ends only by the test
ends_by : (b : Bool) (p : Phase) → pick b Course.ends (Course.goes p) ≡ Course.ends → b ≡ true
ends_by true p e = refl
ends_by false p e = absurd (let z : ◌≡◌ {A = ℕ} 0 1 = cc in omega arith)

never_ends : (b : Bool) (p : Phase) → pick b (Course.goes p) Course.finishes ≡ Course.ends → ⊥
never_ends true p e = let z : ◌≡◌ {A = ℕ} 0 1 = cc in omega arith
never_ends false p e = let z : ◌≡◌ {A = ℕ} 0 1 = cc in omega arith

-- the course asks only for the line of its own level
course-found : (below : ℕ) (row : Row) (f f' : ℕ → Bool) (held : Bool) (u : Tracker) (p : Phase) → f (level_of p) ≡ f' (level_of p) → course below row f held u p ≡ course below row f' held u p
course-found below row f f' held u Idle e = refl
course-found below row f f' held u (Probe zero) e = rw e
course-found below row f f' held u (Probe (suc d)) e = rw e
course-found below row f f' held u Top e = refl
course-found below row f f' held u (Under zero) e = refl
course-found below row f f' held u (Under (suc d)) e = refl
course-found below row f f' held u (Set d) e = refl
course-found below row f f' held u (Clear d) e = refl

module _ (s : State) (bytes memory : List ℕ) (w : whole s ≡ true) (len : lengths_right s.shape bytes memory ≡ true) (row : Row)
    (M : Means (top_of s.shape) s.shape.n s.shape.l (rows s bytes memory w len) s.trackers row) where
  abbrev shape : Shape
  shape = s.shape

  abbrev n : ℕ
  n = shape.n

  abbrev l : ℕ
  l = shape.l

  abbrev t : ℕ
  t = below_top shape

  abbrev ts : List Tracker
  ts = s.trackers

  abbrev r : Rows
  r = rows s bytes memory w len

  abbrev view : Rows → View
  view rr = view_of (top_of shape) n l rr

  f : Whole s
  f = whole-facts s w

  -- a holder is one of the trackers, and its group exists
  holder-lt : (y : ℕ) → holds_at (tracker_at ts y).phase ≡ true → y < shape.t
  holder-lt y h = ⊎_elim (λ q. q) (λ q. absurd (not-both-ways h (idle-loose (tracker_at ts y).phase (f.tracked.above y q)))) (lt-or-ge y shape.t)

  pub holding : Holding (top_of shape) ts (view r)
  holding = record {
    one = λ y z hy hz q. one-holder shape ts f.lined f.tracked y z (holder-lt y hy) (holder-lt z hz) hy hz (ap (block_on (top_of shape) n) q);
    asked = asked;
  }
    where
      asked : (y e : ℕ) → e ≤ top_of shape → asks_at (tracker_at ts y).phase e ≡ true → (view r).lined e (index e (tracker_at ts y).group) ≡ true
      asked y zero q a = absurd (let z = asks-above (tracker_at ts y).phase 0 a in omega arith)
      asked y (suc e) q a =
          let h = asks-holds (tracker_at ts y).phase (suc e) a in
          let o = f.lined.in-line y e (holder-lt y h) q a in
          has-lined (top_of shape) n l r M.good (suc e) (index (suc e) (tracker_at ts y).group) o.line
          (exists-is (top_of shape) n (suc e) _ q (index-lt (suc e) n _ (f.tracked.group-lt y (holds-busy (tracker_at ts y).phase h)))) o.has-it

  module _ (x : ℕ) (xl : x < shape.t) (busy : is_idle (tracker_at ts x) ≡ false) where
    abbrev sit : Situation
    sit = situation s bytes memory w len x xl busy

    abbrev u : Tracker
    u = tracker_at ts x

    abbrev top_block : ℕ
    top_block = block_over (top_of shape) n u.group

    xlong : x < length ts
    xlong = omega (arith, f.tracked.long)

    relies : Relies shape x u r
    relies = record {
      good = M.good;
      between = M.between;
      small = small sit;
      place-lt = (place-loose shape r f.lined (few sit) sit.rows_fit_lem).0;
      group-lt = group-ok sit;
      value-lt = M.contained.agrees.small x;
      mark-lt = omega (arith, t-most shape f.limits-ok);
      low = level-lt sit;
      own = own;
    }
      where
        own : (e : ℕ) → e ≤ top_of shape → asks_at u.phase e ≡ true → Has r.lines (own_line shape u r e) (block_over e n u.group)
        own zero q a = absurd (let z = asks-above u.phase 0 a in omega arith)
        own (suc e) q a = own-has sit e q a

    found_here : Ready t ts row (view r) x
    found_here = record { contained = M.contained; holding = holding; x_lt = xlong }

    -- a holder of its top block keeps it
    holds_kept : (y : ℕ) → holds_at (tracker_at ts y).phase ≡ true → block_over (top_of shape) n (tracker_at ts y).group ≡ top_block → Kept (top_of shape) (claims_of n ts y) top_block
    holds_kept y h q = record {
      below = t;
      below-lt = omega arith;
      is-kept = asks-keeps (tracker_at ts y).phase (top_of shape) (asks-is (tracker_at ts y).phase (top_of shape) h (level-below shape ts f.lined f.tracked y));
      its-block = q;
    }

    free : top_held shape u r ≡ false → Free (top_of shape) ts (index (top_of shape) u.group)
    free e y h q = top-unkept sit e y (holder-lt y h) (holds_kept y h (ap (block_on (top_of shape) n) q))

    -- somebody holds the block exactly if its line names a holder
    held-is : top_held shape u r ≡ some_holds (top_of shape) n shape.t ts top_block
    unfolding some_holds holds
    held-is = same_truth _ _ named some_one
      where
        named : top_held shape u r ≡ true → some (λ y. both (holds_at (tracker_at ts y).phase) (eqb (block_over (top_of shape) n (tracker_at ts y).group) top_block)) shape.t ≡ true
        named e =
            let i = own_line shape u r (top_of shape) in
            let p : 0 < holder (at r.lines i) = held-holder _ (both_right _ _ e) in
            let o = f.lined.named i top_block (line_of-has r.lines l top_block (ltb-true _ _ (both_left _ _ e))) p in
            let y = holder (at r.lines i) - 1 in
            let yl : y < shape.t = let z = o.0 in omega arith in
            some-true _ shape.t y yl (both_true _ _ (kept-holds shape ts f.lined f.tracked (top_of shape) u.group y (group-ok sit) o.1)
            (eq-eqb _ _ (kept_top shape ts f.lined f.tracked (top_of shape) u.group y (group-ok sit) o.1)))

        some_one : some (λ y. both (holds_at (tracker_at ts y).phase) (eqb (block_over (top_of shape) n (tracker_at ts y).group) top_block)) shape.t ≡ true → top_held shape u r ≡ true
        some_one e =
            let o = some_is _ shape.t e in
            let h = both_left _ _ o.holds-there in
            ⊎_elim (λ z. z) (λ z. absurd (top-unkept sit z o.one o.one-lt (holds_kept o.one h (eqb-true _ _ (both_right _ _ o.holds-there))))) (true-or-false (top_held shape u r))

    -- what each phase does on the view
    turns : (p : Phase) → u.phase ≡ p → Turns shape r u p (by_phase shape x u r p)
    turns Idle ph = absurd (not-both-ways (rw ph) busy)
    turns (Probe d) ph = turns-probe relies d (rw ph at (level-lt sit))
    turns Top ph = turns-top relies
    turns (Under zero) ph = turns-leaf relies ph
    turns (Under (suc d)) ph = turns-map relies d ph
    turns (Set d) ph = turns-set relies d ph
    turns (Clear d) ph = turns-clear relies d ph

    abbrev out : Turned
    out = by_phase shape x u r u.phase

    T : Turns shape r u u.phase out
    T = turns u.phase refl

    stepped : Stepped t ts row (view r) (view out.rows) (top_held shape u r) x out.tracker.transfers
    stepped = one-step t ts row (view r) (view out.rows) M.contained holding x xlong busy (top_held shape u r) free T.does out.tracker.transfers

    abbrev c : Course
    c = course_in t ts row (view r) (top_held shape u r) x

    abbrev lined : ℕ → Bool
    lined e = (view r).lined e (index e u.group)

    -- where it ends, it saw the row's group
    told : (p : Phase) → u.phase ≡ p → decides t (view r) (top_held shape u r) u p ≡ course t row lined (top_held shape u r) u p → course t row lined (top_held shape u r) u p ≡ Course.ends
        → seen (view r) u p u.group ≡ row u.group
    told Idle ph d e = absurd (let z : ◌≡◌ {A = ℕ} 0 1 = cc in omega arith)
    told (Probe zero) ph d e =
        probe-told found_here (ap ((view r).lined 0) (sym (index-0 u.group)) ∙ both_left _ _ (ends_by _ (after_probe (top_of shape) 0) (d ∙ e)))
    told (Probe (suc k)) ph d e = sym (row_zero found_here k (no_true _ (both_left _ _ (both_right _ _ (ends_by _ (after_probe (top_of shape) (suc k)) e)))))
    told Top ph d e = go (top_held shape u r) e
      where
        go : (h : Bool) → pick h Course.waits (pick (both (negated (has_tag row u t)) (changes_nothing row u)) Course.ends (Course.goes (Under t))) ≡ Course.ends → 0 ≡ row u.group
        go true e = absurd (let z : ◌≡◌ {A = ℕ} 0 1 = cc in omega arith)
        go false e = sym (row_zero found_here t (no_true _ (both_left _ _ (ends_by _ (Under t) e))))
    told (Under zero) ph d e = go u.write refl
      where
        go : (b : Bool) → u.write ≡ b → pick b (leaf_in (view r) u u.group) ((view r).group u.group) ≡ row u.group
        go true q = leaf-row found_here ph u.group refl
        go false q = leaf-told found_here ph q
    told (Under (suc k)) ph d e = sym (row_zero found_here k (no_true _ (both_left _ _ (ends_by _ (Under k) e))))
    told (Set k) ph d e = absurd (never_ends (both (ltb k t) (negated (others_have row u k))) (Set (suc k)) e)
    told (Clear k) ph d e = absurd (never_ends (both (ltb k t) (negated (others_have row u k))) (Clear (suc k)) e)

    -- the course that the flat machine gives: a block is in a line, and its top block is held
    course-is : course t row (λ e. ltb (own_line shape u r e) l) (some_holds (top_of shape) n shape.t ts top_block) u u.phase ≡ c
    course-is = rw (sym held-is) (course-found t row (λ e. ltb (own_line shape u r e) l) lined (top_held shape u r) u u.phase
        (sym (lined-is (top_of shape) n l r (level_of u.phase) (index (level_of u.phase) u.group) (let z = level-lt sit in omega arith) (index-lt (level_of u.phase) n u.group (group-ok sit)))))

    pub plays-by_phase : Plays (top_of shape) n l x ts row u (course t row (λ e. ltb (own_line shape u r e) l) (some_holds (top_of shape) n shape.t ts top_block) u u.phase) out
    plays-by_phase = rw course-is (record {
      said-is = T.decided.said-is ∙ ap (says (seen (view r) u u.phase) u) stepped.decided
          ∙ says-like row (seen (view r) u u.phase) u c (told u.phase refl stepped.decided);
      tracker-is = tracker-is;
      means = record {
        good = T.good;
        between = T.between;
        contained = subst (λ (z : Tracker). Contained (top_of shape) (set ts x z) (row_by row u c) (view out.rows)) (sym tracker-is) stepped.contained;
      };
    })
      where
        tracker-is : out.tracker ≡ tracker_by u out.tracker.transfers c
        tracker-is = T.decided.tracker-is ∙ ap (tracker_by u out.tracker.transfers) stepped.decided
