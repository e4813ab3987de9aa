-- What a step finds, and what it may rely on: its own lines, the blocks that nobody keeps, and that two trackers that hold one top block are one.
use mathlib.Core.Path.{◌≡◌, sym, ap, ◌∙◌, subst}
use mathlib.Core.Bool.{true, false, Bool}
use mathlib.Core.List.{List}
use Prim.Native.Nat.{ℕ, suc, ◌+◌, ◌*◌, ◌<◌, ◌≤◌}
use native.Mathlib.Nat.{mul_comm}
use native.Mathlib.Omega.{arith}
use lib.ListN.{length, length-replicate}
use borrow.Author.Tests.{lt-ltb, le-ltb}
use Rattle.geometry.specs.declared.Shape.{Shape}
use Rattle.geometry.specs.Shape.{below_top, top_of}
use Rattle.geometry.specs.TagMemory.{groups, index, block_on, block_over, blocks_of, leaf_of}
use Rattle.geometry.proofs.Levels.{index-lt, index-above, block_on-lt, block_on-level, block_on-same, blocks_of-most}
use Rattle.laws.proofs.Choice.{not-both-ways, both_true, pick-by, both_left}
use Rattle.tracker.specs.declared.Tracker.{Tracker}
use Rattle.tracker.specs.Tracker.{is_idle, holds_at, level_of, asks_at, keeps_at, finish_at}
use Rattle.tracker.proofs.Phases.{holds-busy, keeps-holds, asks-is, keeps-under, asks-under, keeps-finish, asks-finish}
use Rattle.line.specs.Word.{holder, line_blocks}
use Rattle.rules.specs.State.{Rows, tracker_at}
use Rattle.rules.specs.Whole.{limits, phase_whole}
use Rattle.rules.specs.Place.{rows_fit, Brought, bring_in, create}
use Rattle.rules.specs.Step.{own_line, bit_in, zeros, under_bit}
use Rattle.rules.proofs.Words.{holder-held}
use Rattle.rules.proofs.Lined.{at, Has, Held, Kept, Unkept, low, line_of-is}
use Rattle.rules.proofs.Whole.{claims_of, LinedBy, Tracked, phase-level, in_limits-of, l-least}
use Rattle.rules.proofs.Placed.{Brings, brings, creates}
use Rattle.rules.proofs.Ways.{top_held, leaf-over}
use lib.Dec.{eqb, ltb}
use Rattle.laws.specs.Choice.{both}
use Rattle.tracker.specs.declared.Phase.{Phase}
use Rattle.tracker.specs.declared.Phase.TheVariants.{Under}

-- a group's block of each level is one of the device's, and a line has room for its number
pub block-lt : (shape : Shape) (e g : ℕ) → e ≤ top_of shape → g < groups shape.n → block_over e shape.n g < blocks_of (top_of shape) shape.n
block-lt shape e g el q = block_on-lt shape.n e (suc (top_of shape)) (index e g) (omega arith) (index-lt e shape.n g q)

pub blocks-small : (shape : Shape) → limits shape ≡ true → blocks_of (top_of shape) shape.n < line_blocks
blocks-small shape lim = omega (arith, blocks_of-most (top_of shape) shape.n (in_limits-of shape lim))

-- there are more lines than the trackers can keep
pub lines-enough : (shape : Shape) → limits shape ≡ true → shape.t * top_of shape < shape.l
lines-enough shape lim = rw (mul_comm shape.t (top_of shape)) (omega (arith, l-least shape lim))

-- the lines and the trackers of a state
module _ (shape : Shape) (ts : List Tracker) {lines : List ℕ} (v : LinedBy shape ts lines) (k : Tracked (top_of shape) shape.n shape.t ts) where
  abbrev block_at : ℕ → ℕ → ℕ
  block_at y e = block_over e shape.n (tracker_at ts y).group

  abbrev top_block : ℕ → ℕ
  top_block y = block_at y (top_of shape)

  pub level-below : (y : ℕ) → level_of (tracker_at ts y).phase < top_of shape
  level-below y = phase-level (below_top shape) (tracker_at ts y).write (tracker_at ts y).bottom (tracker_at ts y).phase (k.phase-ok y)

  -- a holder's top block is in a line that names it
  pub top-held : (y : ℕ) → y < shape.t → holds_at (tracker_at ts y).phase ≡ true → Held lines y (top_block y)
  top-held y yl h = v.in-line y (below_top shape) yl (omega arith) (asks-is (tracker_at ts y).phase (top_of shape) h (level-below y))

  -- two trackers that hold one top block are one
  pub one-holder : (y z : ℕ) → y < shape.t → z < shape.t → holds_at (tracker_at ts y).phase ≡ true → holds_at (tracker_at ts z).phase ≡ true → top_block y ≡ top_block z → y ≡ z
  one-holder y z yl zl hy hz q =
      let a = top-held y yl hy in
      let b = top-held z zl hz in
      let i : a.line ≡ b.line = v.apart.one a.line b.line (top_block z) (subst (Has lines a.line) q a.has-it) b.has-it in
      let w : holder (at lines b.line) ≡ y + 1 = subst (λ (j : ℕ). holder (at lines j) ≡ y + 1) i a.is-holder in
      omega (arith, b.is-holder)

  -- a block over group g that tracker y keeps is of this level, and over y's group too
  module _ (e g y : ℕ) (gl : g < groups shape.n) (o : Kept (top_of shape) (claims_of shape.n ts y) (block_over e shape.n g)) where
    pub kept-holds : holds_at (tracker_at ts y).phase ≡ true
    kept-holds = keeps-holds (tracker_at ts y).phase (suc o.below) o.is-kept

    own-group : (tracker_at ts y).group < groups shape.n
    own-group = k.group-lt y (holds-busy (tracker_at ts y).phase kept-holds)

    pub kept-level : suc o.below ≡ e
    kept-level = block_on-level shape.n (suc o.below) e (index (suc o.below) (tracker_at ts y).group) (index e g)
        (index-lt (suc o.below) shape.n (tracker_at ts y).group own-group) (index-lt e shape.n g gl) o.its-block

    pub kept_at : keeps_at (tracker_at ts y).phase e ≡ true
    kept_at = subst (λ (d : ℕ). keeps_at (tracker_at ts y).phase d ≡ true) kept-level o.is-kept

    pub kept_top : top_block y ≡ block_over (top_of shape) shape.n g
    kept_top =
        let z : block_at y e ≡ block_over e shape.n g = subst (λ (d : ℕ). block_at y d ≡ block_over e shape.n g) kept-level o.its-block in
        let i : index e (tracker_at ts y).group ≡ index e g = block_on-same shape.n e _ _ z in
        let el : e ≤ top_of shape = omega (arith, kept-level, o.below-lt) in
        ap (block_on (top_of shape) shape.n) (index-above e (top_of shape) (tracker_at ts y).group g el i)

-- what a step finds, whole: the shape, in its limits and its hand at a line, the trackers, the rows; and the busy tracker that steps, x, which is u
pub record Situation : Type 0 where
  pub shape : Shape
  pub x : ℕ
  pub ts : List Tracker
  pub r : Rows
  pub u : Tracker
  pub limits-ok : limits shape ≡ true
  pub lined : LinedBy shape ts r.lines
  pub tracked : Tracked (top_of shape) shape.n shape.t ts
  pub x_lt : x < shape.t
  pub hand-lt : shape.hand < shape.l
  pub rows_fit_lem : rows_fit shape.l r.lines r.bytes ≡ true
  pub is-u : tracker_at ts x ≡ u
  pub busy : is_idle u ≡ false

pub zeros-length : length zeros ≡ 64
zeros-length = length-replicate {A = ℕ} 64 0

module _ (sit : Situation) where
  abbrev shape : Shape
  shape = sit.shape

  abbrev n : ℕ
  n = shape.n

  abbrev u : Tracker
  u = sit.u

  abbrev lines : List ℕ
  lines = sit.r.lines

  pub group-ok : u.group < groups n
  group-ok = subst (λ (w : Tracker). w.group < groups n) sit.is-u (sit.tracked.group-lt sit.x (ap is_idle sit.is-u ∙ sit.busy))

  pub phase-was : phase_whole (top_of shape) u.write u.bottom u.phase ≡ true
  phase-was = subst (λ (z : Tracker). phase_whole (top_of shape) z.write z.bottom z.phase ≡ true) sit.is-u (sit.tracked.phase-ok sit.x)

  -- its phase is of a level below the top
  pub level-lt : level_of u.phase < top_of shape
  level-lt = phase-level (below_top shape) u.write u.bottom u.phase phase-was

  pub few : shape.t * top_of shape < shape.l
  few = lines-enough shape sit.limits-ok

  pub small : blocks_of (top_of shape) n < line_blocks
  small = blocks-small shape sit.limits-ok

  -- its own line of level e + 1, which its phase asks for
  module _ (e : ℕ) (el : e < top_of shape) (asks : asks_at u.phase (suc e) ≡ true) where
    pub own_held : Held lines sit.x (block_over (suc e) n u.group)
    own_held = subst (λ (z : Tracker). asks_at z.phase (suc e) ≡ true → Held lines sit.x (block_over (suc e) n z.group)) sit.is-u
        (sit.lined.in-line sit.x e sit.x_lt el) asks

    own_is : own_line shape u sit.r (suc e) ≡ own_held.line
    own_is = line_of-is sit.lined.apart own_held.line (block_over (suc e) n u.group) own_held.has-it

    pub own-lt : own_line shape u sit.r (suc e) < shape.l
    own-lt = rw own_is (low sit.lined.apart own_held.line (block_over (suc e) n u.group) own_held.has-it)

    pub own-has : Has lines (own_line shape u sit.r (suc e)) (block_over (suc e) n u.group)
    own-has = rw own_is own_held.has-it

    pub own-holder : holder (at lines (own_line shape u sit.r (suc e))) ≡ sit.x + 1
    own-holder = rw own_is own_held.is-holder

  -- its line of a level that it keeps, if there is one, names it
  pub kept-holder : (e i : ℕ) → e < top_of shape → keeps_at u.phase (suc e) ≡ true → Has lines i (block_over (suc e) n u.group) → holder (at lines i) ≡ sit.x + 1
  kept-holder e i el = subst (λ (z : Tracker). keeps_at z.phase (suc e) ≡ true → Has lines i (block_over (suc e) n z.group) → holder (at lines i) ≡ sit.x + 1) sit.is-u
      (sit.lined.marked sit.x e i sit.x_lt el)

  -- what bringing a block in, or creating it, gives here
  abbrev pub BringsIn : ℕ → Brought → Type 0
  BringsIn b o = Brings shape (blocks_of (top_of shape) n) (top_of shape) (claims_of n sit.ts) sit.r b o

  -- none of the trackers keeps block b
  abbrev pub NobodyKeeps : ℕ → Type 0
  NobodyKeeps b = Unkept shape.t (top_of shape) (claims_of n sit.ts) b

  -- nobody keeps its block of a level that it does not keep, while it holds its top block
  pub own-unkept : holds_at u.phase ≡ true → (e : ℕ) → keeps_at u.phase e ≡ false → NobodyKeeps (block_over e n u.group)
  own-unkept h e not-kept y yl o =
      let top_one : block_over (top_of shape) n (tracker_at sit.ts y).group ≡ block_over (top_of shape) n (tracker_at sit.ts sit.x).group =
      kept_top shape sit.ts sit.lined sit.tracked e u.group y group-ok o ∙ ap (λ (z : Tracker). block_over (top_of shape) n z.group) (sym sit.is-u) in
      let q : y ≡ sit.x = one-holder shape sit.ts sit.lined sit.tracked y sit.x yl sit.x_lt
      (kept-holds shape sit.ts sit.lined sit.tracked e u.group y group-ok o) (ap (λ (z : Tracker). holds_at z.phase) sit.is-u ∙ h) top_one in
      let kept : keeps_at (tracker_at sit.ts sit.x).phase e ≡ true = subst (λ (z : ℕ). keeps_at (tracker_at sit.ts z).phase e ≡ true) q (kept_at shape sit.ts sit.lined sit.tracked e u.group y group-ok o) in
      not-both-ways (ap (λ (z : Tracker). keeps_at z.phase e) (sym sit.is-u) ∙ kept) not-kept

  -- nobody keeps its top block where its line names nobody, or it has none
  pub top-unkept : top_held shape u sit.r ≡ false → NobodyKeeps (block_over (top_of shape) n u.group)
  top-unkept free y yl o =
      let top = block_over (top_of shape) n u.group in
      let f : Held lines y top = subst (Held lines y) (kept_top shape sit.ts sit.lined sit.tracked (top_of shape) u.group y group-ok o)
      (top-held shape sit.ts sit.lined sit.tracked y yl (kept-holds shape sit.ts sit.lined sit.tracked (top_of shape) u.group y group-ok o)) in
      let i : own_line shape u sit.r (top_of shape) ≡ f.line = line_of-is sit.lined.apart f.line top f.has-it in
      let p : 0 < holder (at lines f.line) = omega (arith, f.is-holder) in
      not-both-ways (rw i (both_true _ _ (lt-ltb _ _ (low sit.lined.apart f.line top f.has-it)) (holder-held _ p))) free

  -- its block of a level, which nobody keeps, is brought in or created
  module _ (e : ℕ) (el : e ≤ top_of shape) (free : NobodyKeeps (block_over e n u.group)) where
    pub own-brings : BringsIn (block_over e n u.group) (bring_in shape (block_over e n u.group) sit.r)
    own-brings = brings shape sit.r (block_over e n u.group) sit.lined few sit.rows_fit_lem sit.hand-lt (block-lt shape e u.group el group-ok) small free

    pub own-creates : (y : List ℕ) → length y ≡ 64 → BringsIn (block_over e n u.group) (create shape (block_over e n u.group) y sit.r)
    own-creates = creates shape sit.r (block_over e n u.group) sit.lined few sit.rows_fit_lem sit.hand-lt (block-lt shape e u.group el group-ok) small free

  -- at Under d it keeps and asks for the levels above d, and nobody keeps its block of level d
  module _ (d : ℕ) (p : u.phase ≡ Under d) where
    pub under-lt : d < top_of shape
    under-lt = subst (λ (q : Phase). level_of q < top_of shape) p level-lt

    pub under-keeps : (e : ℕ) → keeps_at u.phase e ≡ ltb d e
    under-keeps e = ap (λ (q : Phase). keeps_at q e) p ∙ keeps-under d e

    pub under-asks : (e : ℕ) → asks_at u.phase e ≡ ltb d e
    under-asks e = ap (λ (q : Phase). asks_at q e) p ∙ asks-under d e

    pub under-own : own_line shape u sit.r (suc d) < shape.l
    under-own = own-lt d under-lt (under-asks (suc d) ∙ lt-ltb d (suc d) (omega arith))

    pub under-free : NobodyKeeps (block_over d n u.group)
    under-free = own-unkept (rw p) d (under-keeps d ∙ le-ltb d d (omega arith))

  -- so a map block at Under is brought in, or created
  module _ (d : ℕ) (p : u.phase ≡ Under (suc d)) where
    pub map-brings : BringsIn (block_over (suc d) n u.group) (under_bit shape (suc d) u sit.r)
    unfolding under_bit
    map-brings =
        let el : suc d ≤ top_of shape = omega (arith, under-lt (suc d) p) in
        pick-by (BringsIn (block_over (suc d) n u.group)) (both u.write (eqb (bit_in sit.r.bytes (own_line shape u sit.r (suc (suc d))) (suc d) u.group) 0))
        (λ _. own-creates (suc d) el (under-free (suc d) p) zeros zeros-length) (λ _. own-brings (suc d) el (under-free (suc d) p))

  -- and a leaf
  module _ (p : u.phase ≡ Under 0) where
    abbrev leaf : ℕ
    leaf = leaf_of u.group

    leaf-is : block_over 0 n u.group ≡ leaf
    leaf-is = leaf-over n u.group

    pub leaf-free : NobodyKeeps leaf
    leaf-free = subst NobodyKeeps leaf-is (under-free 0 p)

    pub leaf-brings : BringsIn leaf (bring_in shape leaf sit.r)
    leaf-brings = subst (λ (c : ℕ). BringsIn c (bring_in shape c sit.r)) leaf-is (own-brings 0 (omega arith) (under-free 0 p))

    pub leaf-creates : (y : List ℕ) → length y ≡ 64 → BringsIn leaf (create shape leaf y sit.r)
    leaf-creates y yl = subst (λ (c : ℕ). BringsIn c (create shape c y sit.r)) leaf-is (own-creates 0 (omega arith) (under-free 0 p) y yl)

  -- at Finish of the bit over its block of level d it keeps every level from 1 on, and asks for those above d
  module _ (s : Bool) (d : ℕ) (p : u.phase ≡ finish_at s d) where
    pub finish-level : d < top_of shape
    finish-level = pick-by (λ (q : Phase). level_of q < top_of shape → d < top_of shape) s (λ _ h. h) (λ _ h. h) (subst (λ (q : Phase). level_of q < top_of shape) p level-lt)

    pub finish-write : u.write ≡ true
    finish-write = pick-by (λ (q : Phase). phase_whole (top_of shape) u.write u.bottom q ≡ true → u.write ≡ true) s (λ _ h. both_left _ _ h) (λ _ h. both_left _ _ h)
        (subst (λ (q : Phase). phase_whole (top_of shape) u.write u.bottom q ≡ true) p phase-was)

    pub finish-keeps : (e : ℕ) → keeps_at u.phase e ≡ ltb 0 e
    finish-keeps e = ap (λ (q : Phase). keeps_at q e) p ∙ keeps-finish d e s

    pub finish-asks : (e : ℕ) → asks_at u.phase e ≡ ltb d e
    finish-asks e = ap (λ (q : Phase). asks_at q e) p ∙ asks-finish d e s

    pub finish-asks-own : asks_at u.phase (suc d) ≡ true
    finish-asks-own = finish-asks (suc d) ∙ lt-ltb d (suc d) (omega arith)
