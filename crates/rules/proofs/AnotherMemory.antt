-- A step with another memory: where that has the blocks that the step fetches, the step leaves the same but for the memory. So it reads nothing else of it.
use mathlib.Core.Path.{◌≡◌, refl, sym, ap, ◌∙◌}
use mathlib.Core.Bool.{Bool, true, false}
use mathlib.Core.List.{List, []}
use mathlib.Core.Logic.{◌⊎◌, inl, inr}
use Prim.Native.Nat.{ℕ, zero, suc, ◌<◌, ◌≤◌}
use native.Mathlib.Omega.{arith}
use native.Mathlib.Decide.{ℕ_discrete}
use lib.Dec.{eqb, ltb}
use lib.ListN.{length, set}
use borrow.Author.Tests.{lt-ltb, eqb-true, eqb-false}
use Rattle.laws.specs.Choice.{pick, both, no as negated}
use Rattle.laws.proofs.Choice.{not-both-ways, true-or-false, both-false-left, both-false-right}
use Rattle.laws.proofs.Splice.{lt-or-ge}
use Rattle.geometry.specs.declared.Shape.{Shape}
use Rattle.geometry.specs.Shape.{below_top, top_of}
use Rattle.geometry.specs.TagMemory.{length_of, leaf_of, block_over, block_place}
use Rattle.memory.specs.True.{block_at}
use Rattle.block.specs.Block.{block_or0, all_zero}
use Rattle.tracker.specs.declared.Phase.{Phase}
use Rattle.tracker.specs.declared.Phase.TheVariants.{Idle, Probe, Top, Under, Set, Clear}
use Rattle.tracker.specs.declared.Tracker.{Tracker}
use Rattle.tracker.specs.Transfers.{none}
use Rattle.tracker.specs.Tracker.{is_idle_at, finish_at}
use Rattle.tracker.specs.Answer.{read, done, same}
use Rattle.line.specs.Find.{line_of}
use Rattle.rules.specs.State.{Rows}
use Rattle.rules.specs.Copies.{Copy, fetches}
use Rattle.rules.specs.Place.{line_bytes, place_memory, place_copies, Brought, with_memory, with_lines, bring_in, create, bring_copies}
use Rattle.rules.specs.Step.{Turned, goes, turns_of, asks_zero, own_line, group_in, bit_in, lets_go, probe, descend, top, leaf_read, put_in, write_under1, zeros, new_leaf, write_under0, under_bit, under, drop_empty, finish_below, finish, by_phase}
use Rattle.rules.specs.Copied.{copies_at, Each}
use Rattle.rules.proofs.Placed.{bring-found, bring-placed, create-found, create-placed}
use Rattle.rules.proofs.Ways.{leaf-over, top_held, top-wait, top-on, leaf_read-is, write0-same, write0-create, leaf_write-0, leaf_write-1, under-read, under-write, under-map, bytes_with, put_rows, changes_above}
use Rattle.rules.proofs.Situation.{Situation, group-ok, block-lt}
use Rattle.rules.proofs.Copied.{bit_is0, copies-bring, p-lt, brought, created, carried, under-lt, line-above}
use Rattle.rules.proofs.Fetched.{placed-fetches, fetched-is}

-- what a step leaves, but for the memory; two steps that leave the same so
abbrev apart : Turned → Turned
apart o = record { said = o.said; shape = o.shape; tracker = o.tracker; rows = with_memory o.rows []; transfers = o.transfers }

pub data Alike (o o' : Turned) : Type 0 where
  alike : apart o ≡ apart o' → Alike o o'

pub same-but-memory : {o o' : Turned} → Alike o o' → apart o ≡ apart o'
same-but-memory (alike e) = e

alike-pick : (c : Bool) {a b a' b' : Turned} → Alike a a' → Alike b b' → Alike (pick c a b) (pick c a' b')
alike-pick true e f = e
alike-pick false e f = f

-- a rule that does not look at the memory of what it is handed
through : {A : Type 0} (unread : A → A) (F : A → Turned) → ((a : A) → Alike (F a) (F (unread a))) → (a a' : A) → unread a ≡ unread a' → Alike (F a) (F a')
through unread F f a a' e = alike (same-but-memory (f a) ∙ ap (λ (z : _). apart (F z)) e ∙ sym (same-but-memory (f a')))

abbrev rows_unread : Rows → Rows
rows_unread r = with_memory r []

abbrev unread : Brought → Brought
unread b = record { line = b.line; shape = b.shape; rows = rows_unread b.rows; copies = b.copies }

module _ (own : ℕ → ℕ) (t : Tracker) (b : Brought) where
  descend-unread : (x d : ℕ) → Alike (descend x own d t b) (descend x own d t (unread b))
  unfolding descend
  descend-unread x d = alike-pick (both (eqb (bit_in b.rows.bytes b.line d t.group) 0) (asks_zero t)) (alike refl) (alike refl)

  put_in-unread : Alike (put_in own t b) (put_in own t (unread b))
  unfolding put_in
  put_in-unread = alike-pick (all_zero (line_bytes (bytes_with t b) b.line)) (alike refl) (alike refl)

-- a write under bit 1, the leaf brought in
abbrev under_one : (own : ℕ → ℕ) → Tracker → Brought → Turned
under_one own t b = pick (eqb (group_in b.rows.bytes b.line t.group) t.value) (lets_go (same (turns_of t)) b.shape t b.copies own b.rows) (put_in own t b)

under_one-is : (shape : Shape) (t : Tracker) (r : Rows) → (bring_in shape (leaf_of t.group) r).line < shape.l → write_under1 shape t r ≡ under_one (own_line shape t r) t (bring_in shape (leaf_of t.group) r)
unfolding write_under1
under_one-is shape t r q = rw (lt-ltb _ _ q)

under_one-unread : (own : ℕ → ℕ) (t : Tracker) (b : Brought) → Alike (under_one own t b) (under_one own t (unread b))
under_one-unread own t b = alike-pick (eqb (group_in b.rows.bytes b.line t.group) t.value) (alike refl) (put_in-unread own t b)

-- a step with another memory
module _ (sit : Situation) (m : List ℕ) (long : length sit.r.memory ≡ length_of (top_of sit.shape) sit.shape.n) (long' : length m ≡ length_of (top_of sit.shape) sit.shape.n) where
  abbrev shape : Shape
  shape = sit.shape

  abbrev l : ℕ
  l = shape.l

  abbrev x : ℕ
  x = sit.x

  abbrev r : Rows
  r = sit.r

  abbrev u : Tracker
  u = sit.u

  abbrev r' : Rows
  r' = with_memory r m

  abbrev other : Situation
  other = record {
    shape = shape;
    x = x;
    ts = sit.ts;
    r = r';
    u = u;
    limits-ok = sit.limits-ok;
    lined = sit.lined;
    tracked = sit.tracked;
    x_lt = sit.x_lt;
    hand-lt = sit.hand-lt;
    rows_fit_lem = sit.rows_fit_lem;
    is-u = sit.is-u;
    busy = sit.busy;
  }

  abbrev SameAt : List Copy → Type 0
  SameAt cs = Each (λ b. block_at m b ≡ block_at r.memory b) (fetches cs)

  -- its block of each level, and that block's line
  abbrev block : ℕ → ℕ
  block d = block_over d shape.n u.group

  abbrev own : ℕ → ℕ
  own = own_line shape u r

  copies-alike : place_copies shape r' ≡ place_copies shape r
  unfolding place_copies
  copies-alike = refl

  bring-alike : (e : ℕ) → e ≤ top_of shape → SameAt (bring_copies shape (block e) r) → unread (bring_in shape (block e) r') ≡ unread (bring_in shape (block e) r)
  bring-alike e el h = go (lt-or-ge (own e) l)
    where
      go : (own e < l) ⊎ (l ≤ own e) → unread (bring_in shape (block e) r') ≡ unread (bring_in shape (block e) r)
      go (inl q) = rw (bring-found shape (block e) r' q, bring-found shape (block e) r q) refl
      go (inr q) =
          let bl = block-lt shape e u.group el (group-ok sit) in
          let has = (rw (placed-fetches sit (block e) q) at h).0 in
          let f : block_or0 (place_memory shape r') (block_place (block e)) ≡ block_or0 (place_memory shape r) (block_place (block e)) =
          fetched-is other long' (block e) bl q ∙ has ∙ sym (fetched-is sit long (block e) bl q) in
          rw (bring-placed shape (block e) r' q (p-lt sit), bring-placed shape (block e) r q (p-lt sit), copies-alike, f) refl

  create-alike : (b : ℕ) (y : List ℕ) → unread (create shape b y r') ≡ unread (create shape b y r)
  create-alike b y = go (lt-or-ge (line_of r.lines l b) l)
    where
      go : (line_of r.lines l b < l) ⊎ (l ≤ line_of r.lines l b) → unread (create shape b y r') ≡ unread (create shape b y r)
      go (inl q) = rw (create-found shape b y r' q, create-found shape b y r q) refl
      go (inr q) = rw (create-placed shape b y r' q (p-lt sit), create-placed shape b y r q (p-lt sit), copies-alike) refl

  same-probe : (d : ℕ) → Alike (probe shape d u r') (probe shape d u r)
  unfolding probe
  same-probe zero =
      alike-pick (ltb (own 0) l) (alike-pick u.write (alike-pick (eqb (group_in r.bytes (own 0) u.group) u.value) (alike refl) (alike refl)) (alike refl)) (alike refl)
  same-probe (suc d) = alike-pick (both (both (ltb (own (suc d)) l) (negated (top_held shape u r))) (both (bit_is0 shape u r d) (asks_zero u))) (alike refl) (alike refl)

  same-top : SameAt (copies_at shape u r Top) → Alike (top shape x u r') (top shape x u r)
  same-top h = go (true-or-false (top_held shape u r))
    where
      go : (top_held shape u r ≡ true) ⊎ (top_held shape u r ≡ false) → Alike (top shape x u r') (top shape x u r)
      go (inl q) = rw (top-wait shape x u r' q, top-wait shape x u r q) (alike refl)
      go (inr q) = rw (top-on shape x u r' q (brought other (block (top_of shape))).line-lt, top-on shape x u r q (brought sit (block (top_of shape))).line-lt)
          (through unread (descend x own (below_top shape) u) (λ b. descend-unread own u b x (below_top shape)) _ _ (bring-alike (top_of shape) (omega arith) (rw q at h)))

  -- Leaf
  module _ (ph : u.phase ≡ Under 0) where
    abbrev b : Brought
    b = bring_in shape (leaf_of u.group) r

    abbrev b' : Brought
    b' = bring_in shape (leaf_of u.group) r'

    same-leaf : both u.write (bit_is0 shape u r 0) ≡ false → SameAt (copies_at shape u r (Under 0)) → unread b' ≡ unread b
    same-leaf q h = rw (leaf-over shape.n u.group) at (bring-alike 0 (omega arith) (rw (copies-bring shape u r 0 q) at h))

    same_read : unread b' ≡ unread b → Alike (leaf_read shape u r') (leaf_read shape u r)
    same_read e = rw (leaf_read-is shape u r' (brought other (leaf_of u.group)).line-lt, leaf_read-is shape u r (brought sit (leaf_of u.group)).line-lt)
        (through unread (λ (o : Brought). lets_go (read (group_in o.rows.bytes o.line u.group) (turns_of u)) o.shape u o.copies own o.rows) (λ o. alike refl) b' b e)

    same-write1 : unread b' ≡ unread b → Alike (write_under1 shape u r') (write_under1 shape u r)
    same-write1 e = rw (under_one-is shape u r' (brought other (leaf_of u.group)).line-lt, under_one-is shape u r (brought sit (leaf_of u.group)).line-lt)
        (through unread (under_one own u) (under_one-unread own u) b' b e)

    same-write0 : Dec (u.value ≡ 0) → Alike (write_under0 shape u r') (write_under0 shape u r)
    same-write0 (yes v) = rw (write0-same shape u r' v, write0-same shape u r v) (alike refl)
    same-write0 (no v) = rw (write0-create shape u r' v (created other (leaf_of u.group) (new_leaf u)).line-lt, write0-create shape u r v (created sit (leaf_of u.group) (new_leaf u)).line-lt)
        (through unread (λ (o : Brought). goes u (Set 0) o.copies o.shape o.rows) (λ o. alike refl) _ _ (create-alike (leaf_of u.group) (new_leaf u)))

    same-at_leaf : (u.write ≡ true) ⊎ (u.write ≡ false) → (bit_is0 shape u r 0 ≡ true) ⊎ (bit_is0 shape u r 0 ≡ false) → SameAt (copies_at shape u r (Under 0)) → Alike (under shape x 0 u r') (under shape x 0 u r)
    same-at_leaf (inr w) z h = rw (under-read shape x u r' (line-above other ph) w, under-read shape x u r (line-above sit ph) w) (same_read (same-leaf (both-false-left _ _ w) h))
    same-at_leaf (inl w) (inr z) h =
        rw (under-write shape x u r' (line-above other ph) w, under-write shape x u r (line-above sit ph) w, leaf_write-1 shape u r' (eqb-false _ _ z), leaf_write-1 shape u r (eqb-false _ _ z))
        (same-write1 (same-leaf (both-false-right _ _ z) h))
    same-at_leaf (inl w) (inl z) h =
        rw (under-write shape x u r' (line-above other ph) w, under-write shape x u r (line-above sit ph) w, leaf_write-0 shape u r' (eqb-true _ _ z), leaf_write-0 shape u r (eqb-true _ _ z)) (same-write0 (ℕ_discrete _ _))

  -- Map below a top
  module _ (d : ℕ) (ph : u.phase ≡ Under (suc d)) where
    under_alike : SameAt (copies_at shape u r (Under (suc d))) → unread (under_bit shape (suc d) u r') ≡ unread (under_bit shape (suc d) u r)
    unfolding under_bit
    under_alike h = go (true-or-false (both u.write (bit_is0 shape u r (suc d))))
      where
        go : (both u.write (bit_is0 shape u r (suc d)) ≡ true) ⊎ (both u.write (bit_is0 shape u r (suc d)) ≡ false) → unread (under_bit shape (suc d) u r') ≡ unread (under_bit shape (suc d) u r)
        go (inl q) = rw q (create-alike (block (suc d)) zeros)
        go (inr q) = rw q (bring-alike (suc d) (omega (arith, under-lt sit ph)) (rw (copies-bring shape u r (suc d) q) at h))

    same_map : SameAt (copies_at shape u r (Under (suc d))) → Alike (under shape x (suc d) u r') (under shape x (suc d) u r)
    same_map h = rw (under-map shape x u r' d (line-above other ph) (carried other d).line-lt, under-map shape x u r d (line-above sit ph) (carried sit d).line-lt)
        (through unread (descend x own d u) (λ b. descend-unread own u b x d) _ _ (under_alike h))

  same-under : (d : ℕ) → u.phase ≡ Under d → SameAt (copies_at shape u r (Under d)) → Alike (under shape x d u r') (under shape x d u r)
  same-under zero ph h = same-at_leaf ph (true-or-false _) (true-or-false _) h
  same-under (suc d) ph h = same_map d ph h

  -- Finish
  module _ (s : Bool) (d : ℕ) where
    dropped-alike : rows_unread (drop_empty (own (suc d)) (put_rows shape s d u r')) ≡ rows_unread (drop_empty (own (suc d)) (put_rows shape s d u r))
    dropped-alike = go (all_zero (line_bytes (put_rows shape s d u r).bytes (own (suc d))))
      where
        put : Rows
        put = put_rows shape s d u r

        go : (c : Bool) → rows_unread (pick c (with_lines (with_memory put m) (set put.lines (own (suc d)) 0)) (with_memory put m)) ≡ rows_unread (pick c (with_lines put (set put.lines (own (suc d)) 0)) put)
        go true = refl
        go false = refl

    same-finish : Alike (finish shape s d u r') (finish shape s d u r)
    unfolding finish finish_below
    same-finish =
        alike-pick (ltb (own (suc d)) l)
        (alike-pick (ltb (suc d) (top_of shape))
        (alike-pick (ltb (own (suc (suc d))) l)
        (alike-pick (changes_above shape s d u r)
        (through rows_unread (goes u (finish_at s (suc d)) none shape) (λ o. alike refl) _ _ dropped-alike)
        (through rows_unread (lets_go (done (turns_of u)) shape u none own) (λ o. alike refl) _ _ dropped-alike))
        (alike refl))
        (alike refl))
        (alike refl)

  pub same-by_phase : (q : Phase) → u.phase ≡ q → SameAt (copies_at shape u r q) → Alike (by_phase shape x u r' q) (by_phase shape x u r q)
  same-by_phase Idle ph h = absurd (not-both-ways (ap is_idle_at ph) sit.busy)
  same-by_phase (Probe d) ph h = same-probe d
  same-by_phase Top ph h = same-top h
  same-by_phase (Under d) ph h = same-under d ph h
  same-by_phase (Set d) ph h = same-finish true d
  same-by_phase (Clear d) ph h = same-finish false d
