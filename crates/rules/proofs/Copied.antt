-- What each rule of a step does with its copies: they are added to the sums, they stay within the table, and their write-backs are what changes the memory.
use mathlib.Core.Path.{◌≡◌, refl, sym, ap, ◌∙◌, subst}
use mathlib.Core.Bool.{Bool, true, false}
use mathlib.Core.List.{List, [], ◌∷◌, ◌++◌}
use mathlib.Core.Logic.{◌⊎◌, inl, inr}
use Prim.Native.Nat.{ℕ, zero, suc, ◌+◌, ◌<◌, ◌≤◌}
use native.Mathlib.Omega.{arith}
use native.Mathlib.Decide.{ℕ_discrete}
use lib.Dec.{eqb, ltb}
use lib.ListN.{length, get_or, length-append}
use lib.Seq.{get_or-set_other}
use borrow.Author.Tests.{lt-ltb, le-ltb, eq-eqb, ne_eqb, eqb-true, eqb-false}
use Rattle.laws.specs.Choice.{pick, both, no as negated}
use Rattle.laws.specs.Bytes.{put_w}
use Rattle.laws.proofs.Choice.{not-both-ways, true-or-false, pick-by, both_true, both-false-left, both-false-right}
use Rattle.laws.proofs.Splice.{lt-or-ge}
use Rattle.geometry.specs.declared.Shape.{Shape}
use Rattle.geometry.specs.Shape.{below_top, top_of}
use Rattle.geometry.specs.TagMemory.{leaf_of, block_over, block_place}
use Rattle.block.specs.Block.{all_zero}
use Rattle.tracker.specs.declared.Phase.{Phase}
use Rattle.tracker.specs.declared.Phase.TheVariants.{Idle, Probe, Top, Under, Set, Clear}
use Rattle.tracker.specs.declared.Transfers.{Transfers}
use Rattle.tracker.specs.declared.Tracker.{Tracker}
use Rattle.tracker.specs.Transfers.{none, plus}
use Rattle.tracker.specs.Tracker.{is_idle, is_idle_at, level_of, after_probe, finish_at}
use Rattle.tracker.specs.Answer.{Said, done}
use Rattle.tracker.proofs.Phases.{asks-is}
use Rattle.line.specs.Word.{block_of, changed}
use Rattle.line.specs.Find.{line_of}
use Rattle.rules.specs.State.{Rows}
use Rattle.rules.specs.Copies.{Copy, fetch, back, fetches, backs, tally}
use Rattle.rules.specs.Place.{line_bytes, place_line, written_back, back_of, place_memory, place_copies, Brought, bring_in, create, bring_copies, create_copies, drained, drain_copies}
use Rattle.rules.specs.Step.{Turned, ends, goes, turns_of, asks_zero, own_line, group_in, bit_in, probe, descend, top, put_in, write_under1, zeros, new_leaf, under_bit, under, drop_empty, finish_below, finish, by_phase}
use Rattle.rules.specs.Copied.{copies_at, backed, most_at}
use Rattle.rules.proofs.Words.{changed-used}
use Rattle.rules.proofs.Copies.{fetches-++, backs-++, tally-++}
use Rattle.rules.proofs.Lined.{at, Apart, line_of-is}
use Rattle.rules.proofs.Placed.{place-loose, place-memory, bring-found, bring-placed, create-found, create-placed}
use Rattle.rules.proofs.Ways.{leaf-over, top_held, top-wait, top-on, leaf_read-is, write0-same, write0-create, leaf_write-0, leaf_write-1, under-read, under-write, under-map, bytes_with, put_rows, changes_above}
use Rattle.rules.proofs.Situation.{Situation, few, level-lt, own-lt}

-- every copy is a fetch or a write-back
pub length-copies : (cs : List Copy) → length (fetches cs) + length (backs cs) ≡ length cs
unfolding fetches backs
length-copies [] = refl
length-copies (fetch b ∷ cs) = let e = length-copies cs in omega arith
length-copies (back b ∷ cs) = let e = length-copies cs in omega arith

pub tally-none : tally [] ≡ none
unfolding tally fetches backs
tally-none = refl

-- blocks written back, and then others
pub backed-++ : (l : ℕ) (r : Rows) (m : List ℕ) (xs bs : List ℕ) → backed l r m (xs ++ bs) ≡ backed l r (backed l r m xs) bs
unfolding backed
backed-++ l r m [] bs = refl
backed-++ l r m (b ∷ xs) bs = backed-++ l r (put_w 64 m (block_place b) (line_bytes r.bytes (line_of r.lines l b))) xs bs

backs-fetch : (cs : List Copy) (b : ℕ) → backs (cs ++ fetch b ∷ []) ≡ backs cs
unfolding backs
backs-fetch [] b = refl
backs-fetch (fetch c ∷ cs) b = backs-fetch cs b
backs-fetch (back c ∷ cs) b = ap (λ (z : List ℕ). c ∷ z) (backs-fetch cs b)

-- a line written back is the copy that it makes
module _ {B l : ℕ} (r : Rows) (a : Apart B l r.lines) (i : ℕ) (m : List ℕ) where
  pub written_is : written_back r.lines r.bytes m i ≡ backed l r m (backs (back_of r.lines i))
  unfolding written_back back_of backs backed
  written_is = go (changed (at r.lines i)) refl
    where
      go : (c : Bool) → changed (at r.lines i) ≡ c
          → pick c (put_w 64 m (block_place (block_of (at r.lines i))) (line_bytes r.bytes i)) m ≡ backed l r m (backs (pick c (back (block_of (at r.lines i)) ∷ []) []))
      go true e = ap (λ (j : ℕ). put_w 64 m (block_place (block_of (at r.lines i))) (line_bytes r.bytes j))
          (sym (line_of-is a i (block_of (at r.lines i)) (record { is-used = changed-used _ e; is_block = refl })))
      go false e = refl

pub back_one : (lines : List ℕ) (i : ℕ) → (length (back_of lines i) ≤ 1) × (fetches (back_of lines i) ≡ [])
unfolding back_of fetches
back_one lines i = pick-by (λ (cs : List Copy). (length cs ≤ 1) × (fetches cs ≡ [])) (changed (get_or lines i 0)) (λ _. (omega arith, refl)) (λ _. (omega arith, refl))

-- the sums that a step leaves: in its tracker, or in its ending
abbrev pub sums_of : Turned → Transfers
sums_of o = pick (is_idle o.tracker) o.transfers o.tracker.transfers

-- what a step of u with the copies cs does with them; `before` are the copies that were made for its access before
pub record Makes (shape : Shape) (u : Tracker) (r : Rows) (before cs : List Copy) (o : Turned) : Type 0 where
  pub sums-are : sums_of o ≡ tally (before ++ cs)
  pub within : most_at (top_of shape) u.phase + length cs ≤ most_at (top_of shape) o.tracker.phase
  pub backed-is : o.rows.memory ≡ backed shape.l r r.memory (backs cs)

append-none : {A : Type 0} (xs : List A) → xs ++ [] ≡ xs
append-none [] = refl
append-none (x ∷ xs) = ap (λ (z : List _). x ∷ z) (append-none xs)

probe-busy : (top d : ℕ) → is_idle_at (after_probe top d) ≡ false
probe-busy top d = pick-by (λ (p : Phase). is_idle_at p ≡ false) (ltb (suc d) top) (λ _. refl) (λ _. refl)

-- the copies of a step under a bit, which is in the line of its block of level d + 1
module _ (shape : Shape) (u : Tracker) (r : Rows) where
  abbrev pub bit_is0 : ℕ → Bool
  bit_is0 d = eqb (bit_in r.bytes (own_line shape u r (suc d)) d u.group) 0

  pub copies-same : both u.write (bit_is0 0) ≡ true → u.value ≡ 0 → copies_at shape u r (Under 0) ≡ []
  copies-same h z = rw (h, both_true (eqb 0 0) _ refl (eq-eqb _ _ z)) refl

  pub copies-create : (d : ℕ) → both u.write (bit_is0 d) ≡ true → both (eqb d 0) (eqb u.value 0) ≡ false → copies_at shape u r (Under d) ≡ create_copies shape (block_over d shape.n u.group) r
  copies-create d h z = rw (h, z) refl

  pub copies-bring : (d : ℕ) → both u.write (bit_is0 d) ≡ false → copies_at shape u r (Under d) ≡ bring_copies shape (block_over d shape.n u.group) r
  copies-bring d h = rw h refl

module _ (sit : Situation) where
  abbrev shape : Shape
  shape = sit.shape

  abbrev l : ℕ
  l = shape.l

  abbrev r : Rows
  r = sit.r

  abbrev u : Tracker
  u = sit.u

  abbrev p : ℕ
  p = place_line shape r.lines r.bytes

  -- the block of each level, and its line
  abbrev block : ℕ → ℕ
  block d = block_over d shape.n u.group

  abbrev own : ℕ → ℕ
  own = own_line shape u r

  abbrev most : Phase → ℕ
  most = most_at (top_of shape)

  pub p-lt : p < l
  p-lt = (place-loose shape r sit.lined (few sit) sit.rows_fit_lem).0

  pub place-copies : place_copies shape r ≡ back_of r.lines p
  unfolding place_copies
  place-copies = rw (lt-ltb _ _ p-lt)

  place-one : length (place_copies shape r) ≤ 1
  place-one = rw place-copies (back_one r.lines p).0

  place-backed : place_memory shape r ≡ backed l r r.memory (backs (place_copies shape r))
  place-backed = place-memory shape r sit.lined (few sit) sit.rows_fit_lem ∙ written_is r sit.lined.apart p r.memory
      ∙ ap (λ (cs : List Copy). backed l r r.memory (backs cs)) (sym place-copies)

  none-backed : r.memory ≡ backed l r r.memory (backs [])
  unfolding backed backs
  none-backed = refl

  -- what bringing in or creating does with its copies, at most k
  pub record Carries (k : ℕ) (cs : List Copy) (o : Brought) : Type 0 where
    pub line-lt : o.line < l
    sums : o.copies ≡ tally cs
    at_most : length cs ≤ k
    memory : o.rows.memory ≡ backed l r r.memory (backs cs)

  module _ (b : ℕ) where
    pub copies-found : line_of r.lines l b < l → bring_copies shape b r ≡ []
    unfolding bring_copies
    copies-found q = rw (lt-ltb _ _ q)

    pub copies-placed : l ≤ line_of r.lines l b → bring_copies shape b r ≡ place_copies shape r ++ fetch b ∷ []
    unfolding bring_copies
    copies-placed q = rw (le-ltb _ _ q, lt-ltb _ _ p-lt)

    creates-none : line_of r.lines l b < l → create_copies shape b r ≡ []
    unfolding create_copies
    creates-none q = rw (lt-ltb _ _ q)

    creates-placed : l ≤ line_of r.lines l b → create_copies shape b r ≡ place_copies shape r
    unfolding create_copies
    creates-placed q = rw (le-ltb _ _ q)

    pub brought : Carries 2 (bring_copies shape b r) (bring_in shape b r)
    brought = go (lt-or-ge (line_of r.lines l b) l)
      where
        go : (line_of r.lines l b < l) ⊎ (l ≤ line_of r.lines l b) → Carries 2 (bring_copies shape b r) (bring_in shape b r)
        go (inl q) = rw (bring-found shape b r q, copies-found q) (record { line-lt = q; sums = sym tally-none; at_most = omega arith; memory = none-backed })
        go (inr q) = rw (bring-placed shape b r q p-lt, copies-placed q) (record {
          line-lt = p-lt;
          sums = refl;
          at_most = rw (length-append (place_copies shape r) (fetch b ∷ [])) (omega (arith, place-one));
          memory = rw (backs-fetch (place_copies shape r) b) place-backed;
        })

    pub created : (y : List ℕ) → Carries 1 (create_copies shape b r) (create shape b y r)
    created y = go (lt-or-ge (line_of r.lines l b) l)
      where
        go : (line_of r.lines l b < l) ⊎ (l ≤ line_of r.lines l b) → Carries 1 (create_copies shape b r) (create shape b y r)
        go (inl q) = rw (create-found shape b y r q, creates-none q) (record { line-lt = q; sums = sym tally-none; at_most = omega arith; memory = none-backed })
        go (inr q) = rw (create-placed shape b y r q p-lt, creates-placed q) (record { line-lt = p-lt; sums = refl; at_most = place-one; memory = place-backed })

  -- under a bit, which is in the line of its block of level d + 1
  pub under-lt : {d : ℕ} → u.phase ≡ Under d → d < top_of shape
  under-lt ph = subst (λ (q : Phase). level_of q < top_of shape) ph (level-lt sit)

  pub line-above : {d : ℕ} → u.phase ≡ Under d → own (suc d) < l
  line-above {d} ph = own-lt sit d (under-lt ph) (rw ph (asks-is (Under d) (suc d) refl (omega arith)))

  pub carried : (d : ℕ) → Carries 2 (copies_at shape u r (Under (suc d))) (under_bit shape (suc d) u r)
  unfolding under_bit
  carried d = go (true-or-false (both u.write (bit_is0 shape u r (suc d))))
    where
      go : (both u.write (bit_is0 shape u r (suc d)) ≡ true) ⊎ (both u.write (bit_is0 shape u r (suc d)) ≡ false) → Carries 2 (copies_at shape u r (Under (suc d))) (under_bit shape (suc d) u r)
      go (inl h) =
          let c = created (block (suc d)) zeros in
          rw (copies-create shape u r (suc d) h (both-false-left _ _ (ne_eqb (suc d) 0 (λ z. omega arith))), h) (record { line-lt = c.line-lt; sums = c.sums; at_most = omega (arith, c.at_most); memory = c.memory })
      go (inr h) = rw (copies-bring shape u r (suc d) h, h) (brought (block (suc d)))

  module _ (before : List Copy) (e : u.transfers ≡ tally before) where
    abbrev Does : List Copy → Turned → Type 0
    Does cs o = Makes shape u r before cs o

    added : (cs : List Copy) (more : Transfers) → more ≡ tally cs → plus u.transfers more ≡ tally (before ++ cs)
    added cs more q = ap (λ (z : Transfers). plus z more) e ∙ ap (plus (tally before)) q ∙ sym (tally-++ before cs)

    -- a step that copies nothing: it leaves its tracker where it was, ends, or goes on
    stays : {o : Turned} → o.tracker.phase ≡ u.phase → o.tracker.transfers ≡ u.transfers → o.rows.memory ≡ r.memory → Does [] o
    stays ph tr m = record {
      sums-are = rw (ap is_idle_at ph ∙ sit.busy) (tr ∙ e ∙ ap tally (sym (append-none before)));
      within = omega (arith, ap most ph);
      backed-is = m ∙ none-backed;
    }

    ends_so : {a : Said} {r' : Rows} → most u.phase ≤ most Idle → r'.memory ≡ r.memory → Does [] (ends a shape u none r')
    ends_so w m = record { sums-are = added [] none (sym tally-none); within = omega arith; backed-is = m ∙ none-backed }

    goes_so : {r' : Rows} (q : Phase) → is_idle_at q ≡ false → most u.phase ≤ most q → r'.memory ≡ r.memory → Does [] (goes u q none shape r')
    goes_so q i w m = record { sums-are = rw i (added [] none (sym tally-none)); within = omega arith; backed-is = m ∙ none-backed }

    -- a step that brings in a block or creates one: it ends, or goes on
    module _ {k : ℕ} {cs : List Copy} {b : Brought} (c : Carries k cs b) where
      ends_with : {a : Said} {r' : Rows} → most u.phase + k ≤ most Idle → r'.memory ≡ b.rows.memory → Does cs (ends a b.shape u b.copies r')
      ends_with w m = record { sums-are = added cs b.copies c.sums; within = omega (arith, c.at_most); backed-is = m ∙ c.memory }

      goes_with : {r' : Rows} (q : Phase) → is_idle_at q ≡ false → most u.phase + k ≤ most q → r'.memory ≡ b.rows.memory → Does cs (goes u q b.copies b.shape r')
      goes_with q i w m = record { sums-are = rw i (added cs b.copies c.sums); within = omega (arith, c.at_most); backed-is = m ∙ c.memory }

      makes-descend : (d : ℕ) → most u.phase + k ≤ most (Under d) → Does cs (descend sit.x own d u b)
      unfolding descend
      makes-descend d w = pick-by (Does cs) (both (eqb (bit_in b.rows.bytes b.line d u.group) 0) (asks_zero u)) (λ _. ends_with (omega arith) refl) (λ _. goes_with (Under d) refl w refl)

    makes-probe : (d : ℕ) → u.phase ≡ Probe d → Does [] (probe shape d u r)
    unfolding probe
    makes-probe zero ph =
        let over : (a : Said) → Does [] (ends a shape u none r) = (λ a. ends_so (omega (arith, ap most ph)) refl) in
        let on : Does [] (goes u (after_probe (top_of shape) 0) none shape r) = goes_so (after_probe (top_of shape) 0) (probe-busy (top_of shape) 0) (omega (arith, ap most ph)) refl in
        pick-by (Does []) (ltb (own 0) l)
        (λ _. pick-by (Does []) u.write (λ _. pick-by (Does []) (eqb (group_in r.bytes (own 0) u.group) u.value) (λ _. over _) (λ _. on)) (λ _. over _)) (λ _. on)
    makes-probe (suc d) ph =
        pick-by (Does []) (both (both (ltb (own (suc d)) l) (negated (top_held shape u r))) (both (bit_is0 shape u r d) (asks_zero u))) (λ _. ends_so (omega (arith, ap most ph)) refl)
        (λ _. goes_so (after_probe (top_of shape) (suc d)) (probe-busy (top_of shape) (suc d)) (omega (arith, ap most ph)) refl)

    makes-top : u.phase ≡ Top → Does (copies_at shape u r Top) (top shape sit.x u r)
    makes-top ph = go (true-or-false (top_held shape u r))
      where
        go : (top_held shape u r ≡ true) ⊎ (top_held shape u r ≡ false) → Does (copies_at shape u r Top) (top shape sit.x u r)
        go (inl h) = rw (top-wait shape sit.x u r h, h) (stays refl refl refl)
        go (inr h) = let c = brought (block (top_of shape)) in rw (top-on shape sit.x u r h c.line-lt, h) (makes-descend c (below_top shape) (omega (arith, ap most ph)))

    -- Leaf
    module _ (ph : u.phase ≡ Under 0) where
      abbrev k : ℕ
      k = leaf_of u.group

      abbrev b : Brought
      b = bring_in shape k r

      leaf-ends : {a : Said} {r' : Rows} → r'.memory ≡ b.rows.memory → Does (bring_copies shape k r) (ends a b.shape u b.copies r')
      leaf-ends m = ends_with (brought k) (omega (arith, ap most ph)) m

      makes-put_in : Does (bring_copies shape k r) (put_in own u b)
      unfolding put_in
      makes-put_in = pick-by (Does (bring_copies shape k r)) (all_zero (line_bytes (bytes_with u b) b.line))
          (λ _. goes_with (brought k) (Clear 0) refl (omega (arith, ap most ph)) refl) (λ _. leaf-ends refl)

      makes-write1 : Does (bring_copies shape k r) (write_under1 shape u r)
      unfolding write_under1
      makes-write1 = rw (lt-ltb _ _ (brought k).line-lt)
          (pick-by (Does (bring_copies shape k r)) (eqb (group_in b.rows.bytes b.line u.group) u.value) (λ _. leaf-ends refl) (λ _. makes-put_in))

      makes-leaf : (u.write ≡ true) ⊎ (u.write ≡ false) → (bit_is0 shape u r 0 ≡ true) ⊎ (bit_is0 shape u r 0 ≡ false) → Dec (u.value ≡ 0)
          → Does (copies_at shape u r (Under 0)) (under shape sit.x 0 u r)
      makes-leaf (inr w) z v =
          rw (copies-bring shape u r 0 (both-false-left _ _ w), leaf-over shape.n u.group, under-read shape sit.x u r (line-above ph) w, leaf_read-is shape u r (brought k).line-lt) (leaf-ends refl)
      makes-leaf (inl w) (inr z) v =
          rw (copies-bring shape u r 0 (both-false-right _ _ z), leaf-over shape.n u.group, under-write shape sit.x u r (line-above ph) w, leaf_write-1 shape u r (eqb-false _ _ z)) makes-write1
      makes-leaf (inl w) (inl z) (yes v) =
          rw (copies-same shape u r (both_true _ _ w z) v, under-write shape sit.x u r (line-above ph) w, leaf_write-0 shape u r (eqb-true _ _ z), write0-same shape u r v) (ends_so (omega (arith, ap most ph)) refl)
      makes-leaf (inl w) (inl z) (no v) =
          let c = created k (new_leaf u) in
          rw (
            copies-create shape u r 0 (both_true _ _ w z) (both-false-right _ _ (ne_eqb _ _ v)),
            leaf-over shape.n u.group,
            under-write shape sit.x u r (line-above ph) w,
            leaf_write-0 shape u r (eqb-true _ _ z),
            write0-create shape u r v c.line-lt,
          ) (goes_with c (Set 0) refl (omega (arith, ap most ph)) refl)

    -- Map below a top
    module _ (d : ℕ) (ph : u.phase ≡ Under (suc d)) where
      makes-map : Does (copies_at shape u r (Under (suc d))) (under shape sit.x (suc d) u r)
      makes-map =
          let c = carried d in
          rw (under-map shape sit.x u r d (line-above ph) c.line-lt) (makes-descend c d (omega (arith, ap most ph, under-lt ph)))

    makes-under : (d : ℕ) → u.phase ≡ Under d → Does (copies_at shape u r (Under d)) (under shape sit.x d u r)
    makes-under zero ph = makes-leaf ph (true-or-false _) (true-or-false _) (ℕ_discrete _ _)
    makes-under (suc d) ph = makes-map d ph

    -- Finish
    dropped-memory : (j : ℕ) (put : Rows) → put.memory ≡ r.memory → (drop_empty j put).memory ≡ r.memory
    dropped-memory j put m = pick-by (λ (o : Rows). o.memory ≡ r.memory) (all_zero (line_bytes put.bytes j)) (λ _. m) (λ _. m)

    finish-most : (s : Bool) (d c : ℕ) → (most (finish_at s d) ≤ most Idle) × (most (finish_at s d) ≤ most (finish_at s c)) × (is_idle_at (finish_at s c) ≡ false)
    finish-most true d c = (omega arith, omega arith, refl)
    finish-most false d c = (omega arith, omega arith, refl)

    makes-finish : (s : Bool) (d : ℕ) → u.phase ≡ finish_at s d → Does [] (finish shape s d u r)
    unfolding finish finish_below
    makes-finish s d ph =
        let f = finish-most s d (suc d) in
        let over : (r' : Rows) → r'.memory ≡ r.memory → Does [] (ends (done (turns_of u)) shape u none r') = (λ r' m. ends_so (omega (arith, ap most ph, f.0)) m) in
        let put = put_rows shape s d u r in
        pick-by (Does []) (ltb (own (suc d)) l)
        (λ _. pick-by (Does []) (ltb (suc d) (top_of shape))
        (λ _. pick-by (Does []) (ltb (own (suc (suc d))) l)
        (λ _. pick-by (Does []) (changes_above shape s d u r) (λ _. goes_so (finish_at s (suc d)) f.2 (omega (arith, ap most ph, f.1)) (dropped-memory (own (suc d)) put refl)) (λ _. over _ (dropped-memory (own (suc d)) put refl)))
        (λ _. stays refl refl refl))
        (λ _. over _ refl))
        (λ _. stays refl refl refl)

    pub makes-by_phase : (q : Phase) → u.phase ≡ q → Does (copies_at shape u r q) (by_phase shape sit.x u r q)
    makes-by_phase Idle ph = absurd (not-both-ways (ap is_idle_at ph) sit.busy)
    makes-by_phase (Probe d) ph = makes-probe d ph
    makes-by_phase Top ph = makes-top ph
    makes-by_phase (Under d) ph = makes-under d ph
    makes-by_phase (Set d) ph = makes-finish true d ph
    makes-by_phase (Clear d) ph = makes-finish false d ph

-- draining: lines that are yet to come are as they were
module _ {B l : ℕ} (r : Rows) (a : Apart B l r.lines) where
  drained-later : (i j : ℕ) → i ≤ j → at (drained i r).lines j ≡ at r.lines j
  unfolding drained
  drained-later zero j q = refl
  drained-later (suc i) j q = get_or-set_other (drained i r).lines i j _ 0 (λ e. omega arith) ∙ drained-later i j (omega arith)

  drained-bytes : (i : ℕ) → (drained i r).bytes ≡ r.bytes
  unfolding drained
  drained-bytes zero = refl
  drained-bytes (suc i) = drained-bytes i

  -- what a drain does with its copies: none is a fetch, there are no more than lines, and they are what changes the memory
  pub record Drains (i : ℕ) : Type 0 where
    pub no-fetch : fetches (drain_copies i r) ≡ []
    pub few-backs : length (drain_copies i r) ≤ i
    pub backed-is : (drained i r).memory ≡ backed l r r.memory (backs (drain_copies i r))

  back-line : (i : ℕ) → back_of (drained i r).lines i ≡ back_of r.lines i
  unfolding back_of
  back-line i = rw (drained-later i i (omega arith))

  written-line : (i : ℕ) (m : List ℕ) → written_back (drained i r).lines (drained i r).bytes m i ≡ written_back r.lines r.bytes m i
  unfolding written_back
  written-line i m = rw (drained-later i i (omega arith), drained-bytes i)

  drains-more : (i : ℕ) → Drains i → Drains (suc i)
  unfolding drained drain_copies
  drains-more i d = record {
    no-fetch = fetches-++ (drain_copies i r) (back_of (drained i r).lines i) ∙ rw (d.no-fetch, (back_one (drained i r).lines i).1);
    few-backs = rw (length-append (drain_copies i r) (back_of (drained i r).lines i)) (omega (arith, d.few-backs, (back_one (drained i r).lines i).0));
    backed-is = written-line i (drained i r).memory ∙ ap (λ (m : List ℕ). written_back r.lines r.bytes m i) d.backed-is
        ∙ written_is r a i (backed l r r.memory (backs (drain_copies i r))) ∙ sym (backed-++ l r r.memory (backs (drain_copies i r)) (backs (back_of r.lines i)))
        ∙ ap (backed l r r.memory) (sym (backs-++ (drain_copies i r) (back_of r.lines i)) ∙ ap (λ (cs : List Copy). backs (drain_copies i r ++ cs)) (sym (back-line i)));
  }

  drains-none : Drains 0
  unfolding drained drain_copies fetches backs backed
  drains-none = record { no-fetch = refl; few-backs = omega arith; backed-is = refl }

  pub drains : (i : ℕ) → Drains i
  drains zero = drains-none
  drains (suc i) = drains-more i (drains i)
