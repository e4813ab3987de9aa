-- A law for each way out of placing, bringing in and draining, from what the code has tested.
use mathlib.Core.Path.{◌≡◌, refl, sym, ap, ◌∙◌}
use mathlib.Core.List.{List, [], ◌∷◌, ◌++◌}
use mathlib.Core.Bool.{Bool, true, false}
use Prim.Native.Nat.{ℕ, suc, ◌+◌, ◌*◌, ◌/◌, ◌≤◌, ◌<◌}
use native.Mathlib.Omega.{arith}
use native.Mathlib.Numerals.{add-one}
use lib.Dec.{ltb}
use Rattle.std.specs.Prelude.{min}
use Rattle.std.proofs.lemmas.List.{set-get_or}
use lib.ListN.{length, get_or, set, length-set}
use borrow.Author.Tests.{lt-ltb, le-ltb, le-leb, lt-leb, ltb-true, leb-true, eqb-true, eq-eqb}
use Rattle.laws.specs.Choice.{pick, both}
use Rattle.laws.proofs.Choice.{both_true, both_left, both_right}
use Rattle.laws.specs.Bytes.{part, fits, put_w}
use Rattle.laws.proofs.Put.{put_w-not}
use Rattle.geometry.specs.declared.Shape.{Shape}
use Rattle.geometry.specs.Shape.{at_hand, top_of}
use Rattle.geometry.specs.TagMemory.{block_place}
use Rattle.geometry.proofs.Shapes.{below-hand}
use Rattle.block.specs.Block.{block_or0}
use Rattle.block.proofs.Blocks.{copy-fits}
use Rattle.tracker.specs.declared.Transfers.{Transfers}
use Rattle.tracker.specs.Transfers.{none, plus}
use Rattle.line.specs.Word.{block_of, changed, word, cleaned}
use Rattle.line.specs.Find.{line_of, lowest_free, victim, after}
use Rattle.line.proofs.Words.{changed-none, cleaned-clean}
use Rattle.line.proofs.Find.{lowest_free-free, victim-≤}
use Rattle.rules.specs.State.{Rows}
use Rattle.rules.specs.Copies.{Copy, fetch, fetches, backs, tally}
use Rattle.rules.specs.Place.{rows_fit, place_line, place_hand, written_back, back_of, place_memory, place_copies, Brought, filled, bring_in, create, drained, drain_copies}
use Rattle.rules.proofs.Copies.{tally-++}
use Rattle.placing.specs.Lines.{rows, placed, fetched, all_drained, drained_on, leaves}

-- the rows fit: what that says
pub fit-lines : (l : ℕ) (lines bytes : List ℕ) → rows_fit l lines bytes ≡ true → l ≤ length lines
unfolding rows_fit
fit-lines l lines bytes e = leb-true _ _ (both_left _ _ e)

pub fit-bytes : (l : ℕ) (lines bytes : List ℕ) → rows_fit l lines bytes ≡ true → length bytes ≡ 64 * l
unfolding rows_fit
fit-bytes l lines bytes e = eqb-true _ _ (both_right _ _ e)

pub rows_fit_lem : (l : ℕ) (lines bytes : List ℕ) → l ≤ length lines → length bytes ≡ 64 * l → rows_fit l lines bytes ≡ true
unfolding rows_fit
rows_fit_lem l lines bytes h e = both_true _ _ (le-leb _ _ h) (eq-eqb _ _ e)

-- a line, a shape, copies and rows, as a function leaves them
abbrev pub left : (line : ℕ) (shape : Shape) (copies : Transfers) (lines bytes memory : List ℕ) → Brought
left line shape copies lines bytes memory = record { line = line; shape = shape; rows = rows lines bytes memory; copies = copies }

abbrev with_rows : (line : ℕ) (shape : Shape) (copies : Transfers) → Rows → Brought
with_rows line shape copies r = record { line = line; shape = shape; rows = r; copies = copies }

-- what an equation of two such says of each part
module _ {b c : Brought} (e : b ≡ c) where
  pub line-is : b.line ≡ c.line
  line-is = ap (λ (y : Brought). y.line) e

  pub shape_is : b.shape ≡ c.shape
  shape_is = ap (λ (y : Brought). y.shape) e

  pub rows_are : b.rows ≡ c.rows
  rows_are = ap (λ (y : Brought). y.rows) e

  pub memory-is : b.rows.memory ≡ c.rows.memory
  memory-is = ap (λ (y : Brought). y.rows.memory) e

  pub copies-are : b.copies ≡ c.copies
  copies-are = ap (λ (y : Brought). y.copies) e

-- a line, a shape and copies with equal rows
by_rows : {line : ℕ} {shape : Shape} {copies : Transfers} {r s : Rows} → r ≡ s → with_rows line shape copies r ≡ with_rows line shape copies s
by_rows e = rw e refl

-- a line is filled: where the line bytes have it, and where not
module _ (i b : ℕ) (c : Bool) (lines bytes y m : List ℕ) {w : ℕ} (ew : w ≡ word b c 0) where
  pub filled-past : length bytes / 64 ≤ i → rows (set lines i w) bytes m ≡ filled (rows lines bytes m) i b c y
  filled-past h = rw (ew, put_w-not 64 bytes (64 * i) y (omega arith)) refl

  pub filled_in : {bs : List ℕ} → bs ≡ put_w 64 bytes (64 * i) y → rows (set lines i w) bs m ≡ filled (rows lines bytes m) i b c y
  filled_in eb = rw (ew, eb) refl

-- writing line i back: a clean one, and a changed one straight from its bytes
module _ (lines bytes memory : List ℕ) (i : ℕ) where
  pub written-not : changed (get_or lines i 0) ≡ false → memory ≡ written_back lines bytes memory i
  unfolding written_back
  written-not e = rw e refl

  pub written_is : {b at : ℕ} {m : List ℕ} → 64 * i + 64 ≤ length bytes → changed (get_or lines i 0) ≡ true → b ≡ block_of (get_or lines i 0)
      → at ≡ block_place b → m ≡ pick (fits bytes (64 * i) 64) (put_w 64 memory at (part bytes (64 * i) 64)) memory → m ≡ written_back lines bytes memory i
  unfolding written_back
  written_is {b} {at} h e eb ea em = em ∙ sym (copy-fits memory at bytes (64 * i) h) ∙ rw (ea, eb, e) refl

-- the copy of it: none, or one
module _ (lines : List ℕ) (i : ℕ) where
  pub back-not : changed (get_or lines i 0) ≡ false → none ≡ tally (back_of lines i)
  unfolding back_of tally fetches backs
  back-not e = rw e refl

  pub back_is : changed (get_or lines i 0) ≡ true → (record { fetched = 0; back = 1 }) ≡ tally (back_of lines i)
  unfolding back_of tally fetches backs
  back_is e = rw e refl

-- one block more is fetched
one-fetched : (b : ℕ) (cs : List Copy) → tally (cs ++ fetch b ∷ []) ≡ plus (tally cs) (record { fetched = 1; back = 0 })
unfolding tally fetches backs
one-fetched b cs = tally-++ cs (fetch b ∷ [])

-- a line is taken only where the rows fit
module _ (shape : Shape) (lines bytes : List ℕ) where
  placed-fits : place_line shape lines bytes < shape.l → rows_fit shape.l lines bytes ≡ true
  unfolding place_line
  placed-fits h = fits (rows_fit shape.l lines bytes) refl
    where
      fits : (f : Bool) → rows_fit shape.l lines bytes ≡ f → rows_fit shape.l lines bytes ≡ true
      fits true e = e
      fits false e = absurd (omega (arith, rw e at h))

  module _ (p : ℕ) (e : p ≡ place_line shape lines bytes) (h : p < shape.l) where
    pub placed-lines : shape.l ≤ length lines
    placed-lines = fit-lines shape.l lines bytes (placed-fits (omega arith))

    pub placed-bytes : length bytes ≡ 64 * shape.l
    placed-bytes = fit-bytes shape.l lines bytes (placed-fits (omega arith))

-- placing, way by way
module _ (shape : Shape) (lines bytes memory : List ℕ) {z : Transfers} (ez : z ≡ none) where
  pub placed-misfit : rows_fit shape.l lines bytes ≡ false → left shape.l shape z lines bytes memory ≡ placed shape (rows lines bytes memory)
  unfolding place_line place_hand place_memory place_copies tally fetches backs both
  placed-misfit e = rw ez (sym (rw (e, le-ltb shape.l shape.l (omega arith)) refl))

  pub placed-free : (i : ℕ) → rows_fit shape.l lines bytes ≡ true → i ≡ lowest_free lines shape.l → i < shape.l → left i shape z lines bytes memory ≡ placed shape (rows lines bytes memory)
  unfolding place_line place_hand place_memory place_copies both
  placed-free i f e h =
      let h' : lowest_free lines shape.l < shape.l = omega arith in
      let k = changed-none _ (lowest_free-free lines shape.l h') in
      rw (e, ez) (sym (rw (f, lt-ltb _ _ h', lt-leb _ _ h', lt-ltb _ _ h', ← written-not lines bytes memory _ k, ← back-not lines _ k) refl))

  -- none is free, and every line is held
  pub placed-none : rows_fit shape.l lines bytes ≡ true → shape.l ≤ lowest_free lines shape.l → shape.l ≤ victim lines shape.l shape.hand
      → left shape.l shape z lines bytes memory ≡ placed shape (rows lines bytes memory)
  unfolding place_line place_hand place_memory place_copies tally fetches backs both
  placed-none f o h =
      let e : victim lines shape.l shape.hand ≡ shape.l = omega (arith, victim-≤ lines shape.l shape.hand) in
      rw ez (sym (rw (f, le-ltb _ _ o, le-leb _ _ o, e, le-ltb shape.l shape.l (omega arith)) refl))

module _ (shape : Shape) (lines bytes memory : List ℕ) where
  pub placed-victim : (i next : ℕ) (y : Shape) (z : Transfers) (m : List ℕ) → rows_fit shape.l lines bytes ≡ true → shape.l ≤ lowest_free lines shape.l → i ≡ victim lines shape.l shape.hand → i < shape.l
      → next ≡ after shape.l i → y ≡ at_hand shape next → m ≡ written_back lines bytes memory i → z ≡ tally (back_of lines i) → left i y z lines bytes m ≡ placed shape (rows lines bytes memory)
  unfolding place_line place_hand place_memory place_copies both
  placed-victim i next y z m f o e h a ey w ez =
      let h' : victim lines shape.l shape.hand < shape.l = omega arith in
      rw (ez, w, ey, a, e) (sym (rw (f, le-ltb _ _ o, le-leb _ _ o, lt-ltb _ _ h') refl))

  -- memory changes only where a line is taken
  pub placed_same : shape.l ≤ place_line shape lines bytes → place_memory shape (rows lines bytes memory) ≡ memory
  unfolding place_memory
  placed_same h = rw (le-ltb _ _ h)

  -- bringing in a block that no line has
  module _ (b : ℕ) where
    pub fetched-none : (p : ℕ) (y : Shape) {k z : Transfers} (m : List ℕ) → left p y k lines bytes m ≡ placed shape (rows lines bytes memory) → shape.l ≤ p → z ≡ none
        → left shape.l shape z lines bytes m ≡ fetched shape b (rows lines bytes memory)
    unfolding fetched
    fetched-none p y m g h ez =
        let o : shape.l ≤ place_line shape lines bytes = omega (arith, line-is g) in
        rw (memory-is g ∙ placed_same o, ez) (sym (rw (le-ltb _ _ o) refl))

    pub fetched-is : (p : ℕ) (y : Shape) (k z : Transfers) (at : ℕ) (ls bs m v : List ℕ) → left p y k lines bytes m ≡ placed shape (rows lines bytes memory) → p < shape.l
        → at ≡ block_place b → v ≡ block_or0 m at → rows ls bs m ≡ filled (rows lines bytes m) p b false v → z ≡ plus k (record { fetched = 1; back = 0 })
        → left p y z ls bs m ≡ fetched shape b (rows lines bytes memory)
    unfolding fetched
    fetched-is p y k z at ls bs m v g h ea ev ef ez =
        let o : place_line shape lines bytes < shape.l = omega (arith, line-is g) in
        by_rows ef ∙ rw (ev, ea, ez, copies-are g, line-is g, shape_is g, memory-is g) (sym (rw (lt-ltb _ _ o, one-fetched b (place_copies shape (rows lines bytes memory))) refl))

    -- creating one, whose line is known, or that is placed
    module _ (y : List ℕ) where
      pub create-lined : (i : ℕ) {z : Transfers} (ls bs : List ℕ) → i ≡ line_of lines shape.l b → i < shape.l → z ≡ none
          → rows ls bs memory ≡ filled (rows lines bytes memory) i b true y → left i shape z ls bs memory ≡ create shape b y (rows lines bytes memory)
      unfolding create
      create-lined i ls bs e h ez ef =
          let o : line_of lines shape.l b < shape.l = omega arith in
          by_rows ef ∙ rw (e, ez) (sym (rw (lt-ltb _ _ o) refl))

      module _ (e : shape.l ≤ line_of lines shape.l b) (p : ℕ) (next : Shape) (k : Transfers) (m : List ℕ) (g : left p next k lines bytes m ≡ placed shape (rows lines bytes memory)) where
        pub create-none : {z : Transfers} → shape.l ≤ p → z ≡ none → left shape.l shape z lines bytes m ≡ create shape b y (rows lines bytes memory)
        unfolding create
        create-none h ez =
            let o : shape.l ≤ place_line shape lines bytes = omega (arith, line-is g) in
            rw (memory-is g ∙ placed_same o, ez) (sym (rw (le-ltb _ _ e, le-ltb _ _ o) refl))

        pub create-placed : (ls bs : List ℕ) → p < shape.l → rows ls bs m ≡ filled (rows lines bytes m) p b true y → left p next k ls bs m ≡ create shape b y (rows lines bytes memory)
        unfolding create
        create-placed ls bs h ef =
            let o : place_line shape lines bytes < shape.l = omega (arith, line-is g) in
            by_rows ef ∙ rw (copies-are g, line-is g, shape_is g, memory-is g) (sym (rw (le-ltb _ _ e, lt-ltb _ _ o) refl))

    pub bring_in-found : (i : ℕ) {z : Transfers} → i ≡ line_of lines shape.l b → i < shape.l → z ≡ none → left i shape z lines bytes memory ≡ bring_in shape b (rows lines bytes memory)
    unfolding bring_in
    bring_in-found i e h ez =
        let o : line_of lines shape.l b < shape.l = omega arith in
        rw (e, ez) (sym (rw (lt-ltb _ _ o) refl))

    pub bring_in-fetched : shape.l ≤ line_of lines shape.l b → bring_in shape b (rows lines bytes memory) ≡ fetched shape b (rows lines bytes memory)
    unfolding bring_in fetched
    bring_in-fetched h = rw (le-ltb _ _ h)

-- where there was no line to take, nothing changed
pub fetched-same : (shape : Shape) (b : ℕ) (r : Rows) → shape.l ≤ (fetched shape b r).line → (fetched shape b r).rows ≡ r
unfolding fetched
fetched-same shape b r h = same (ltb (place_line shape r.lines r.bytes) shape.l) refl
  where
    same : (f : Bool) → ltb (place_line shape r.lines r.bytes) shape.l ≡ f → (fetched shape b r).rows ≡ r
    same true e =
        let p : place_line shape r.lines r.bytes < shape.l = ltb-true _ _ e in
        let q : shape.l ≤ place_line shape r.lines r.bytes = rw e at h in
        absurd (omega arith)
    same false e = rw e refl

pub bring_in-same : (shape : Shape) (b : ℕ) (lines bytes memory : List ℕ) → shape.l ≤ (bring_in shape b (rows lines bytes memory)).line
    → (bring_in shape b (rows lines bytes memory)).rows ≡ rows lines bytes memory
unfolding bring_in fetched
bring_in-same shape b lines bytes memory h = same (ltb (line_of lines shape.l b) shape.l) refl
  where
    same : (f : Bool) → ltb (line_of lines shape.l b) shape.l ≡ f → (bring_in shape b (rows lines bytes memory)).rows ≡ rows lines bytes memory
    same true e = rw e refl
    same false e = rw e (fetched-same shape b (rows lines bytes memory) (rw e at h))

pub create-same : (shape : Shape) (b : ℕ) (y : List ℕ) (r : Rows) → shape.l ≤ (create shape b y r).line → (create shape b y r).rows ≡ r
unfolding create
create-same shape b y r h = lined (ltb (line_of r.lines shape.l b) shape.l) refl
  where
    placed-is : (p : Bool) → ltb (line_of r.lines shape.l b) shape.l ≡ false → ltb (place_line shape r.lines r.bytes) shape.l ≡ p → (create shape b y r).rows ≡ r
    placed-is true e q =
        let a : place_line shape r.lines r.bytes < shape.l = ltb-true _ _ q in
        let o : shape.l ≤ place_line shape r.lines r.bytes = rw (e, q) at h in
        absurd (omega arith)
    placed-is false e q = rw (e, q) refl

    lined : (f : Bool) → ltb (line_of r.lines shape.l b) shape.l ≡ f → (create shape b y r).rows ≡ r
    lined true e =
        let a : line_of r.lines shape.l b < shape.l = ltb-true _ _ e in
        let o : shape.l ≤ line_of r.lines shape.l b = rw e at h in
        absurd (omega arith)
    lined false e = placed-is (ltb (place_line shape r.lines r.bytes) shape.l) e refl

-- bringing in leaves the levels
pub bring_in-top : (shape : Shape) (b : ℕ) (r : Rows) → top_of (bring_in shape b r).shape ≡ top_of shape
unfolding bring_in
bring_in-top shape b r = lined (ltb (line_of r.lines shape.l b) shape.l) refl
  where
    placed-top : (p : Bool) → ltb (line_of r.lines shape.l b) shape.l ≡ false → ltb (place_line shape r.lines r.bytes) shape.l ≡ p → top_of (bring_in shape b r).shape ≡ top_of shape
    placed-top true e q = rw (e, q) (ap suc (below-hand shape (place_hand shape r.lines r.bytes)))
    placed-top false e q = rw (e, q) refl

    lined : (f : Bool) → ltb (line_of r.lines shape.l b) shape.l ≡ f → top_of (bring_in shape b r).shape ≡ top_of shape
    lined true e = rw e refl
    lined false e = placed-top (ltb (place_line shape r.lines r.bytes) shape.l) e refl

-- the first i of l lines of the rows r are drained
pub record Draining (l i : ℕ) (r : Rows) (copies : Transfers) (lines memory : List ℕ) : Type 0 where
  pub within : i ≤ l
  pub now-lines : lines ≡ (drained i r).lines
  pub now-memory : memory ≡ (drained i r).memory
  pub now-copies : copies ≡ tally (drain_copies i r)
  pub same_bytes : (drained i r).bytes ≡ r.bytes
  pub lines-kept : length lines ≡ length r.lines
  pub memory_kept : length memory ≡ length r.memory

pub draining-none : (l : ℕ) (r : Rows) {z : Transfers} → z ≡ none → Draining l 0 r z r.lines r.memory
unfolding drained drain_copies tally fetches backs
draining-none l r ez = record { within = omega arith; now-lines = refl; now-memory = refl; now-copies = ez; same_bytes = refl; lines-kept = refl; memory_kept = refl }

pub draining-more : {l i : ℕ} {r : Rows} {copies k z : Transfers} {lines memory m : List ℕ} (w : ℕ) → Draining l i r copies lines memory → i < l → w ≡ cleaned (get_or lines i 0)
    → m ≡ written_back lines r.bytes memory i → k ≡ tally (back_of lines i) → z ≡ plus copies k → length m ≡ length memory → Draining l (i + 1) r z (set lines i w) m
unfolding drained drain_copies
draining-more {l} {i} {r} {copies} {k} {z} {lines} {memory} {m} w d h ew em ek ez e = record {
  within = omega arith;
  now-lines = rw (add-one, ew, d.now-lines) refl;
  now-memory = rw (add-one, em, d.now-lines, d.now-memory, d.same_bytes) refl;
  now-copies = rw (add-one, ez, ek, d.now-copies, d.now-lines) (sym (tally-++ (drain_copies i r) (back_of (drained i r).lines i)));
  same_bytes = rw add-one d.same_bytes;
  lines-kept = simp length-set d.lines-kept;
  memory_kept = e ∙ d.memory_kept;
}

-- a line that is not changed stays as it is
pub draining-clean : {l i : ℕ} {r : Rows} {copies : Transfers} {lines memory : List ℕ} → Draining l i r copies lines memory → i < l → changed (get_or lines i 0) ≡ false
    → Draining l (i + 1) r copies lines memory
unfolding tally
draining-clean {l} {i} {r} {copies} {lines} {memory} d h clean =
    let fetched : copies.fetched ≡ min (copies.fetched + 0) 255 = omega (arith, ap (λ (t : Transfers). t.fetched) d.now-copies) in
    let back : copies.back ≡ min (copies.back + 0) 255 = omega (arith, ap (λ (t : Transfers). t.back) d.now-copies) in
    let more : copies ≡ plus copies none = (λ j. record { fetched = fetched j; back = back j }) in
    rw (set-get_or lines i 0) at (draining-more (get_or lines i 0) d h (sym (cleaned-clean (get_or lines i 0) clean)) (written-not lines r.bytes memory i clean) (back-not lines i clean) more refl)

-- all l lines of the rows r are drained
pub draining-all : (l i : ℕ) (r : Rows) (copies : Transfers) (ls m : List ℕ) → Draining l i r copies ls m → l ≤ i → leaves copies ls r.bytes m ≡ all_drained l r
draining-all l i r copies ls m d h =
    let e : i ≡ l = omega arith in
    rw (← e, d.now-copies) (by_rows (drained i r) d.now-lines (sym d.same_bytes) d.now-memory)
  where
    by_rows : {lines bytes memory : List ℕ} {z : Transfers} (a : Rows) → lines ≡ a.lines → bytes ≡ a.bytes → memory ≡ a.memory → leaves z lines bytes memory ≡ leaves z a.lines a.bytes a.memory
    by_rows a p q s = rw (p, q, s) refl

module _ (shape : Shape) (lines bytes memory : List ℕ) where
  pub drained_on-fit : rows_fit shape.l lines bytes ≡ true → drained_on shape (rows lines bytes memory) ≡ all_drained shape.l (rows lines bytes memory)
  unfolding drained_on
  drained_on-fit e = rw e

  pub drained_on-misfit : {z : Transfers} → rows_fit shape.l lines bytes ≡ false → z ≡ none → leaves z lines bytes memory ≡ drained_on shape (rows lines bytes memory)
  unfolding drained_on
  drained_on-misfit e ez = rw (e, ez) refl
