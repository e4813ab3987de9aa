-- A line to take always exists, since there are more lines than trackers can keep; placing, bringing in and creating keep the lines whole and every held line where it is.
use mathlib.Core.Path.{◌≡◌, refl, sym, ap, ◌∙◌}
use mathlib.Core.Bool.{Bool, true, false}
use mathlib.Core.List.{List, [], ◌∷◌, ◌++◌}
use mathlib.Core.Logic.{◌⊎◌, inl, inr, ⊎_elim}
use Prim.Native.Nat.{ℕ, suc, ◌+◌, ◌-◌, ◌*◌, ◌/◌, ◌%◌, ◌<◌, ◌≤◌}
use native.Mathlib.Omega.{arith}
use lib.Dec.{leb}
use lib.ListN.{length, get_or, set, length-set, length-replicate}
use borrow.Author.Tests.{lt-ltb, le-ltb, le-leb, lt-leb, eqb-true}
use Rattle.laws.specs.Choice.{pick, both, no}
use Rattle.laws.specs.Bytes.{put_w, fits}
use Rattle.laws.proofs.Choice.{both_right, no_true, no_false}
use Rattle.laws.proofs.Splice.{lt-or-ge}
use Rattle.laws.proofs.Scan.{first_holds, first-before}
use Rattle.laws.proofs.Put.{length_part, length-put_w}
use Rattle.laws.proofs.Pigeon.{pigeon}
use lib.Arith.{digits_lt, digits_div, digits_mod}
use Rattle.geometry.specs.declared.Shape.{Shape}
use Rattle.geometry.specs.Shape.{at_hand, below_top}
use Rattle.geometry.specs.TagMemory.{block_place}
use Rattle.geometry.proofs.Shapes.{below-hand}
use Rattle.block.specs.Block.{block_or0}
use Rattle.tracker.specs.declared.Transfers.{Transfers}
use Rattle.tracker.specs.Transfers.{none}
use Rattle.line.specs.Word.{used, block_of, changed, holder, held, word, line_blocks}
use Rattle.line.specs.Find.{line_of, lowest_free, loose_from, victim, after}
use Rattle.rules.specs.State.{Rows}
use Rattle.rules.specs.Copies.{fetch, tally}
use Rattle.rules.specs.Place.{line_bytes, rows_fit, place_line, place_hand, written_back, place_memory, place_copies, Brought, filled, with_memory, bring_in, create}
use Rattle.line.proofs.Words.{block_of-word, holder-word, not-used, used-word}
use Rattle.rules.proofs.Words.{held-holder, held-used, holder-free, loose-holder}
use Rattle.rules.proofs.Lined.{at, Has, Claim, Kept, Unkept, Lined, low, line_of-has, line_of-none, unkept-loose, loose-lined, has_here, at_other, new-or-old, holder-here}

loose-test : (lines : List ℕ) (l from : ℕ) → loose_from lines l from < l → holder (at lines (loose_from lines l from)) ≡ 0
unfolding loose_from
loose-test lines l from q = loose-holder _ (no_true _ (both_right _ _ (first_holds (λ i. both (leb from i) (no (held (get_or lines i 0)))) l q)))

-- nothing is loose from 0 on: every line is held
all_held : (lines : List ℕ) (l : ℕ) → l ≤ loose_from lines l 0 → (i : ℕ) → i < l → 0 < holder (at lines i)
unfolding loose_from both
all_held lines l q i il =
    let f : both (leb 0 i) (no (held (get_or lines i 0))) ≡ false = first-before (λ j. both (leb 0 j) (no (held (get_or lines j 0)))) l i (omega arith) in
    held-holder _ (no_false _ (rw (le-leb 0 i (omega arith)) at f))

free-test : (lines : List ℕ) (l : ℕ) → lowest_free lines l < l → at lines (lowest_free lines l) ≡ 0
unfolding lowest_free
free-test lines l q = not-used _ (no_true _ (first_holds (λ i. no (used (get_or lines i 0))) l q))

victim-near : (lines : List ℕ) (l hand : ℕ) → loose_from lines l hand < l → victim lines l hand ≡ loose_from lines l hand
unfolding victim
victim-near lines l hand q = rw (lt-ltb _ _ q)

victim-far : (lines : List ℕ) (l hand : ℕ) → l ≤ loose_from lines l hand → victim lines l hand ≡ loose_from lines l 0
unfolding victim
victim-far lines l hand q = rw (le-ltb _ _ q)

-- a pair of a number and a digit, as one number
pair_one : {x y h k j : ℕ} → k < h → j < h → x * h + k ≡ y * h + j → (x ≡ y) × (k ≡ j)
pair_one {x} {y} {h} {k} {j} p q e =
    (sym (digits_div x p) ∙ ap (λ (z : ℕ). z / h) e ∙ digits_div y q, sym (digits_mod x p) ∙ ap (λ (z : ℕ). z % h) e ∙ digits_mod y q)

module _ {B l t h : ℕ} {c : ℕ → Claim} {lines : List ℕ} (v : Lined B l t h c lines) (few : t * h < l) where
  line-has : (i : ℕ) → 0 < holder (at lines i) → Has lines i (block_of (at lines i))
  line-has i p = record { is-used = held-used _ p; is_block = refl }

  -- the block that line i's holder keeps in it
  keeping : (p : (i : ℕ) → i < l → 0 < holder (at lines i)) (i : ℕ) (il : i < l) → Kept h (c (holder (at lines i) - 1)) (block_of (at lines i))
  keeping p i il = (v.named i _ (line-has i (p i il)) (p i il)).1

  who-lt : (p : (i : ℕ) → i < l → 0 < holder (at lines i)) (i : ℕ) → i < l → holder (at lines i) - 1 < t
  who-lt p i il = let y = (v.named i _ (line-has i (p i il)) (p i il)).0 in let z = p i il in omega arith

  module _ (p : (i : ℕ) → i < l → 0 < holder (at lines i)) where
    -- line i's holder, and the level of its block, as one number
    number : (i : ℕ) → (i < l) ⊎ (l ≤ i) → ℕ
    number i (inl il) = (holder (at lines i) - 1) * h + (keeping p i il).below
    number i (inr q) = 0

    number_lt : (i : ℕ) (d : (i < l) ⊎ (l ≤ i)) → i < l → number i d < t * h
    unfolding number
    number_lt i (inl il) q = digits_lt (who-lt p i il) (keeping p i il).below-lt
    number_lt i (inr n) q = absurd (omega arith)

    number-one : (i j : ℕ) (d : (i < l) ⊎ (l ≤ i)) (d' : (j < l) ⊎ (l ≤ j)) → i < l → j < l → number i d ≡ number j d' → i ≡ j
    unfolding number
    number-one i j (inr n) d' q q' e = absurd (omega arith)
    number-one i j (inl il) (inr n) q q' e = absurd (omega arith)
    number-one i j (inl il) (inl jl) q q' e =
        let o = keeping p i il in
        let o' = keeping p j jl in
        let d = pair_one o.below-lt o'.below-lt e in
        let b : block_of (at lines i) ≡ block_of (at lines j) =
        sym o.its-block ∙ ap (λ (z : ℕ). (c z).block (suc o.below)) d.0 ∙ ap (λ (z : ℕ). (c (holder (at lines j) - 1)).block (suc z)) d.1 ∙ o'.its-block in
        v.apart.one i j _ (line-has i (p i il)) (record { is-used = held-used _ (p j jl); is_block = sym b })

  -- each held line has a number of its own, of t * h, so not all are held
  some-loose : loose_from lines l 0 < l
  some-loose = ⊎_elim (λ q. q) (λ q. absurd (crowd q)) (lt-or-ge (loose_from lines l 0) l)
    where
      crowd : l ≤ loose_from lines l 0 → ⊥
      crowd q =
          let p = all_held lines l q in
          let r : l ≤ t * h = pigeon (t * h) l (λ i. number p i (lt-or-ge i l)) (λ i il. number_lt p i (lt-or-ge i l) il)
          (λ i j il jl e. number-one p i j (lt-or-ge i l) (lt-or-ge j l) il jl e) in
          omega arith

  -- "the first line at or after the hand, round the circle, that no tracker holds": there is one
  pub victim-loose : (hand : ℕ) → (victim lines l hand < l) × (holder (at lines (victim lines l hand)) ≡ 0)
  victim-loose hand = go (lt-or-ge (loose_from lines l hand) l)
    where
      go : (loose_from lines l hand < l) ⊎ (l ≤ loose_from lines l hand) → (victim lines l hand < l) × (holder (at lines (victim lines l hand)) ≡ 0)
      go (inl q) = rw (victim-near lines l hand q) (q, loose-test lines l hand q)
      go (inr q) = rw (victim-far lines l hand q) (some-loose, loose-test lines l 0 some-loose)

pub after-lt : (l i : ℕ) → i < l → after l i < l
unfolding after
after-lt l i q = ⊎_elim (λ (p : i + 1 < l). rw (lt-ltb _ _ p) p) (λ (p : l ≤ i + 1). rw (le-ltb _ _ p) (omega arith)) (lt-or-ge (i + 1) l)

-- a law for each way out of placing
module _ (shape : Shape) (lines bytes : List ℕ) (fit : rows_fit shape.l lines bytes ≡ true) where
  pub place-free : lowest_free lines shape.l < shape.l → place_line shape lines bytes ≡ lowest_free lines shape.l
  unfolding place_line
  place-free q = rw (fit, lt-ltb _ _ q)

  pub place-victim : shape.l ≤ lowest_free lines shape.l → place_line shape lines bytes ≡ victim lines shape.l shape.hand
  unfolding place_line
  place-victim q = rw (fit, le-ltb _ _ q)

  pub hand-free : lowest_free lines shape.l < shape.l → place_hand shape lines bytes ≡ shape.hand
  unfolding place_hand both
  hand-free q = rw (fit, lt-leb _ _ q)

  pub hand-victim : shape.l ≤ lowest_free lines shape.l → victim lines shape.l shape.hand < shape.l → place_hand shape lines bytes ≡ after shape.l (victim lines shape.l shape.hand)
  unfolding place_hand both
  hand-victim q p = rw (fit, le-leb _ _ q, lt-ltb _ _ p)

module _ (shape : Shape) {B h : ℕ} {c : ℕ → Claim} (r : Rows) (v : Lined B shape.l shape.t h c r.lines) (few : shape.t * h < shape.l) (fit : rows_fit shape.l r.lines r.bytes ≡ true) where
  -- placing takes a line that nobody holds
  pub place-loose : (place_line shape r.lines r.bytes < shape.l) × (holder (at r.lines (place_line shape r.lines r.bytes)) ≡ 0)
  place-loose = go (lt-or-ge (lowest_free r.lines shape.l) shape.l)
    where
      go : (lowest_free r.lines shape.l < shape.l) ⊎ (shape.l ≤ lowest_free r.lines shape.l)
          → (place_line shape r.lines r.bytes < shape.l) × (holder (at r.lines (place_line shape r.lines r.bytes)) ≡ 0)
      go (inl q) = rw (place-free shape r.lines r.bytes fit q) (q, ap holder (free-test r.lines shape.l q) ∙ holder-free)
      go (inr q) = rw (place-victim shape r.lines r.bytes fit q) (victim-loose v few shape.hand)

  pub place-hand : shape.hand < shape.l → place_hand shape r.lines r.bytes < shape.l
  place-hand h = go (lt-or-ge (lowest_free r.lines shape.l) shape.l)
    where
      go : (lowest_free r.lines shape.l < shape.l) ⊎ (shape.l ≤ lowest_free r.lines shape.l) → place_hand shape r.lines r.bytes < shape.l
      go (inl q) = rw (hand-free shape r.lines r.bytes fit q) h
      go (inr q) = rw (hand-victim shape r.lines r.bytes fit q (victim-loose v few shape.hand).0) (after-lt shape.l _ (victim-loose v few shape.hand).0)

  bytes-long : length r.bytes ≡ 64 * shape.l
  unfolding rows_fit
  bytes-long = eqb-true _ _ (both_right _ _ fit)

  pub written-length : (i : ℕ) → i < shape.l → length (written_back r.lines r.bytes r.memory i) ≡ length r.memory
  unfolding written_back
  written-length i q = go (changed (get_or r.lines i 0))
    where
      go : (c : Bool) → length (pick c (put_w 64 r.memory (block_place (block_of (get_or r.lines i 0))) (line_bytes r.bytes i)) r.memory) ≡ length r.memory
      go true = length-put_w 64 r.memory _ (line_bytes r.bytes i) (length_part r.bytes (64 * i) 64 (omega (arith, bytes-long)))
      go false = refl

  pub place-memory : place_memory shape r ≡ written_back r.lines r.bytes r.memory (place_line shape r.lines r.bytes)
  unfolding place_memory
  place-memory = rw (lt-ltb _ _ place-loose.0)

  pub place-memory-length : length (place_memory shape r) ≡ length r.memory
  place-memory-length = ap length place-memory ∙ written-length _ place-loose.0

pub block_or0-length : (m : List ℕ) (a : ℕ) → length (block_or0 m a) ≡ 64
unfolding block_or0 fits
block_or0-length m a = ⊎_elim (λ (q : length m < a + 64). rw (lt-leb _ _ q) (length-replicate {A = ℕ} 64 0))
    (λ (q : a + 64 ≤ length m). rw (le-leb _ _ q) (length_part m a 64 q)) (lt-or-ge (length m) (a + 64))

-- block b, which nobody keeps, goes into line i, which nobody holds and which has it already or no other line does; changed or clean
module _ {B l t h : ℕ} {c : ℕ → Claim} {lines : List ℕ} (v : Lined B l t h c lines) (i b : ℕ) (il : i < l) (z : holder (at lines i) ≡ 0)
    (bl : b < B) (small : B < line_blocks) (alone : (j : ℕ) → (j ≡ i → ⊥) → Has lines j b → ⊥) (unkept : Unkept t h c b) (d : Bool) where
  fits_word : b < line_blocks
  fits_word = omega arith

  is_b : block_of (word b d 0) ≡ b
  is_b = block_of-word b d 0 fits_word (omega arith)

  pub fill-lined : Lined B l t h c (set lines i (word b d 0))
  fill-lined = loose-lined v i (word b d 0) il z (holder-word b d 0 fits_word (omega arith)) (λ _. rw is_b bl) (λ _ j n f. alone j n (rw is_b at f)) (λ _. rw is_b unkept)

  pub fill-has : Has (set lines i (word b d 0)) i b
  fill-has = has_here v.apart i (word b d 0) il b (used-word b d 0 fits_word (omega arith)) is_b

  pub fill-loose : holder (at (set lines i (word b d 0)) i) ≡ 0
  fill-loose = holder-here v.apart i (word b d 0) il ∙ holder-word b d 0 fits_word (omega arith)

  pub fill-keeps : (j : ℕ) → 0 < holder (at lines j) → at (set lines i (word b d 0)) j ≡ at lines j
  fill-keeps j p = at_other v.apart i (word b d 0) il j (λ q. let y : holder (at lines j) ≡ 0 = ap (λ (k : ℕ). holder (at lines k)) q ∙ z in omega arith)

  pub fill-others : (j e : ℕ) → (e ≡ b → ⊥) → Has (set lines i (word b d 0)) j e → Has lines j e
  fill-others j e n f = ⊎_elim (λ q. absurd (n (sym q.2 ∙ is_b))) (λ q. q.1) (new-or-old v.apart i (word b d 0) il j e f)

-- the shape that a step leaves: the hand alone has moved, to a line
pub record Shaped (shape after : Shape) : Type 0 where
  pub hand-lt : after.hand < shape.l
  pub is-shape : after ≡ at_hand shape after.hand

pub unmoved : {shape : Shape} → shape.hand < shape.l → Shaped shape shape
unmoved q = record { hand-lt = q; is-shape = refl }

pub moved_to : {shape : Shape} {h : ℕ} → h < shape.l → Shaped shape (at_hand shape h)
moved_to q = record { hand-lt = q; is-shape = refl }

-- and its levels are the same
pub same-levels : {shape after : Shape} → Shaped shape after → below_top after ≡ below_top shape
same-levels {shape} {after} s = ap below_top s.is-shape ∙ below-hand shape after.hand

-- a law for each way out of bringing in
module _ (shape : Shape) (b : ℕ) (r : Rows) where
  pub bring-found : line_of r.lines shape.l b < shape.l → bring_in shape b r ≡ (record { line = line_of r.lines shape.l b; shape = shape; rows = r; copies = none })
  unfolding bring_in
  bring-found q = rw (lt-ltb _ _ q)

  pub bring-placed : shape.l ≤ line_of r.lines shape.l b → place_line shape r.lines r.bytes < shape.l
      → bring_in shape b r ≡ (record {
        line = place_line shape r.lines r.bytes;
        shape = at_hand shape (place_hand shape r.lines r.bytes);
        rows = filled (with_memory r (place_memory shape r)) (place_line shape r.lines r.bytes) b false (block_or0 (place_memory shape r) (block_place b));
        copies = tally (place_copies shape r ++ fetch b ∷ []);
      })
  unfolding bring_in
  bring-placed q p = rw (le-ltb _ _ q, lt-ltb _ _ p)

  pub bring-none : shape.l ≤ line_of r.lines shape.l b → shape.l ≤ place_line shape r.lines r.bytes → bring_in shape b r ≡ (record { line = shape.l; shape = shape; rows = r; copies = none })
  unfolding bring_in
  bring-none q p = rw (le-ltb _ _ q, le-ltb _ _ p)

-- a law for each way out of creating
module _ (shape : Shape) (b : ℕ) (y : List ℕ) (r : Rows) where
  pub create-found : line_of r.lines shape.l b < shape.l
      → create shape b y r ≡ (record { line = line_of r.lines shape.l b; shape = shape; rows = filled r (line_of r.lines shape.l b) b true y; copies = none })
  unfolding create
  create-found q = rw (lt-ltb _ _ q)

  pub create-placed : shape.l ≤ line_of r.lines shape.l b → place_line shape r.lines r.bytes < shape.l
      → create shape b y r ≡ (record {
        line = place_line shape r.lines r.bytes;
        shape = at_hand shape (place_hand shape r.lines r.bytes);
        rows = filled (with_memory r (place_memory shape r)) (place_line shape r.lines r.bytes) b true y;
        copies = tally (place_copies shape r);
      })
  unfolding create
  create-placed q p = rw (le-ltb _ _ q, lt-ltb _ _ p)

-- rows that are as long as others
pub record AsLong (r o : Rows) : Type 0 where
  pub lines_long : length o.lines ≡ length r.lines
  pub bytes-long : length o.bytes ≡ length r.bytes
  pub memory-long : length o.memory ≡ length r.memory

pub as_long : {r : Rows} → AsLong r r
as_long = record { lines_long = refl; bytes-long = refl; memory-long = refl }

-- what bringing block b in gives, and creating it: it is in a line that nobody holds; held lines stay, and no other block comes into a line
pub record Brings (shape : Shape) (B h : ℕ) (c : ℕ → Claim) (r : Rows) (b : ℕ) (o : Brought) : Type 0 where
  pub line-lt : o.line < shape.l
  pub shaped : Shaped shape o.shape
  pub has-it : Has o.rows.lines o.line b
  pub lined : Lined B shape.l shape.t h c o.rows.lines
  pub loose : holder (at o.rows.lines o.line) ≡ 0
  pub keeps : (j : ℕ) → 0 < holder (at r.lines j) → at o.rows.lines j ≡ at r.lines j
  pub others : (j e : ℕ) → (e ≡ b → ⊥) → Has o.rows.lines j e → Has r.lines j e
  pub long : AsLong r o.rows

-- of a block that nobody keeps
module _ (shape : Shape) {B h : ℕ} {c : ℕ → Claim} (r : Rows) (b : ℕ) (v : Lined B shape.l shape.t h c r.lines) (few : shape.t * h < shape.l) (fit : rows_fit shape.l r.lines r.bytes ≡ true)
    (hl : shape.hand < shape.l) (bl : b < B) (small : B < line_blocks) (unkept : Unkept shape.t h c b) where
  -- the block in line i with these bytes, after a memory of the same length
  fills : (i : ℕ) → i < shape.l → holder (at r.lines i) ≡ 0 → ((j : ℕ) → (j ≡ i → ⊥) → Has r.lines j b → ⊥) → (d : Bool) (y m : List ℕ) → length y ≡ 64 → length m ≡ length r.memory
      → (after : Shape) → Shaped shape after → (k : Transfers) → Brings shape B h c r b (record { line = i; shape = after; rows = filled (with_memory r m) i b d y; copies = k })
  fills i il z alone d y m yl ml after s k = record {
    line-lt = il;
    shaped = s;
    has-it = fill-has v i b il z bl small alone unkept d;
    lined = fill-lined v i b il z bl small alone unkept d;
    loose = fill-loose v i b il z bl small alone unkept d;
    keeps = fill-keeps v i b il z bl small alone unkept d;
    others = fill-others v i b il z bl small alone unkept d;
    long = record { lines_long = length-set r.lines i _; bytes-long = length-put_w 64 r.bytes _ y yl; memory-long = ml };
  }

  alone-there : (i : ℕ) → Has r.lines i b → (j : ℕ) → (j ≡ i → ⊥) → Has r.lines j b → ⊥
  alone-there i f j n g = n (v.apart.one j i b g f)

  -- where it has no line, it is placed
  places : shape.l ≤ line_of r.lines shape.l b → (d : Bool) (y : List ℕ) → length y ≡ 64 → (k : Transfers)
      → Brings shape B h c r b (record {
        line = place_line shape r.lines r.bytes;
        shape = at_hand shape (place_hand shape r.lines r.bytes);
        rows = filled (with_memory r (place_memory shape r)) (place_line shape r.lines r.bytes) b d y;
        copies = k;
      })
  places q d y yl k =
      let p = place-loose shape r v few fit in
      fills (place_line shape r.lines r.bytes) p.0 p.1 (λ j n f. line_of-none r.lines shape.l b j q (low v.apart j b f) f) d y (place_memory shape r) yl
      (place-memory-length shape r v few fit) _ (moved_to (place-hand shape r v few fit hl)) k

  pub brings : Brings shape B h c r b (bring_in shape b r)
  brings = go (lt-or-ge (line_of r.lines shape.l b) shape.l)
    where
      go : (line_of r.lines shape.l b < shape.l) ⊎ (shape.l ≤ line_of r.lines shape.l b) → Brings shape B h c r b (bring_in shape b r)
      go (inl q) = let f = line_of-has r.lines shape.l b q in rw (bring-found shape b r q) (record {
        line-lt = q;
        shaped = unmoved hl;
        has-it = f;
        lined = v;
        loose = unkept-loose v _ b f unkept;
        keeps = λ j p. refl;
        others = λ j e n g. g;
        long = as_long;
      })
      go (inr q) = rw (bring-placed shape b r q (place-loose shape r v few fit).0) (places q false _ (block_or0-length _ _) _)

  pub creates : (y : List ℕ) → length y ≡ 64 → Brings shape B h c r b (create shape b y r)
  creates y yl = go (lt-or-ge (line_of r.lines shape.l b) shape.l)
    where
      go : (line_of r.lines shape.l b < shape.l) ⊎ (shape.l ≤ line_of r.lines shape.l b) → Brings shape B h c r b (create shape b y r)
      go (inl q) = let f = line_of-has r.lines shape.l b q in rw (create-found shape b y r q)
          (fills (line_of r.lines shape.l b) q (unkept-loose v _ b f unkept) (alone-there _ f) true y r.memory yl refl shape (unmoved hl) none)
      go (inr q) = rw (create-placed shape b y r q (place-loose shape r v few fit).0) (places q true y yl _)
