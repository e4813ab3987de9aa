-- 01 "The cache": placing a block, bringing one in, writing one back, draining; 02 E4: the copies of each.
use Rattle.std.specs.Prelude.{List, [], ◌∷◌, ◌++◌, Bool, true, false, ℕ, zero, suc, ◌*◌, eqb, ltb, leb, length, get_or, set}
use Rattle.laws.specs.Choice.{pick, both}
use Rattle.laws.specs.Bytes.{part, put_w}
use Rattle.geometry.specs.declared.Shape.{Shape}
use Rattle.geometry.specs.Shape.{at_hand}
use Rattle.geometry.specs.TagMemory.{block_place}
use Rattle.block.specs.Block.{block_or0}
use Rattle.tracker.specs.declared.Transfers.{Transfers}
use Rattle.tracker.specs.Transfers.{none}
use Rattle.line.specs.Word.{block_of, changed, word, cleaned}
use Rattle.line.specs.Find.{line_of, lowest_free, victim, after}
use Rattle.rules.specs.State.{Rows}
use Rattle.rules.specs.Copies.{Copy, fetch, back, tally}

-- the 64 bytes of line i
abbrev pub line_bytes : List ℕ → ℕ → List ℕ
line_bytes bytes i = part bytes (block_place i) 64

-- the rows are of L lines
unfoldable pub rows_fit : ℕ → List ℕ → List ℕ → Bool
rows_fit l lines bytes = both (leb l (length lines)) (eqb (length bytes) (64 * l))

-- "Placing a block takes the lowest free line; with none free, the first line at or after the hand .. that no tracker holds."
-- L where there is none, as where the rows are not of L lines.
unfoldable pub place_line : Shape → List ℕ → List ℕ → ℕ
place_line shape lines bytes =
    let l = shape.l in
    pick (rows_fit l lines bytes) (pick (ltb (lowest_free lines l) l) (lowest_free lines l) (victim lines l shape.hand)) l

-- "the hand then moves to the line after it .. A free line leaves the hand where it was."
unfoldable pub place_hand : Shape → List ℕ → List ℕ → ℕ
place_hand shape lines bytes =
    let l = shape.l in
    let i = victim lines l shape.hand in
    pick (both (rows_fit l lines bytes) (leb l (lowest_free lines l))) (pick (ltb i l) (after l i) shape.hand) shape.hand

-- "That line, if changed, is first written to its block's own place in the lent memory": memory after that, for line i
unfoldable pub written_back : List ℕ → List ℕ → List ℕ → ℕ → List ℕ
written_back lines bytes memory i =
    pick (changed (get_or lines i 0)) (put_w 64 memory (block_place (block_of (get_or lines i 0))) (line_bytes bytes i)) memory

-- the copy that this is
unfoldable pub back_of : List ℕ → ℕ → List Copy
back_of lines i = pick (changed (get_or lines i 0)) (back (block_of (get_or lines i 0)) ∷ []) []

-- memory after placing
unfoldable pub place_memory : Shape → Rows → List ℕ
place_memory shape r =
    let i = place_line shape r.lines r.bytes in
    pick (ltb i shape.l) (written_back r.lines r.bytes r.memory i) r.memory

-- the copies of placing
unfoldable pub place_copies : Shape → Rows → List Copy
place_copies shape r =
    let i = place_line shape r.lines r.bytes in
    pick (ltb i shape.l) (back_of r.lines i) []

-- a line, the shape with its hand, the rows and the sums of the copies after a block was brought in;
-- the line is L where there was none to take, and then nothing changed
pub record Brought : Type 0 where
  pub line : ℕ
  pub shape : Shape
  pub rows : Rows
  pub copies : Transfers

-- block b in line i with its bytes, changed or clean
abbrev pub filled : Rows → ℕ → ℕ → Bool → List ℕ → Rows
filled r i b c y = record { lines = set r.lines i (word b c 0); bytes = put_w 64 r.bytes (block_place i) y; memory = r.memory }

abbrev pub with_memory : Rows → List ℕ → Rows
with_memory r m = record { lines = r.lines; bytes = r.bytes; memory = m }

abbrev pub with_lines : Rows → List ℕ → Rows
with_lines r ls = record { lines = ls; bytes = r.bytes; memory = r.memory }

-- "Bring in" means: use the line that has the block, else place it and copy 64 bytes from memory, clean.
unfoldable pub bring_in : Shape → ℕ → Rows → Brought
bring_in shape b r =
    let l = shape.l in
    let i = line_of r.lines l b in
    let p = place_line shape r.lines r.bytes in
    let m = place_memory shape r in
    pick (ltb i l) (record { line = i; shape = shape; rows = r; copies = none })
    (pick (ltb p l)
    (record {
      line = p;
      shape = at_hand shape (place_hand shape r.lines r.bytes);
      rows = filled (with_memory r m) p b false (block_or0 m (block_place b));
      copies = tally (place_copies shape r ++ fetch b ∷ []);
    })
    (record { line = l; shape = shape; rows = r; copies = none }))

-- "the leaf goes into its line if it has one, else is placed; changed": block b with these bytes, which are never fetched
unfoldable pub create : Shape → ℕ → List ℕ → Rows → Brought
create shape b y r =
    let l = shape.l in
    let i = line_of r.lines l b in
    let p = place_line shape r.lines r.bytes in
    pick (ltb i l) (record { line = i; shape = shape; rows = filled r i b true y; copies = none })
    (pick (ltb p l)
    (record {
      line = p;
      shape = at_hand shape (place_hand shape r.lines r.bytes);
      rows = filled (with_memory r (place_memory shape r)) p b true y;
      copies = tally (place_copies shape r);
    })
    (record { line = l; shape = shape; rows = r; copies = none }))

-- the copies of bringing in, and of creating
unfoldable pub bring_copies : Shape → ℕ → Rows → List Copy
bring_copies shape b r =
    pick (ltb (line_of r.lines shape.l b) shape.l) []
    (pick (ltb (place_line shape r.lines r.bytes) shape.l) (place_copies shape r ++ fetch b ∷ []) [])

unfoldable pub create_copies : Shape → ℕ → Rows → List Copy
create_copies shape b r = pick (ltb (line_of r.lines shape.l b) shape.l) [] (place_copies shape r)

-- "Drain writes changed lines to memory, lowest line first, and marks them clean; the lines stay.": the first i lines
unfoldable pub drained : ℕ → Rows → Rows
drained zero r = r
drained (suc i) r =
    let d = drained i r in
    record { lines = set d.lines i (cleaned (get_or d.lines i 0)); bytes = d.bytes; memory = written_back d.lines d.bytes d.memory i }

-- the copies of draining
unfoldable pub drain_copies : ℕ → Rows → List Copy
drain_copies zero r = []
drain_copies (suc i) r = drain_copies i r ++ back_of (drained i r).lines i
