-- What placing, bringing in and draining promise of rows that are lent, 01 "The cache", with the sums of their copies, 02 E4.
use Rattle.std.specs.Prelude.{List, [], ◌∷◌, ◌++◌, false, ℕ, ltb, Option, Some, None}
use Rattle.laws.specs.Choice.{pick}
use Rattle.geometry.specs.declared.Shape.{Shape}
use Rattle.geometry.specs.Shape.{at_hand}
use Rattle.geometry.specs.TagMemory.{block_place}
use Rattle.block.specs.Block.{block_or0}
use Rattle.tracker.specs.declared.Transfers.{Transfers}
use Rattle.tracker.specs.Transfers.{none}
use Rattle.rules.specs.State.{Rows}
use Rattle.rules.specs.Copies.{fetch, tally}
use Rattle.rules.specs.Place.{rows_fit, place_line, place_hand, place_memory, place_copies, Brought, filled, with_memory, drained, drain_copies}
use Rattle.placing.specs.declared.Spot.{Spot}

-- the rows, as they are lent
abbrev pub rows : List ℕ → List ℕ → List ℕ → Rows
rows lines bytes memory = record { lines = lines; bytes = bytes; memory = memory }

-- "Placing a block": the line that is taken, the shape with its hand, the rows, of which only memory can have changed, and the copies
abbrev pub placed : Shape → Rows → Brought
placed shape r = record {
  line = place_line shape r.lines r.bytes;
  shape = at_hand shape (place_hand shape r.lines r.bytes);
  rows = with_memory r (place_memory shape r);
  copies = tally (place_copies shape r);
}

-- "else place it and copy 64 bytes from memory, clean": bringing in a block that no line has. The line is L where there was none to take.
unfoldable pub fetched : Shape → ℕ → Rows → Brought
fetched shape b r =
    let p = placed shape r in
    pick (ltb p.line shape.l)
    (record {
      line = p.line;
      shape = p.shape;
      rows = filled p.rows p.line b false (block_or0 p.rows.memory (block_place b));
      copies = tally (place_copies shape r ++ fetch b ∷ []);
    })
    (record { line = shape.l; shape = shape; rows = r; copies = none })

-- what a function leaves: the line, the shape, the rows and the copies
abbrev pub brought : Spot → List ℕ → List ℕ → List ℕ → Brought
brought r lines bytes memory = record { line = r.line; shape = r.shape; rows = rows lines bytes memory; copies = r.copies }

-- the same, where a line may be taken: with none it is line L, with the shape as it came and no copies
abbrev pub brought_if : Shape → Option Spot → List ℕ → List ℕ → List ℕ → Brought
brought_if shape (Some s) lines bytes memory = brought s lines bytes memory
brought_if shape None lines bytes memory = record { line = shape.l; shape = shape; rows = rows lines bytes memory; copies = none }

-- rows that are drained, and the copies of that
pub record Drained : Type 0 where
  pub rows : Rows
  pub copies : Transfers

-- the first l lines drained
abbrev pub all_drained : ℕ → Rows → Drained
all_drained l r = record { rows = drained l r; copies = tally (drain_copies l r) }

-- the rows drained, where they are of L lines; else as they came
unfoldable pub drained_on : Shape → Rows → Drained
drained_on shape r = pick (rows_fit shape.l r.lines r.bytes) (all_drained shape.l r) (record { rows = r; copies = none })

-- what draining leaves: the rows and the copies
abbrev pub leaves : Transfers → List ℕ → List ℕ → List ℕ → Drained
leaves r lines bytes memory = record { rows = rows lines bytes memory; copies = r }
