-- Probe of a leaf and Leaf on rows that are lent, with their refusal where the rows are not of L lines.
use Rattle.laws.specs.Choice.{pick, both}
use Rattle.geometry.specs.declared.Shape.{Shape}
use Rattle.geometry.specs.Shape.{top_of}
use Rattle.geometry.specs.TagMemory.{in_limits_of}
use Rattle.tracker.specs.declared.Tracker.{Tracker}
use Rattle.rules.specs.State.{Rows}
use Rattle.rules.specs.Place.{rows_fit}
use Rattle.rules.specs.Step.{Turned, refuses, probe, under}

-- "Probe": 4 where the rows are not of L lines
unfoldable pub probe_on : Shape → Tracker → Rows → Turned
probe_on shape t r = pick (rows_fit shape.l r.lines r.bytes) (probe shape 0 t r) (refuses 4 t shape r)

-- "Leaf, read" and "Leaf, write", which name no tracker in a line: 4 where there is no such device, or the rows are not of L lines
unfoldable pub leaf_on : Shape → Tracker → Rows → Turned
leaf_on shape t r = pick (both (in_limits_of (top_of shape) shape.n) (rows_fit shape.l r.lines r.bytes)) (under shape 0 0 t r) (refuses 4 t shape r)
