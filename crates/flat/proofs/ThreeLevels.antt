-- The course of accesses over three levels, computed: a write of 5 to group 0 of an empty row sets the bit over its leaf and the bit over its map block, a write of 0 clears both;
-- beside another leaf with a tag neither touches the upper bit.
use mathlib.Core.Path.{◌≡◌, refl}
use mathlib.Core.Bool.{Bool, true, false}
use Prim.Native.Nat.{ℕ}
use Rattle.laws.specs.Choice.{both, implies, no}
use Rattle.laws.specs.Scan.{all, some}
use Rattle.geometry.specs.TagMemory.{leaf_of, groups, map_block_of, index}
use Rattle.tracker.specs.declared.Phase.{Phase}
use Rattle.tracker.specs.declared.Phase.TheVariants.{Probe, Top, Under, Set, Clear}
use Rattle.tracker.specs.declared.Tracker.{Tracker}
use Rattle.tracker.specs.Tracker.{issued, read_of, write_of}
use Rattle.flat.specs.Levels.{reaches, others}
use Rattle.flat.specs.Flat.{Row, put, tagged, Course, waits, goes, ends, takes, finishes, course}

-- the level below the top is 1
abbrev turn : Row → (held : Bool) → Tracker → Phase → Course
turn row held t p = course 1 row (λ e. true) held t p

abbrev empty : Row
empty g = 0

-- group 0 alone has a tag; and so has group 16, of another leaf under the same map block
abbrev one : Row
one = put empty 0 5

abbrev two : Row
two = put one 16 7

abbrev writes : ℕ → Tracker
writes v = issued (write_of false 0 v)

abbrev reads : Tracker
reads = issued (read_of true 0)

pub record Computed : Type 0 where
  -- a leaf and a map block are created, and the bits over both are set
  pub set-top : turn empty false (writes 5) Top ≡ goes (Under 1)
  pub set-map : turn empty false (writes 5) (Under 1) ≡ goes (Under 0)
  pub set-leaf : turn empty false (writes 5) (Under 0) ≡ takes (Set 0)
  pub set-bit : turn one false (writes 5) (Set 0) ≡ goes (Set 1)
  pub set_last : turn one false (writes 5) (Set 1) ≡ finishes
  -- both are emptied, and the bits over both are cleared
  pub clear-leaf : turn one false (writes 0) (Under 0) ≡ takes (Clear 0)
  pub clear-bit : turn empty false (writes 0) (Clear 0) ≡ goes (Clear 1)
  pub clear-last : turn empty false (writes 0) (Clear 1) ≡ finishes
  -- beside another leaf with a tag the bit over the map block stays
  pub set-beside : turn two false (writes 5) (Set 0) ≡ finishes
  pub clear-beside : turn (put empty 16 7) false (writes 0) (Clear 0) ≡ finishes
  -- a read under no tag ends at the top block, or at Probe map unless that is held; it waits for a held top block
  pub read-top : turn empty false reads Top ≡ ends
  pub read-map : turn empty false reads (Probe 1) ≡ ends
  pub read_held : turn empty true reads (Probe 1) ≡ goes Top
  pub read-waits : turn empty true reads Top ≡ waits
  -- under one it goes down to its leaf
  pub read-on : turn one false reads (Under 1) ≡ goes (Under 0)
  pub read-leaf : turn one false reads (Under 0) ≡ ends

pub computed : Computed
unfolding both implies no all some leaf_of groups map_block_of index reaches others tagged
computed = record {
  set-top = refl;
  set-map = refl;
  set-leaf = refl;
  set-bit = refl;
  set_last = refl;
  clear-leaf = refl;
  clear-bit = refl;
  clear-last = refl;
  set-beside = refl;
  clear-beside = refl;
  read-top = refl;
  read-map = refl;
  read_held = refl;
  read-waits = refl;
  read-on = refl;
  read-leaf = refl;
}
