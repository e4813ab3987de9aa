-- What lines and memory contain, over the levels 0 to top, as functions of level and block, with no bytes; and the invariant that joins them to the row.
use mathlib.Core.Path.{◌≡◌}
use mathlib.Core.Bool.{Bool, true, false}
use mathlib.Core.List.{List}
use mathlib.Core.Logic.{◌⊎◌}
use Prim.Native.Nat.{ℕ, zero, suc, ◌+◌, ◌*◌, ◌≤◌, ◌<◌}
use lib.Dec.{eqb}
use lib.ListN.{length}
use Rattle.laws.specs.Choice.{both, no}
use Rattle.laws.specs.Scan.{some}
use Rattle.geometry.specs.TagMemory.{values, leaf_of, block_bits, map_block_of, index}
use Rattle.tracker.specs.declared.Phase.{Phase}
use Rattle.tracker.specs.declared.Phase.TheVariants.{Idle, Probe, Top, Under, Set, Clear}
use Rattle.tracker.specs.declared.Tracker.{Tracker}
use Rattle.tracker.specs.Tracker.{holds_at, at_finish, level_of, asks_at}
use Rattle.rules.specs.State.{tracker_at}
use Rattle.rules.specs.Step.{asks_zero}
use Rattle.flat.specs.Flat.{Row, tagged}

-- Contents: group g in its leaf; the bit OVER block k of level e, which is in block `map_block_of k` of level e + 1; and whether block j of level e is in a line.
-- A block that does not exist reads 0, and is in no line.
pub record View : Type 0 where
  pub group : ℕ → ℕ
  pub bits : ℕ → ℕ → Bool
  pub lined : ℕ → ℕ → Bool

unfoldable pub differ : Bool → Bool → Bool
differ true b = no b
differ false b = b

-- Block k of level e is not empty; `pend e k`: the bit over it is still to be put. That bit says the one unless the other.
unfoldable pub full : (tag : ℕ → Bool) (pend : ℕ → ℕ → Bool) → ℕ → ℕ → Bool
full tag pend zero k = tag k
full tag pend (suc e) k = some (λ i. differ (full tag pend e (k * block_bits + i)) (pend e (k * block_bits + i))) block_bits

abbrev pub bit : (tag : ℕ → Bool) (pend : ℕ → ℕ → Bool) → ℕ → ℕ → Bool
bit tag pend e k = differ (full tag pend e k) (pend e k)

-- at Finish for a bit over a block of level e; over block k
unfoldable pub finishing : Phase → ℕ → Bool
finishing p e = both (at_finish p) (eqb (level_of p) e)

unfoldable pub pends : Tracker → ℕ → ℕ → Bool
pends u e k = both (finishing u.phase e) (eqb (index e u.group) k)

-- some tracker is
unfoldable pub pend : List Tracker → ℕ → ℕ → Bool
pend ts e k = some (λ x. pends (tracker_at ts x) e k) (length ts)

-- full and bit, by the row and the accesses
abbrev pub full_by : List Tracker → Row → ℕ → ℕ → Bool
full_by ts row = full (tagged row) (pend ts)

abbrev pub bit_by : List Tracker → Row → ℕ → ℕ → Bool
bit_by ts row = bit (tagged row) (pend ts)

-- Block j of level e counts: it is a top block, or not empty, or in a line. What memory has of any other block means nothing.
pub data Counted (top : ℕ) (full lined : ℕ → ℕ → Bool) (e j : ℕ) : Type 0 where
  is-top : e ≡ top → Counted top full lined e j
  is-full : full e j ≡ true → Counted top full lined e j
  is-lined : lined e j ≡ true → Counted top full lined e j

-- what the row says of a tracker's block: a read, or a write of 0, at Under has one that is not empty, and so has Finish (set); Finish (clear) has an empty one
abbrev pub Fits : (full : ℕ → ℕ → Bool) → Tracker → Phase → Type 0
Fits full u Idle = Unit {0}
Fits full u (Probe d) = Unit {0}
Fits full u Top = Unit {0}
Fits full u (Under d) = asks_zero u ≡ true → full d (index d u.group) ≡ true
Fits full u (Set d) = full d (index d u.group) ≡ true
Fits full u (Clear d) = full d (index d u.group) ≡ false

pub record Agrees (top : ℕ) (ts : List Tracker) (row : Row) (v : View) : Type 0 where
  -- a block that counts has the right content: a leaf the row's groups, any other its bits
  pub groups : (g : ℕ) → Counted top (full_by ts row) v.lined 0 (leaf_of g) → v.group g ≡ row g
  pub bits : (e k : ℕ) → e < top → Counted top (full_by ts row) v.lined (suc e) (map_block_of k) → v.bits e k ≡ bit_by ts row e k
  pub fits : (x : ℕ) → Fits (full_by ts row) (tracker_at ts x) (tracker_at ts x).phase
  pub low : (x : ℕ) → level_of (tracker_at ts x).phase < top
  pub small : (x : ℕ) → (tracker_at ts x).value < values

-- An empty block below the top is in a line only while a writer, whose own it is, is at Under or at Set below it.
abbrev pub Keeping : Phase → ℕ → Type 0
Keeping Idle e = ⊥
Keeping (Probe d) e = ⊥
Keeping Top e = ⊥
Keeping (Under d) e = d < e
Keeping (Set d) e = d < e
Keeping (Clear d) e = ⊥

pub record Owns (u : Tracker) (e j : ℕ) : Type 0 where
  pub writes : u.write ≡ true
  pub its : index e u.group ≡ j
  pub keeps : Keeping u.phase e

pub record Tight (top : ℕ) (ts : List Tracker) (row : Row) (v : View) : Type 0 where
  pub only : (e j : ℕ) → e < top → v.lined e j ≡ true → (full_by ts row e j ≡ true) ⊎ ((x : ℕ) × Owns (tracker_at ts x) e j)

-- nobody but x holds x's top block
abbrev pub Alone : (top : ℕ) → List Tracker → ℕ → Type 0
Alone top ts x =
    (y : ℕ) → (y ≡ x → ⊥) → holds_at (tracker_at ts y).phase ≡ true → index top (tracker_at ts y).group ≡ index top (tracker_at ts x).group → ⊥

-- nobody holds top block j
abbrev pub Free : (top : ℕ) → List Tracker → ℕ → Type 0
Free top ts j = (y : ℕ) → holds_at (tracker_at ts y).phase ≡ true → index top (tracker_at ts y).group ≡ j → ⊥

-- What a whole state has of holders and lines: one holder to a top block, and the lines that a phase asks for.
pub record Holding (top : ℕ) (ts : List Tracker) (v : View) : Type 0 where
  pub one : (x y : ℕ) → holds_at (tracker_at ts x).phase ≡ true → holds_at (tracker_at ts y).phase ≡ true
      → index top (tracker_at ts x).group ≡ index top (tracker_at ts y).group → x ≡ y
  pub asked : (x e : ℕ) → e ≤ top → asks_at (tracker_at ts x).phase e ≡ true → v.lined e (index e (tracker_at ts x).group) ≡ true

-- the invariant of a run: contents and accesses under way agree with the row
pub record Contained (top : ℕ) (ts : List Tracker) (row : Row) (v : View) : Type 0 where
  pub agrees : Agrees top ts row v
  pub tight : Tight top ts row v
