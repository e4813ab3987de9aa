-- A step on contents: what it decides, by its phase, and what it does to them and to the lines. The top level is t + 1.
use mathlib.Core.Path.{◌≡◌}
use mathlib.Core.Bool.{Bool, true, false}
use mathlib.Core.Logic.{◌⊎◌}
use Prim.Native.Nat.{ℕ, zero, suc, ◌+◌, ◌*◌, ◌<◌}
use lib.Dec.{eqb, ltb}
use Rattle.laws.specs.Choice.{pick, both, no}
use Rattle.laws.specs.Scan.{some}
use Rattle.geometry.specs.TagMemory.{leaf_of, block_bits, map_block_of, index}
use Rattle.tracker.specs.declared.Phase.{Phase}
use Rattle.tracker.specs.declared.Phase.TheVariants.{Idle, Probe, Top, Under, Set, Clear}
use Rattle.tracker.specs.declared.Tracker.{Tracker}
use Rattle.tracker.specs.Tracker.{after_probe, finish_at}
use Rattle.rules.specs.Step.{asks_zero}
use Rattle.flat.specs.Flat.{Row, tagged, after, changes_nothing, by_tags, Course, waits, goes, ends, finishes}
use Rattle.flat.proofs.Contained.{View}

-- the leaf of tracker u under the bit over it: under bit 0 it is all zero
abbrev pub leaf_in : View → Tracker → Row
leaf_in v u h = pick (v.bits 0 (leaf_of u.group)) (v.group h) 0

-- a write under bit 0: its block of level d is created, never fetched
abbrev pub creates : View → Tracker → ℕ → Bool
creates v u d = both u.write (no (v.bits d (index d u.group)))

-- at Under d + 1, its bit in the block as brought in, or of the zero block
abbrev pub own_bit : View → Tracker → ℕ → Bool
own_bit v u d = pick (creates v u (suc d)) false (v.bits d (index d u.group))

-- the bits over level d with the tracker's put; whether one is 1 in its block of level d + 1
abbrev pub bits_with : View → Tracker → (set : Bool) (d k : ℕ) → Bool
bits_with v u s d k = pick (eqb k (index d u.group)) s (v.bits d k)

abbrev pub some_with : View → Tracker → (set : Bool) (d : ℕ) → Bool
some_with v u s d = some (λ i. bits_with v u s d (index (suc d) u.group * block_bits + i)) block_bits

-- Finish below the top goes on: set under a bit 0, or clear under a bit 1 where its block is now all zero
abbrev pub must_change : (set above some : Bool) → Bool
must_change s above some = pick s (no above) (both (no some) above)

abbrev pub finish_on : (t : ℕ) → View → Tracker → (set : Bool) (d : ℕ) → Bool
finish_on t v u s d = both (ltb d t) (must_change s (v.bits (suc d) (index (suc d) u.group)) (some_with v u s d))

-- what the rules decide on contents
abbrev pub decides : (t : ℕ) → View → (held : Bool) → Tracker → Phase → Course
decides t v held u Idle = waits
decides t v held u (Probe zero) = pick (both (v.lined 0 (index 0 u.group)) (changes_nothing v.group u)) ends (goes (after_probe (suc t) 0))
decides t v held u (Probe (suc d)) =
    pick (both (both (v.lined (suc d) (index (suc d) u.group)) (no held)) (both (no (v.bits d (index d u.group))) (asks_zero u))) ends (goes (after_probe (suc t) (suc d)))
decides t v held u Top = pick held waits (pick (both (no (v.bits t (index t u.group))) (asks_zero u)) ends (goes (Under t)))
decides t v held u (Under zero) =
    pick (changes_nothing (leaf_in v u) u) ends (by_tags (v.bits 0 (leaf_of u.group)) (tagged (after (leaf_in v u) u) (leaf_of u.group)))
decides t v held u (Under (suc d)) = pick (both (no (own_bit v u d)) (asks_zero u)) ends (goes (Under d))
decides t v held u (Set d) = pick (finish_on t v u true d) (goes (finish_at true (suc d))) finishes
decides t v held u (Clear d) = pick (finish_on t v u false d) (goes (finish_at false (suc d))) finishes

-- Every content stays but that of block j of level e, and no other block comes into a line; one may leave it.
pub record Else (v v' : View) (e j : ℕ) : Type 0 where
  pub groups : (g : ℕ) → (0 ≡ e → leaf_of g ≡ j → ⊥) → v'.group g ≡ v.group g
  pub bits : (c k : ℕ) → (suc c ≡ e → map_block_of k ≡ j → ⊥) → v'.bits c k ≡ v.bits c k
  pub lined : (c i : ℕ) → (c ≡ e → i ≡ j → ⊥) → v'.lined c i ≡ true → v.lined c i ≡ true

-- Every content stays, and no block comes into a line.
pub record Stays (v v' : View) : Type 0 where
  pub groups : (g : ℕ) → v'.group g ≡ v.group g
  pub bits : (e k : ℕ) → v'.bits e k ≡ v.bits e k
  pub lined : (e j : ℕ) → v'.lined e j ≡ true → v.lined e j ≡ true

-- Block j of level e comes into a line as it is; another may leave its line.
pub record Brought (v v' : View) (e j : ℕ) : Type 0 where
  pub groups : (g : ℕ) → v'.group g ≡ v.group g
  pub bits : (c k : ℕ) → v'.bits c k ≡ v.bits c k
  pub lined : (c i : ℕ) → (c ≡ e → i ≡ j → ⊥) → v'.lined c i ≡ true → v.lined c i ≡ true

-- block j of level d + 1 comes into a line as zeros
pub record Created (v v' : View) (d j : ℕ) : Type 0 where
  pub only : Else v v' (suc d) j
  pub bits : (k : ℕ) → map_block_of k ≡ j → v'.bits d k ≡ false

-- its leaf has the value put in, unless it is now all zero and in no line
pub record PutLeaf (v v' : View) (u : Tracker) : Type 0 where
  pub only : Else v v' 0 (leaf_of u.group)
  pub groups : (tagged (after (leaf_in v u) u) (leaf_of u.group) ≡ true) ⊎ (v'.lined 0 (leaf_of u.group) ≡ true)
      → (h : ℕ) → leaf_of h ≡ leaf_of u.group → v'.group h ≡ after (leaf_in v u) u h
  pub dropped : tagged (after (leaf_in v u) u) (leaf_of u.group) ≡ false → v'.lined 0 (leaf_of u.group) ≡ true → ⊥

-- its block of level d + 1 has the bit put in, unless it is below the top, now all zero and in no line
pub record PutBit (t : ℕ) (v v' : View) (u : Tracker) (s : Bool) (d : ℕ) : Type 0 where
  pub only : Else v v' (suc d) (index (suc d) u.group)
  pub bits : (d ≡ t) ⊎ ((some_with v u s d ≡ true) ⊎ (v'.lined (suc d) (index (suc d) u.group) ≡ true))
      → (k : ℕ) → map_block_of k ≡ index (suc d) u.group → v'.bits d k ≡ bits_with v u s d k
  pub dropped : d < t → some_with v u s d ≡ false → v'.lined (suc d) (index (suc d) u.group) ≡ true → ⊥

-- Leaf: a read brings it in, and so does a write under bit 1; "group equal to v: end 'same'", else the value is put in
pub record DoesLeaf (v v' : View) (u : Tracker) : Type 0 where
  pub reads : u.write ≡ false → Brought v v' 0 (leaf_of u.group)
  pub same-1 : u.write ≡ true → v.bits 0 (leaf_of u.group) ≡ true → changes_nothing (leaf_in v u) u ≡ true → Brought v v' 0 (leaf_of u.group)
  pub same-0 : u.write ≡ true → v.bits 0 (leaf_of u.group) ≡ false → changes_nothing (leaf_in v u) u ≡ true → Stays v v'
  pub puts : changes_nothing (leaf_in v u) u ≡ false → PutLeaf v v' u

-- Map, under the bit over it: created, or brought in
pub record DoesMap (v v' : View) (u : Tracker) (d : ℕ) : Type 0 where
  pub made : creates v u (suc d) ≡ true → Created v v' d (index (suc d) u.group)
  pub fetched : creates v u (suc d) ≡ false → Brought v v' (suc d) (index (suc d) u.group)

-- What a step of tracker u does to contents and lines at each phase.
abbrev pub Does : (t : ℕ) (v v' : View) (held : Bool) → Tracker → Phase → Type 0
Does t v v' held u Idle = Stays v v'
Does t v v' held u (Probe d) = Stays v v'
Does t v v' true u Top = Stays v v'
Does t v v' false u Top = Brought v v' (suc t) (index (suc t) u.group)
Does t v v' held u (Under zero) = DoesLeaf v v' u
Does t v v' held u (Under (suc d)) = DoesMap v v' u d
Does t v v' held u (Set d) = PutBit t v v' u true d
Does t v v' held u (Clear d) = PutBit t v v' u false d
