-- 01 "One step of a tracker", rule by rule, over the levels of the device (02, E5). x is the tracker's number, t the tracker as it is handed in, r the rows.
use Rattle.std.specs.Prelude.{List, Bool, true, false, ℕ, zero, suc, ◌+◌, eqb, ltb, leb, length, get_or, set, replicate}
use Rattle.geometry.specs.declared.Shape.{Shape}
use Rattle.geometry.specs.Shape.{below_top, top_of}
use Rattle.geometry.specs.TagMemory.{groups, in_limits_of, leaf_of, byte_of, map_byte_of, map_bit_of, index, block_over, block_place}
use Rattle.laws.specs.Choice.{pick, both, no as negated}
use Rattle.block.specs.Block.{group_at, put_group, bit_at, put_bit, all_zero}
use Rattle.tracker.specs.declared.Phase.{Phase}
use Rattle.tracker.specs.declared.Phase.TheVariants.{Idle, Probe, Top, Under, Set, Clear}
use Rattle.tracker.specs.declared.Transfers.{Transfers}
use Rattle.tracker.specs.declared.Tracker.{Tracker}
use Rattle.tracker.specs.Transfers.{none, plus}
use Rattle.tracker.specs.Tracker.{idle, tick, goes_to, counted, level_of, keeps_at, after_probe, finish_at}
use Rattle.tracker.specs.Answer.{Said, wait, moved, read, done, same, no}
use Rattle.line.specs.Word.{block_of, holder, held, held_by, word, holders}
use Rattle.line.specs.Find.{line_of}
use Rattle.rules.specs.State.{Rows, lengths_right}
use Rattle.rules.specs.Place.{line_bytes, Brought, with_lines, bring_in, create}

-- what a step leaves: what it says, the shape with its hand, the tracker, the rows; and the transfers that an ending carries
pub record Turned : Type 0 where
  pub said : Said
  pub shape : Shape
  pub tracker : Tracker
  pub rows : Rows
  pub transfers : Transfers

-- "a tracker that ends becomes so again": idle, every field zero. 02 E4: "An ending carries the two sums"; `more` are those of this step.
abbrev pub ends : Said → Shape → Tracker → (more : Transfers) → Rows → Turned
ends a shape t more r = record { said = a; shape = shape; tracker = idle; rows = r; transfers = plus t.transfers more }

abbrev pub goes : Tracker → Phase → (more : Transfers) → Shape → Rows → Turned
goes t p more shape r = record { said = moved; shape = shape; tracker = goes_to t p more; rows = r; transfers = none }

-- "wait, nothing changes but the turn count"
abbrev pub waits : Tracker → Shape → Rows → Turned
waits t shape r = record { said = wait; shape = shape; tracker = counted t; rows = r; transfers = none }

abbrev pub refuses : ℕ → Tracker → Shape → Rows → Turned
refuses c t shape r = record { said = no c; shape = shape; tracker = t; rows = r; transfers = none }

-- "Each ending carries its turns: steps given since the issue"
abbrev pub turns_of : Tracker → ℕ
turns_of t = tick t.turns

-- "a read ends with 0; a write of 0 ends 'same'": the accesses that bit 0 ends, and what they say
abbrev pub asks_zero : Tracker → Bool
asks_zero t = pick t.write (eqb t.value 0) true

abbrev pub says_zero : Tracker → Said
says_zero t = pick t.write (same (turns_of t)) (read 0 (turns_of t))

-- the line of the block of level e over the tracker's group; L where it has none
abbrev pub own_line : Shape → Tracker → Rows → ℕ → ℕ
own_line shape t r e = line_of r.lines shape.l (block_over e shape.n t.group)

-- the group in line i; and in line i, which has the block of level e + 1 over it, the bit over its block of level e
abbrev pub group_in : List ℕ → ℕ → ℕ → ℕ
group_in bytes i g = group_at bytes (block_place i + byte_of g)

abbrev pub bit_in : List ℕ → ℕ → (e g : ℕ) → ℕ
bit_in bytes i e g = bit_at bytes (block_place i + map_byte_of (index e g)) (map_bit_of (index e g))

-- line i names tracker x
abbrev pub lines_held_by : List ℕ → ℕ → ℕ → List ℕ
lines_held_by lines i x = set lines i (held_by (get_or lines i 0) (x + 1))

-- line i names nobody
abbrev pub loosened : List ℕ → ℕ → List ℕ
loosened lines i =
    let w = get_or lines i 0 in
    set lines i (pick (held w) (held_by w 0) w)

-- "let go": of its own lines of levels 1 to e, those that phase p keeps name nobody
unfoldable pub let_go : Phase → (own : ℕ → ℕ) (e : ℕ) → List ℕ → List ℕ
let_go p own zero lines = lines
let_go p own (suc e) lines =
    let ls = let_go p own e lines in
    pick (keeps_at p (suc e)) (loosened ls (own (suc e))) ls

-- "end .., let go": every ending of a tracker that holds its top block; its own lines were found when the step began
abbrev pub lets_go : Said → Shape → Tracker → (more : Transfers) (own : ℕ → ℕ) → Rows → Turned
lets_go a shape t more own r = ends a shape t more (with_lines r (let_go t.phase own (top_of shape) r.lines))

-- Probe. "Leaf in a line: a read ends with the group; a write whose group equals v ends 'same'. Otherwise on to Map."
-- Probe map "ends a read, or a write of 0, on bit 0 if the map block has a line and nobody holds its top block; else goes on; it never waits".
unfoldable pub probe : Shape → ℕ → Tracker → Rows → Turned
probe shape zero t r =
    let i = own_line shape t r 0 in
    let v = group_in r.bytes i t.group in
    let on = goes t (after_probe (top_of shape) 0) none shape r in
    pick (ltb i shape.l) (pick t.write (pick (eqb v t.value) (ends (same (turns_of t)) shape t none r) on) (ends (read v (turns_of t)) shape t none r)) on
probe shape (suc e) t r =
    let i = own_line shape t r (suc e) in
    let j = own_line shape t r (top_of shape) in
    let free = negated (both (ltb j shape.l) (held (get_or r.lines j 0))) in
    let bit0 = eqb (bit_in r.bytes i e t.group) 0 in
    pick (both (both (ltb i shape.l) free) (both bit0 (asks_zero t))) (ends (says_zero t) shape t none r) (goes t (after_probe (top_of shape) (suc e)) none shape r)

-- "Bit 0: a read ends with 0; a write of 0 ends 'same'. Otherwise hold the map block, on to Leaf.": b is its block of level d + 1 in its line, and the bit that
-- over its block of level d
unfoldable pub descend : ℕ → (own : ℕ → ℕ) (d : ℕ) → Tracker → Brought → Turned
descend x own d t b =
    pick (both (eqb (bit_in b.rows.bytes b.line d t.group) 0) (asks_zero t))
    (lets_go (says_zero t) b.shape t b.copies own b.rows)
    (goes t (Under d) b.copies b.shape (with_lines b.rows (lines_held_by b.rows.lines b.line x)))

-- Top, 01's Map: "If another tracker holds this map block: wait .. Else bring it in."
unfoldable pub top : Shape → ℕ → Tracker → Rows → Turned
top shape x t r =
    let i = own_line shape t r (top_of shape) in
    let b = bring_in shape (block_over (top_of shape) shape.n t.group) r in
    pick (both (ltb i shape.l) (held (get_or r.lines i 0))) (waits t shape r)
    (pick (ltb b.line shape.l) (descend x (own_line shape t r) (below_top shape) t b) (refuses 4 t shape r))

-- Leaf, of a read. "Bring in the leaf, end with the group, let go."
unfoldable pub leaf_read : Shape → Tracker → Rows → Turned
leaf_read shape t r =
    let b = bring_in shape (leaf_of t.group) r in
    pick (ltb b.line shape.l)
    (lets_go (read (group_in b.rows.bytes b.line t.group) (turns_of t)) b.shape t b.copies (own_line shape t r) b.rows)
    (refuses 4 t shape r)

-- "Else put v in. All 64 bytes now zero: the line is made free without writing to memory, on to Finish (clear).
-- Not all zero, bit was 1: line changed, end 'done', let go."
unfoldable pub put_in : (own : ℕ → ℕ) → Tracker → Brought → Turned
put_in own t b =
    let i = b.line in
    let bytes = put_group b.rows.bytes (block_place i + byte_of t.group) t.value in
    pick (all_zero (line_bytes bytes i))
    (goes t (Clear 0) b.copies b.shape (record { lines = set b.rows.lines i 0; bytes = bytes; memory = b.rows.memory }))
    (lets_go (done (turns_of t)) b.shape t b.copies own
    (record { lines = set b.rows.lines i (word (leaf_of t.group) true 0); bytes = bytes; memory = b.rows.memory }))

-- "Bit 1: bring in the leaf .. group equal to v: end 'same', let go."
unfoldable pub write_under1 : Shape → Tracker → Rows → Turned
write_under1 shape t r =
    let b = bring_in shape (leaf_of t.group) r in
    pick (ltb b.line shape.l)
    (pick (eqb (group_in b.rows.bytes b.line t.group) t.value)
    (lets_go (same (turns_of t)) b.shape t b.copies (own_line shape t r) b.rows)
    (put_in (own_line shape t r) t b))
    (refuses 4 t shape r)

-- "the old content is 64 zero bytes, never fetched"; with v put in
abbrev pub zeros : List ℕ
zeros = replicate 64 0

abbrev pub new_leaf : Tracker → List ℕ
new_leaf t = put_group zeros (byte_of t.group) t.value

-- "Bit 0: .. group equal to v: end 'same', let go. .. Not all zero, bit was 0: the leaf goes into its line if it has one, else is placed; changed; on to Finish (set)."
unfoldable pub write_under0 : Shape → Tracker → Rows → Turned
write_under0 shape t r =
    let b = create shape (leaf_of t.group) (new_leaf t) r in
    pick (eqb t.value 0) (lets_go (same (turns_of t)) shape t none (own_line shape t r) r)
    (pick (ltb b.line shape.l) (goes t (Set 0) b.copies b.shape b.rows) (refuses 4 t shape r))

-- "The bit is read again in the held map line."
unfoldable pub leaf_write : Shape → Tracker → Rows → Turned
leaf_write shape t r = pick (eqb (bit_in r.bytes (own_line shape t r 1) 0 t.group) 0) (write_under0 shape t r) (write_under1 shape t r)

-- Map, under the bit over it. "Under top bit 0 a write's Map step fetches nothing: 64 zero bytes go into the block's line, or are placed if it has none; changed."
unfoldable pub under_bit : Shape → ℕ → Tracker → Rows → Brought
under_bit shape d t r =
    let b = block_over d shape.n t.group in
    pick (both t.write (eqb (bit_in r.bytes (own_line shape t r (suc d)) d t.group) 0)) (create shape b zeros r) (bring_in shape b r)

-- The step on the block of level d, whose bit is in the line of level d + 1: Leaf, or Map, whose "bit 0 ends a read or a write of 0 and lets go".
-- A held block that is in no line is a broken state's: 4.
abbrev pub below_line : Shape → ℕ → ℕ → Tracker → Rows → Turned
below_line shape x zero t r = pick t.write (leaf_write shape t r) (leaf_read shape t r)
below_line shape x (suc e) t r =
    let b = under_bit shape (suc e) t r in
    pick (ltb b.line shape.l) (descend x (own_line shape t r) e t b) (refuses 4 t shape r)

unfoldable pub under : Shape → ℕ → ℕ → Tracker → Rows → Turned
under shape x d t r = pick (ltb (own_line shape t r (suc d)) shape.l) (below_line shape x d t r) (refuses 4 t shape r)

-- "Set or clear the bit, the map line is changed": over its block of level d, in line j
abbrev pub bit_put : (set : Bool) (d j : ℕ) → Tracker → Rows → Rows
bit_put s d j t r =
    let k = index d t.group in
    let w = get_or r.lines j 0 in
    record {
      lines = set r.lines j (word (block_of w) true (holder w));
      bytes = put_bit r.bytes (block_place j + map_byte_of k) (map_bit_of k) (pick s 1 0);
      memory = r.memory;
    }

-- "a map block whose bits are all zero is dropped as an empty leaf is"
abbrev pub drop_empty : (j : ℕ) → Rows → Rows
drop_empty j r = pick (all_zero (line_bytes r.bytes j)) (with_lines r (set r.lines j 0)) r

-- "Finish map ends the access unless the top bit must change": the bit over the block that line j has, set under a bit 0, or cleared under a bit 1 where line j is now all zero
abbrev pub must_change : (set : Bool) (above : ℕ) (j : ℕ) → Rows → Bool
must_change s above j r = pick s (eqb above 0) (both (all_zero (line_bytes r.bytes j)) (eqb above 1))

-- Finish below the top: the bit over the block of level d + 1 is in the line of level d + 2
unfoldable pub finish_below : Shape → (set : Bool) (d : ℕ) → Tracker → Rows → Turned
finish_below shape s d t r =
    let j = own_line shape t r (suc d) in
    let k = own_line shape t r (suc (suc d)) in
    let put = bit_put s d j t r in
    pick (ltb k shape.l)
    (pick (must_change s (bit_in r.bytes k (suc d) t.group) j put)
    (goes t (finish_at s (suc d)) none shape (drop_empty j put))
    (lets_go (done (turns_of t)) shape t none (own_line shape t r) (drop_empty j put)))
    (refuses 4 t shape r)

-- Finish. "Set or clear the bit, the map line is changed, end 'done', let go."; "A top block is always stored".
unfoldable pub finish : Shape → (set : Bool) (d : ℕ) → Tracker → Rows → Turned
finish shape s d t r =
    let j = own_line shape t r (suc d) in
    pick (ltb j shape.l)
    (pick (ltb (suc d) (top_of shape)) (finish_below shape s d t r)
    (lets_go (done (turns_of t)) shape t none (own_line shape t r) (bit_put s d j t r)))
    (refuses 4 t shape r)

-- "Each step is one of these."
abbrev pub by_phase : Shape → ℕ → Tracker → Rows → Phase → Turned
by_phase shape x t r Idle = refuses 8 t shape r
by_phase shape x t r (Probe d) = probe shape d t r
by_phase shape x t r Top = top shape x t r
by_phase shape x t r (Under d) = under shape x d t r
by_phase shape x t r (Set d) = finish shape true d t r
by_phase shape x t r (Clear d) = finish shape false d t r

-- what a step can rely on in any state: the device exists, there are L lines, the tracker's group and its phase's level exist, its number fits a line's word
unfoldable pub fit : Shape → ℕ → Tracker → Rows → Bool
fit shape x t r =
    both (both (in_limits_of (top_of shape) shape.n) (leb shape.l (length r.lines)))
    (both (both (ltb t.group (groups shape.n)) (ltb (level_of t.phase) (top_of shape))) (ltb x holders))

-- one step of tracker x, which is t
unfoldable pub turn_of : Shape → ℕ → Tracker → Rows → Turned
turn_of shape x t r =
    pick (fit shape x t r)
    (pick (lengths_right shape r.bytes r.memory) (by_phase shape x t r t.phase) (refuses 2 t shape r))
    (refuses 4 t shape r)
