-- A law for each way out of each rule of a step.
use mathlib.Core.Path.{◌≡◌, refl, ap, ◌∙◌}
use mathlib.Core.Bool.{Bool, true, false}
use mathlib.Core.List.{List}
use Prim.Native.Nat.{ℕ, suc, ◌+◌, ◌<◌, ◌≤◌}
use native.Mathlib.Nat.{zero-add}
use lib.Dec.{ltb}
use lib.ListN.{get_or, set}
use borrow.Author.Tests.{lt-ltb, le-ltb, eq-eqb, ne_eqb}
use Rattle.laws.specs.Choice.{both, no as negated}
use Rattle.laws.proofs.Choice.{both-false-left, both-false-right, both_true}
use Rattle.geometry.specs.declared.Shape.{Shape}
use Rattle.geometry.specs.Shape.{below_top, top_of}
use Rattle.geometry.specs.TagMemory.{leaf_of, byte_of, block_over, block_place}
use Rattle.geometry.proofs.Levels.{index-0}
use Rattle.block.specs.Block.{put_group, all_zero}
use Rattle.tracker.specs.declared.Phase.{Phase}
use Rattle.tracker.specs.declared.Phase.TheVariants.{Under, Set, Clear}
use Rattle.tracker.specs.declared.Tracker.{Tracker}
use Rattle.tracker.specs.Transfers.{none}
use Rattle.tracker.specs.Tracker.{keeps_at, after_probe, finish_at}
use Rattle.tracker.specs.Answer.{read, done, same}
use Rattle.line.specs.Word.{held, word}
use Rattle.rules.specs.State.{Rows, lengths_right}
use Rattle.rules.specs.Place.{line_bytes, Brought, with_lines, bring_in, create}
use Rattle.rules.specs.Step.{Turned, ends, goes, waits, turns_of, asks_zero, says_zero, own_line, group_in, bit_in, lines_held_by, loosened, let_go, lets_go, probe, descend, top, leaf_read, put_in, write_under1, zeros, new_leaf, write_under0, leaf_write, under_bit, under, bit_put, drop_empty, must_change, finish_below, finish, by_phase, fit, turn_of}

-- a group's block of level 0 is its leaf
pub leaf-over : (n g : ℕ) → block_over 0 n g ≡ leaf_of g
leaf-over n g = zero-add _ ∙ index-0 g

-- letting go, level by level
module _ (p : Phase) (own : ℕ → ℕ) (lines : List ℕ) where
  pub let_go-0 : let_go p own 0 lines ≡ lines
  unfolding let_go
  let_go-0 = refl

  module _ (e : ℕ) where
    pub let_go-kept : keeps_at p (suc e) ≡ true → let_go p own (suc e) lines ≡ loosened (let_go p own e lines) (own (suc e))
    unfolding let_go
    let_go-kept k = rw k refl

    pub let_go-not : keeps_at p (suc e) ≡ false → let_go p own (suc e) lines ≡ let_go p own e lines
    unfolding let_go
    let_go-not k = rw k refl

-- the accesses that bit 0 ends, and what they say
module _ (t : Tracker) where
  pub asks_read : t.write ≡ false → asks_zero t ≡ true
  asks_read w = rw w

  pub says-read : t.write ≡ false → says_zero t ≡ read 0 (turns_of t)
  says-read w = rw w

  module _ (w : t.write ≡ true) where
    pub asks-same : t.value ≡ 0 → asks_zero t ≡ true
    asks-same e = rw (w, eq-eqb _ _ e)

    pub says_same : says_zero t ≡ same (turns_of t)
    says_same = rw w

    pub asks-not : (t.value ≡ 0 → ⊥) → asks_zero t ≡ false
    asks-not e = rw (w, ne_eqb _ _ e)

-- a tracker holds its top block, which is in a line
abbrev pub top_held : Shape → Tracker → Rows → Bool
top_held shape t r = both (ltb (own_line shape t r (top_of shape)) shape.l) (held (get_or r.lines (own_line shape t r (top_of shape)) 0))

-- Probe of the leaf
module _ (shape : Shape) (t : Tracker) (r : Rows) where
  pub probe-miss : shape.l ≤ own_line shape t r 0 → probe shape 0 t r ≡ goes t (after_probe (top_of shape) 0) none shape r
  unfolding probe
  probe-miss q = rw (le-ltb _ _ q)

  module _ (q : own_line shape t r 0 < shape.l) where
    pub probe-read : t.write ≡ false → probe shape 0 t r ≡ ends (read (group_in r.bytes (own_line shape t r 0) t.group) (turns_of t)) shape t none r
    unfolding probe
    probe-read w = rw (lt-ltb _ _ q, w)

    pub probe-same : t.write ≡ true → group_in r.bytes (own_line shape t r 0) t.group ≡ t.value → probe shape 0 t r ≡ ends (same (turns_of t)) shape t none r
    unfolding probe
    probe-same w e = rw (lt-ltb _ _ q, w, eq-eqb _ _ e)

    pub probe-other : t.write ≡ true → (group_in r.bytes (own_line shape t r 0) t.group ≡ t.value → ⊥) → probe shape 0 t r ≡ goes t (after_probe (top_of shape) 0) none shape r
    unfolding probe
    probe-other w e = rw (lt-ltb _ _ q, w, ne_eqb _ _ e)

-- Probe of a map block, of level e + 1
module _ (shape : Shape) (e : ℕ) (t : Tracker) (r : Rows) where
  pub probe-zero : own_line shape t r (suc e) < shape.l → top_held shape t r ≡ false → bit_in r.bytes (own_line shape t r (suc e)) e t.group ≡ 0 → asks_zero t ≡ true
      → probe shape (suc e) t r ≡ ends (says_zero t) shape t none r
  unfolding probe both negated
  probe-zero q h z a = rw (lt-ltb _ _ q, h, eq-eqb _ _ z, a)

  pub probe-unlined : shape.l ≤ own_line shape t r (suc e) → probe shape (suc e) t r ≡ goes t (after_probe (top_of shape) (suc e)) none shape r
  unfolding probe both
  probe-unlined q = rw (le-ltb _ _ q)

  pub probe-held : top_held shape t r ≡ true → probe shape (suc e) t r ≡ goes t (after_probe (top_of shape) (suc e)) none shape r
  unfolding probe negated
  probe-held h = rw (both-false-left _ _ (both-false-right _ _ (ap negated h)))

  pub probe-one : (bit_in r.bytes (own_line shape t r (suc e)) e t.group ≡ 0 → ⊥) → probe shape (suc e) t r ≡ goes t (after_probe (top_of shape) (suc e)) none shape r
  unfolding probe
  probe-one z = rw (both-false-right _ _ (both-false-left _ _ (ne_eqb _ _ z)))

  pub probe-asks : asks_zero t ≡ false → probe shape (suc e) t r ≡ goes t (after_probe (top_of shape) (suc e)) none shape r
  unfolding probe
  probe-asks a = rw (both-false-right _ _ (both-false-right _ _ a))

-- it holds its block of level d + 1, which is in its line, and goes on to that of level d
abbrev pub holds_it : ℕ → ℕ → Tracker → Brought → Turned
holds_it x d t b = goes t (Under d) b.copies b.shape (with_lines b.rows (lines_held_by b.rows.lines b.line x))

-- on from a block of level d + 1
module _ (x : ℕ) (own : ℕ → ℕ) (d : ℕ) (t : Tracker) (b : Brought) where
  pub descend-zero : bit_in b.rows.bytes b.line d t.group ≡ 0 → asks_zero t ≡ true → descend x own d t b ≡ lets_go (says_zero t) b.shape t b.copies own b.rows
  unfolding descend
  descend-zero z a = rw (both_true _ _ (eq-eqb _ _ z) a)

  pub descend-asks : asks_zero t ≡ false → descend x own d t b ≡ holds_it x d t b
  unfolding descend
  descend-asks a = rw (both-false-right _ _ a)

  pub descend-one : (bit_in b.rows.bytes b.line d t.group ≡ 0 → ⊥) → descend x own d t b ≡ holds_it x d t b
  unfolding descend
  descend-one z = rw (both-false-left _ _ (ne_eqb _ _ z))

module _ (shape : Shape) (x : ℕ) (t : Tracker) (r : Rows) where
  pub top-wait : top_held shape t r ≡ true → top shape x t r ≡ waits t shape r
  unfolding top
  top-wait h = rw h

  pub top-on : top_held shape t r ≡ false → (bring_in shape (block_over (top_of shape) shape.n t.group) r).line < shape.l
      → top shape x t r ≡ descend x (own_line shape t r) (below_top shape) t (bring_in shape (block_over (top_of shape) shape.n t.group) r)
  unfolding top
  top-on h q = rw (h, lt-ltb _ _ q)

-- Leaf, and Map below a top
module _ (shape : Shape) (t : Tracker) (r : Rows) where
  module _ (q : (bring_in shape (leaf_of t.group) r).line < shape.l) where
    pub leaf_read-is : leaf_read shape t r
        ≡ (let b = bring_in shape (leaf_of t.group) r in
        lets_go (read (group_in b.rows.bytes b.line t.group) (turns_of t)) b.shape t b.copies (own_line shape t r) b.rows)
    unfolding leaf_read
    leaf_read-is = rw (lt-ltb _ _ q)

    pub write1-same : (let b = bring_in shape (leaf_of t.group) r in group_in b.rows.bytes b.line t.group ≡ t.value)
        → write_under1 shape t r ≡ (let b = bring_in shape (leaf_of t.group) r in lets_go (same (turns_of t)) b.shape t b.copies (own_line shape t r) b.rows)
    unfolding write_under1
    write1-same e = rw (lt-ltb _ _ q, eq-eqb _ _ e)

    pub write1-put : (let b = bring_in shape (leaf_of t.group) r in group_in b.rows.bytes b.line t.group ≡ t.value → ⊥)
        → write_under1 shape t r ≡ put_in (own_line shape t r) t (bring_in shape (leaf_of t.group) r)
    unfolding write_under1
    write1-put e = rw (lt-ltb _ _ q, ne_eqb _ _ e)

  pub write0-same : t.value ≡ 0 → write_under0 shape t r ≡ lets_go (same (turns_of t)) shape t none (own_line shape t r) r
  unfolding write_under0
  write0-same e = rw (eq-eqb _ _ e)

  pub write0-create : (t.value ≡ 0 → ⊥) → (create shape (leaf_of t.group) (new_leaf t) r).line < shape.l
      → write_under0 shape t r ≡ (let b = create shape (leaf_of t.group) (new_leaf t) r in goes t (Set 0) b.copies b.shape b.rows)
  unfolding write_under0
  write0-create e q = rw (ne_eqb _ _ e, lt-ltb _ _ q)

  pub leaf_write-0 : bit_in r.bytes (own_line shape t r 1) 0 t.group ≡ 0 → leaf_write shape t r ≡ write_under0 shape t r
  unfolding leaf_write
  leaf_write-0 z = rw (eq-eqb _ _ z)

  pub leaf_write-1 : (bit_in r.bytes (own_line shape t r 1) 0 t.group ≡ 0 → ⊥) → leaf_write shape t r ≡ write_under1 shape t r
  unfolding leaf_write
  leaf_write-1 z = rw (ne_eqb _ _ z)

  module _ (d : ℕ) where
    pub under_bit-read : t.write ≡ false → under_bit shape d t r ≡ bring_in shape (block_over d shape.n t.group) r
    unfolding under_bit
    under_bit-read w = rw (both-false-left _ _ w)

    pub under_bit-1 : (bit_in r.bytes (own_line shape t r (suc d)) d t.group ≡ 0 → ⊥) → under_bit shape d t r ≡ bring_in shape (block_over d shape.n t.group) r
    unfolding under_bit
    under_bit-1 z = rw (both-false-right _ _ (ne_eqb _ _ z))

    pub under_bit-0 : t.write ≡ true → bit_in r.bytes (own_line shape t r (suc d)) d t.group ≡ 0 → under_bit shape d t r ≡ create shape (block_over d shape.n t.group) zeros r
    unfolding under_bit
    under_bit-0 w z = rw (both_true _ _ w (eq-eqb _ _ z))

module _ (shape : Shape) (x : ℕ) (t : Tracker) (r : Rows) where
  module _ (q : own_line shape t r 1 < shape.l) where
    pub under-read : t.write ≡ false → under shape x 0 t r ≡ leaf_read shape t r
    unfolding under
    under-read w = rw (lt-ltb _ _ q, w)

    pub under-write : t.write ≡ true → under shape x 0 t r ≡ leaf_write shape t r
    unfolding under
    under-write w = rw (lt-ltb _ _ q, w)

  pub under-map : (e : ℕ) → own_line shape t r (suc (suc e)) < shape.l → (under_bit shape (suc e) t r).line < shape.l
      → under shape x (suc e) t r ≡ descend x (own_line shape t r) e t (under_bit shape (suc e) t r)
  unfolding under
  under-map e q p = rw (lt-ltb _ _ q, lt-ltb _ _ p)

-- the line bytes once v is put in
abbrev pub bytes_with : Tracker → Brought → List ℕ
bytes_with t b = put_group b.rows.bytes (block_place b.line + byte_of t.group) t.value

module _ (own : ℕ → ℕ) (t : Tracker) (b : Brought) where
  pub put_in-empty : all_zero (line_bytes (bytes_with t b) b.line) ≡ true
      → put_in own t b ≡ goes t (Clear 0) b.copies b.shape (record { lines = set b.rows.lines b.line 0; bytes = bytes_with t b; memory = b.rows.memory })
  unfolding put_in
  put_in-empty z = rw z

  pub put_in-done : all_zero (line_bytes (bytes_with t b) b.line) ≡ false
      → put_in own t b ≡ lets_go (done (turns_of t)) b.shape t b.copies own
      (record { lines = set b.rows.lines b.line (word (leaf_of t.group) true 0); bytes = bytes_with t b; memory = b.rows.memory })
  unfolding put_in
  put_in-done z = rw z

module _ (shape : Shape) (s : Bool) (d : ℕ) (t : Tracker) (r : Rows) where
  -- the rows once the bit over its block of level d is put, and whether the bit above must then change
  abbrev pub put_rows : Rows
  put_rows = bit_put s d (own_line shape t r (suc d)) t r

  abbrev pub changes_above : Bool
  changes_above = must_change s (bit_in r.bytes (own_line shape t r (suc (suc d))) (suc d) t.group) (own_line shape t r (suc d)) put_rows

  -- Finish: at the top; and below it, on to the bit above, or ended
  module _ (q : own_line shape t r (suc d) < shape.l) where
    pub finish-top : top_of shape ≤ suc d → finish shape s d t r ≡ lets_go (done (turns_of t)) shape t none (own_line shape t r) put_rows
    unfolding finish
    finish-top l = rw (lt-ltb _ _ q, le-ltb _ _ l)

    module _ (l : suc d < top_of shape) (k : own_line shape t r (suc (suc d)) < shape.l) where
      pub finish-on : changes_above ≡ true → finish shape s d t r ≡ goes t (finish_at s (suc d)) none shape (drop_empty (own_line shape t r (suc d)) put_rows)
      unfolding finish finish_below
      finish-on c = rw (lt-ltb _ _ q, lt-ltb _ _ l, lt-ltb _ _ k, c)

      pub finish-ends : changes_above ≡ false → finish shape s d t r ≡ lets_go (done (turns_of t)) shape t none (own_line shape t r) (drop_empty (own_line shape t r (suc d)) put_rows)
      unfolding finish finish_below
      finish-ends c = rw (lt-ltb _ _ q, lt-ltb _ _ l, lt-ltb _ _ k, c)

pub turn_is : (shape : Shape) (x : ℕ) (t : Tracker) (r : Rows) → fit shape x t r ≡ true → lengths_right shape r.bytes r.memory ≡ true
    → turn_of shape x t r ≡ by_phase shape x t r t.phase
unfolding turn_of
turn_is shape x t r f q = rw (f, q)
