-- The rules at Leaf keep a whole state whole: reading, putting a value in, creating a leaf.
use mathlib.Core.Path.{◌≡◌, sym, ◌∙◌, subst, refl}
use mathlib.Core.Bool.{true, false, Bool}
use mathlib.Core.List.{List}
use Prim.Native.Nat.{ℕ, suc, ◌<◌}
use native.Mathlib.Omega.{arith}
use native.Mathlib.Decide.{ℕ_discrete}
use lib.ListN.{length, set, length-set}
use borrow.Author.Tests.{lt-ltb}
use Rattle.geometry.specs.declared.Shape.{Shape}
use Rattle.geometry.specs.Shape.{top_of}
use Rattle.geometry.specs.TagMemory.{blocks_of, leaf_of, byte_of}
use Rattle.laws.proofs.Choice.{not-both-ways, both_true, true-or-false}
use Rattle.tracker.specs.declared.Tracker.{Tracker}
use Rattle.tracker.specs.Tracker.{finish_at, goes_to}
use Rattle.tracker.proofs.Phases.{keeps-finish, asks-finish}
use Rattle.line.specs.Word.{holder, word}
use Rattle.rules.specs.State.{Rows}
use Rattle.rules.specs.Place.{Brought, bring_in, create, line_bytes}
use Rattle.rules.specs.Step.{own_line, Turned, turns_of, group_in, bit_in, lets_go, leaf_read, put_in, write_under1, zeros, new_leaf, write_under0, leaf_write, under}
use Rattle.rules.proofs.Words.{holder-free}
use Rattle.rules.proofs.Lined.{at, Has, loose-lined}
use Rattle.rules.proofs.Whole.{LinedBy}
use Rattle.rules.proofs.Placed.{unmoved, AsLong, as_long, fill-lined, fill-keeps, fill-others}
use Rattle.rules.proofs.Ways.{leaf_read-is, write1-same, write1-put, write0-same, write0-create, leaf_write-0, leaf_write-1, under-read, under-write, bytes_with, put_in-empty, put_in-done}
use mathlib.Core.Logic.{⊎_elim}
use lib.Dec.{ltb}
use Rattle.laws.specs.Choice.{both}
use Rattle.laws.specs.Bytes.{bytes}
use Rattle.laws.proofs.Put.{length-put_w}
use Rattle.laws.proofs.Value.{length-bytes}
use Rattle.block.specs.Block.{all_zero}
use Rattle.tracker.specs.declared.Phase.TheVariants.{Under, Set, Clear}
use Rattle.tracker.specs.declared.Transfers.{Transfers}
use Rattle.tracker.specs.Transfers.{none}
use Rattle.tracker.specs.Answer.{Said, done, same}
use Rattle.line.proofs.Words.{free-used}
use Rattle.rules.proofs.Situation.{Situation, small, BringsIn, NobodyKeeps, under-keeps, under-asks, under-own, leaf-free, leaf-brings, leaf-creates, zeros-length}
use Rattle.rules.proofs.Turns.{is_no, Keeps, stays, goes-tracked, lets-go, brought-go, its-first, its-since}

module _ (sit : Situation) where
  abbrev shape : Shape
  shape = sit.shape

  abbrev n : ℕ
  n = shape.n

  abbrev x : ℕ
  x = sit.x

  abbrev ts : List Tracker
  ts = sit.ts

  abbrev r : Rows
  r = sit.r

  abbrev u : Tracker
  u = sit.u

  -- its block of level e, and the line of it
  abbrev own : ℕ → ℕ
  own e = own_line shape u r e

  abbrev Left : Turned → Type 0
  Left o = Keeps shape x ts r o

  -- at Leaf
  module _ (p : u.phase ≡ Under 0) where
    abbrev leaf : ℕ
    leaf = leaf_of u.group

    -- the leaf in its line
    abbrev b : Brought
    b = bring_in shape leaf r

    in-line : BringsIn sit leaf b
    in-line = leaf-brings sit p

    free : NobodyKeeps sit leaf
    free = leaf-free sit p

    leaf-ends : (a : Said) → is_no a ≡ false → Left (lets_go a b.shape u b.copies own b.rows)
    leaf-ends = brought-go sit leaf b free in-line

    keeps-leaf_read : Left (leaf_read shape u r)
    keeps-leaf_read = rw (leaf_read-is shape u r in-line.line-lt) (leaf-ends _ refl)

    -- the value put in, and the leaf's line become w
    abbrev put : ℕ → Rows
    put w = record { lines = set b.rows.lines b.line w; bytes = bytes_with u b; memory = b.rows.memory }

    put-long : (w : ℕ) → AsLong r (put w)
    put-long w = record {
      lines_long = length-set b.rows.lines b.line w ∙ in-line.long.lines_long;
      bytes-long = length-put_w 4 _ _ (bytes 4 u.value) (length-bytes 4 u.value) ∙ in-line.long.bytes-long;
      memory-long = in-line.long.memory-long;
    }

    -- on to Finish, of the bit over the leaf
    to-finish : {ls : List ℕ} (s : Bool) (m : Transfers) → LinedBy shape ts ls → LinedBy shape (set ts x (goes_to u (finish_at s 0) m)) ls
    to-finish s m v = stays sit (finish_at s 0) m (λ e. keeps-finish 0 (suc e) s ∙ sym (under-keeps sit 0 p (suc e))) (λ e a. under-asks sit 0 p (suc e) ∙ sym (asks-finish 0 (suc e) s) ∙ a) v

    module _ (wr : u.write ≡ true) where
      finish-whole : both u.write (ltb 0 (top_of shape)) ≡ true
      finish-whole = both_true _ _ wr (lt-ltb 0 (top_of shape) (omega arith))

      -- the leaf is in its line alone; that line changed
      bl : leaf < blocks_of (top_of shape) n
      bl = in-line.lined.apart.exists b.line leaf in-line.has-it

      alone : (i : ℕ) → (i ≡ b.line → ⊥) → Has b.rows.lines i leaf → ⊥
      alone i q f = q (in-line.lined.apart.one i b.line leaf f in-line.has-it)

      abbrev changed-lines : List ℕ
      changed-lines = (put (word leaf true 0)).lines

      changed-lined : LinedBy shape ts changed-lines
      changed-lined = fill-lined in-line.lined b.line leaf in-line.line-lt in-line.loose bl (small sit) alone free true

      changed-keeps : (j : ℕ) → 0 < holder (at r.lines j) → at changed-lines j ≡ at r.lines j
      changed-keeps j q = fill-keeps in-line.lined b.line leaf in-line.line-lt in-line.loose bl (small sit) alone free true j
          (subst (λ (w : ℕ). 0 < holder w) (sym (in-line.keeps j q)) q) ∙ in-line.keeps j q

      changed-others : (j c : ℕ) → (c ≡ leaf → ⊥) → Has changed-lines j c → Has r.lines j c
      changed-others j c q f = in-line.others j c q (fill-others in-line.lined b.line leaf in-line.line-lt in-line.loose bl (small sit) alone free true j c q f)

      freed-lined : LinedBy shape ts (set b.rows.lines b.line 0)
      freed-lined = loose-lined in-line.lined b.line 0 in-line.line-lt in-line.loose holder-free
          (λ e. absurd (not-both-ways e free-used)) (λ e. absurd (not-both-ways e free-used)) (λ e. absurd (not-both-ways e free-used))

      keeps-put_in : Left (put_in own u b)
      keeps-put_in = ⊎_elim empties fills (true-or-false (all_zero (line_bytes (bytes_with u b) b.line)))
        where
          empties : all_zero (line_bytes (bytes_with u b) b.line) ≡ true → Left (put_in own u b)
          empties z = rw (put_in-empty own u b z) (record {
            says = refl;
            shaped = in-line.shaped;
            lined = to-finish false b.copies freed-lined;
            tracked = goes-tracked sit (Clear 0) _ finish-whole;
            long = put-long 0;
          })

          fills : all_zero (line_bytes (bytes_with u b) b.line) ≡ false → Left (put_in own u b)
          fills z = rw (put_in-done own u b z)
              (lets-go sit (put (word leaf true 0)) changed-lined (its-since sit leaf changed-lined free changed-keeps changed-others) (put-long (word leaf true 0)) (done (turns_of u)) refl b.shape in-line.shaped b.copies)

      keeps-write1 : Left (write_under1 shape u r)
      keeps-write1 = go (ℕ_discrete (group_in b.rows.bytes b.line u.group) u.value)
        where
          go : Dec (group_in b.rows.bytes b.line u.group ≡ u.value) → Left (write_under1 shape u r)
          go (yes e) = rw (write1-same shape u r in-line.line-lt e) (leaf-ends _ refl)
          go (no e) = rw (write1-put shape u r in-line.line-lt e) keeps-put_in

      new-long : length (new_leaf u) ≡ 64
      new-long = length-put_w 4 zeros (byte_of u.group) (bytes 4 u.value) (length-bytes 4 u.value) ∙ zeros-length

      keeps-write0 : Left (write_under0 shape u r)
      keeps-write0 = go (ℕ_discrete u.value 0)
        where
          go : Dec (u.value ≡ 0) → Left (write_under0 shape u r)
          go (yes e) = rw (write0-same shape u r e) (lets-go sit r sit.lined (λ e el k. its-first sit (suc e)) as_long (same (turns_of u)) refl shape (unmoved sit.hand-lt) none)
          go (no e) =
              let f = leaf-creates sit p (new_leaf u) new-long in
              rw (write0-create shape u r e f.line-lt) (record {
                says = refl;
                shaped = f.shaped;
                lined = to-finish true (create shape leaf (new_leaf u) r).copies f.lined;
                tracked = goes-tracked sit (Set 0) _ finish-whole;
                long = f.long;
              })

      keeps-leaf_write : Left (leaf_write shape u r)
      keeps-leaf_write = go (ℕ_discrete (bit_in r.bytes (own 1) 0 u.group) 0)
        where
          go : Dec (bit_in r.bytes (own 1) 0 u.group ≡ 0) → Left (leaf_write shape u r)
          go (yes e) = rw (leaf_write-0 shape u r e) keeps-write0
          go (no e) = rw (leaf_write-1 shape u r e) keeps-write1

    pub keeps-at_leaf : Left (under shape x 0 u r)
    keeps-at_leaf = ⊎_elim (λ w. rw (under-write shape x u r (under-own sit 0 p) w) (keeps-leaf_write w)) (λ w. rw (under-read shape x u r (under-own sit 0 p) w) keeps-leaf_read) (true-or-false u.write)
