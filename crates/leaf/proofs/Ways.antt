-- A law for each way out of Probe and Leaf, from what the code has tested: the rule is then what one of its ends says.
use mathlib.Core.Path.{◌≡◌, refl, sym, ap, ◌∙◌}
use mathlib.Core.List.{List}
use mathlib.Core.Bool.{Bool, true, false}
use mathlib.Core.Logic.{⊎_elim}
use Prim.Native.Nat.{ℕ, ◌+◌, ◌-◌, ◌*◌, ◌≤◌, ◌<◌}
use native.Mathlib.Omega.{arith}
use lib.Dec.{ltb}
use lib.ListN.{length, set, take, drop}
use borrow.Author.Tests.{lt-ltb, le-ltb, eq-eqb, ne_eqb, ltb-true}
use Rattle.laws.specs.Choice.{both}
use Rattle.laws.proofs.Choice.{true-or-false, not-both-ways, both_true, both_left, both_right}
use Rattle.laws.proofs.Put.{part-is}
use Rattle.geometry.specs.declared.Shape.{Shape}
use Rattle.geometry.specs.Shape.{top_of}
use Rattle.geometry.specs.TagMemory.{leaf_of, byte_of, in_limits_of}
use Rattle.block.specs.Block.{put_group, all_zero}
use Rattle.tracker.specs.declared.Phase.{Phase}
use Rattle.tracker.specs.declared.Phase.TheVariants.{Set, Clear}
use Rattle.tracker.specs.declared.Transfers.{Transfers}
use Rattle.tracker.specs.declared.Tracker.{Tracker}
use Rattle.tracker.specs.Transfers.{none}
use Rattle.tracker.specs.Tracker.{after_probe}
use Rattle.tracker.specs.Answer.{Said, read, done, same}
use Rattle.line.specs.Word.{word}
use Rattle.line.specs.Find.{line_of}
use Rattle.rules.specs.State.{Rows}
use Rattle.rules.specs.Place.{line_bytes, rows_fit, bring_in, create}
use Rattle.rules.specs.Step.{ends, goes, refuses, turns_of, own_line, group_in, bit_in, let_go, lets_go, new_leaf, probe, leaf_read, put_in, write_under1, write_under0, under}
use Rattle.rules.proofs.Ways.{leaf-over, probe-miss, probe-read, probe-same, probe-other, write0-same, leaf_write-0, leaf_write-1, under-read, under-write, put_in-empty, put_in-done}
use Rattle.placing.specs.Lines.{rows}
use Rattle.placing.proofs.Ways.{left, line-is, shape_is, rows_are, bring_in-same, create-same, bring_in-top, fit-lines, fit-bytes}
use Rattle.own.specs.declared.Own.{Own}
use Rattle.own.specs.Own.{line_on, Owns, own_of, line_over}
use Rattle.own.proofs.Ways.{line_over-is, line_over-found, owns-found, lets_go-own, put_in-own}
use Rattle.leaf.specs.Leaf.{probe_on, leaf_on}

-- an ending that lets go of the own lines that were found
module _ (own : Own) (shape : Shape) (t : Tracker) (r : Rows) (o : Owns own shape t.group r.lines) where
  pub lets-go : (a : Said) (next : Shape) (more : Transfers) (ls bs m gone : List ℕ) → top_of next ≡ top_of shape
      → gone ≡ let_go t.phase (line_on own) (top_of next) ls → lets_go a next t more (own_line shape t r) (rows ls bs m) ≡ ends a next t more (rows gone bs m)
  lets-go a next more ls bs m gone kept eg = sym (lets_go-own own shape t r o next kept a more (rows ls bs m)) ∙ rw eg refl

-- Probe
module _ (shape : Shape) (i k : ℕ) (next : Phase) (t : Tracker) (r : Rows) {z : Transfers} {top : ℕ} (ez : z ≡ none) (et : top ≡ top_of shape) (en : next ≡ after_probe top 0)
    (ek : k ≡ leaf_of t.group) (e : i ≡ line_of r.lines shape.l k) where
  own-0 : i ≡ own_line shape t r 0
  own-0 = e ∙ rw (ek, leaf-over shape.n t.group) refl

  on-is : goes t (after_probe (top_of shape) 0) none shape r ≡ goes t next z shape r
  on-is = rw (en, et, ez) refl

  pub probe-none : shape.l ≤ i → probe shape 0 t r ≡ goes t next z shape r
  probe-none h = probe-miss shape t r (omega (arith, own-0)) ∙ on-is

  module _ (v : ℕ) (h : i < shape.l) (ev : v ≡ group_in r.bytes i t.group) where
    in-line-0 : own_line shape t r 0 < shape.l
    in-line-0 = omega (arith, own-0)

    group-0 : v ≡ group_in r.bytes (own_line shape t r 0) t.group
    group-0 = ev ∙ rw own-0 refl

    pub probe-reads : t.write ≡ false → probe shape 0 t r ≡ ends (read v (turns_of t)) shape t z r
    probe-reads w = probe-read shape t r in-line-0 w ∙ rw (group-0, ez) refl

    pub probe-equal : t.write ≡ true → v ≡ t.value → probe shape 0 t r ≡ ends (same (turns_of t)) shape t z r
    probe-equal w q = probe-same shape t r in-line-0 w (sym group-0 ∙ q) ∙ rw ez refl

    pub probe-differs : t.write ≡ true → (v ≡ t.value → ⊥) → probe shape 0 t r ≡ goes t next z shape r
    probe-differs w q = probe-other shape t r in-line-0 w (λ y. q (group-0 ∙ y)) ∙ on-is

-- Probe on rows that fit, or not
module _ (shape : Shape) (t : Tracker) (r : Rows) where
  pub probe_on-misfit : rows_fit shape.l r.lines r.bytes ≡ false → probe_on shape t r ≡ refuses 4 t shape r
  unfolding probe_on
  probe_on-misfit f = rw f refl

  pub probe_on-fit : rows_fit shape.l r.lines r.bytes ≡ true → probe_on shape t r ≡ probe shape 0 t r
  unfolding probe_on
  probe_on-fit f = rw f refl

-- Leaf: the leaf is brought in
module _ (own : Own) (shape : Shape) (k : ℕ) (t : Tracker) (lines bytes memory : List ℕ) (o : Owns own shape t.group lines) (ek : k ≡ leaf_of t.group)
    (i : ℕ) (next : Shape) (more : Transfers) (ls bs m : List ℕ) (g : left i next more ls bs m ≡ bring_in shape k (rows lines bytes memory)) where
  leaf-in : bring_in shape (leaf_of t.group) (rows lines bytes memory) ≡ left i next more ls bs m
  leaf-in = rw (← ek) (sym g)

  leaf-none : shape.l ≤ i → rows ls bs m ≡ rows lines bytes memory
  leaf-none q = rows_are g ∙ bring_in-same shape k lines bytes memory (omega (arith, line-is g))

  top_kept : top_of next ≡ top_of shape
  top_kept = rw (shape_is g) (bring_in-top shape k (rows lines bytes memory))

  pub leaf_read-none : shape.l ≤ i → leaf_read shape t (rows lines bytes memory) ≡ refuses 4 t shape (rows ls bs m)
  unfolding leaf_read
  leaf_read-none q = rw (leaf-in, le-ltb _ _ q, leaf-none q) refl

  pub write_under1-none : shape.l ≤ i → write_under1 shape t (rows lines bytes memory) ≡ refuses 4 t shape (rows ls bs m)
  unfolding write_under1
  write_under1-none q = rw (leaf-in, le-ltb _ _ q, leaf-none q) refl

  module _ (v : ℕ) (q : i < shape.l) (ev : v ≡ group_in bs i t.group) where
    module _ (gone : List ℕ) (eg : gone ≡ let_go t.phase (line_on own) (top_of next) ls) where
      pub leaf_read-ends : leaf_read shape t (rows lines bytes memory) ≡ ends (read v (turns_of t)) next t more (rows gone bs m)
      unfolding leaf_read
      leaf_read-ends = rw (leaf-in, lt-ltb _ _ q, ← ev) (lets-go own shape t (rows lines bytes memory) o (read v (turns_of t)) next more ls bs m gone top_kept eg)

      pub write_under1-same : v ≡ t.value → write_under1 shape t (rows lines bytes memory) ≡ ends (same (turns_of t)) next t more (rows gone bs m)
      unfolding write_under1
      write_under1-same y = rw (leaf-in, lt-ltb _ _ q, ← ev, eq-eqb _ _ y) (lets-go own shape t (rows lines bytes memory) o (same (turns_of t)) next more ls bs m gone top_kept eg)

    pub write_under1-put : (v ≡ t.value → ⊥) → write_under1 shape t (rows lines bytes memory) ≡ put_in (line_on own) t (left i next more ls bs m)
    unfolding write_under1
    write_under1-put y =
        rw (leaf-in, lt-ltb _ _ q, ← ev, ne_eqb _ _ y) (sym (put_in-own own shape t (rows lines bytes memory) o next top_kept i more (rows ls bs m)))

-- Leaf, write: v is put into the leaf in line i
module _ (own : Own) (i : ℕ) (shape : Shape) (more : Transfers) (at : ℕ) (t : Tracker) (lines bytes bs m : List ℕ) (ea : at ≡ byte_of t.group) (eb : bs ≡ put_group bytes (64 * i + at) t.value)
    (z : Bool) (ez : z ≡ all_zero (take (64 * i + 64 - 64 * i) (drop (64 * i) bs))) where
  all-zero : all_zero (line_bytes (put_group bytes (64 * i + byte_of t.group) t.value) i) ≡ z
  all-zero = rw (← ea, ← eb, ez, part-is bs (64 * i) 64) refl

  pub put_in-clears : z ≡ true → put_in (line_on own) t (left i shape more lines bytes m) ≡ goes t (Clear 0) more shape (rows (set lines i 0) bs m)
  put_in-clears y = put_in-empty (line_on own) t (left i shape more lines bytes m) (all-zero ∙ y) ∙ rw (eb, ea) refl

  pub put_in-ends : (k w : ℕ) (gone : List ℕ) → z ≡ false → k ≡ leaf_of t.group → w ≡ word k true 0 → gone ≡ let_go t.phase (line_on own) (top_of shape) (set lines i w)
      → put_in (line_on own) t (left i shape more lines bytes m) ≡ ends (done (turns_of t)) shape t more (rows gone bs m)
  put_in-ends k w gone y ek ew eg = put_in-done (line_on own) t (left i shape more lines bytes m) (all-zero ∙ y) ∙ rw (eg, ew, ek, eb, ea) refl

-- Leaf, write, under bit 0
module _ (own : Own) (shape : Shape) (t : Tracker) (lines bytes memory : List ℕ) (o : Owns own shape t.group lines) where
  pub write_under0-same : {z : Transfers} (gone : List ℕ) → z ≡ none → t.value ≡ 0 → gone ≡ let_go t.phase (line_on own) (top_of shape) lines
      → write_under0 shape t (rows lines bytes memory) ≡ ends (same (turns_of t)) shape t z (rows gone bytes memory)
  write_under0-same gone ez q eg =
      write0-same shape t (rows lines bytes memory) q ∙ rw ez (lets-go own shape t (rows lines bytes memory) o (same (turns_of t)) shape none lines bytes memory gone refl eg)

  module _ (k : ℕ) (new : List ℕ) (q : t.value ≡ 0 → ⊥) (ek : k ≡ leaf_of t.group) (en : new ≡ new_leaf t)
      (i : ℕ) (next : Shape) (more : Transfers) (ls bs m : List ℕ) (g : left i next more ls bs m ≡ create shape k new (rows lines bytes memory)) where
    created : create shape (leaf_of t.group) (new_leaf t) (rows lines bytes memory) ≡ left i next more ls bs m
    created = rw (← ek, ← en) (sym g)

    pub write_under0-none : shape.l ≤ i → write_under0 shape t (rows lines bytes memory) ≡ refuses 4 t shape (rows ls bs m)
    unfolding write_under0
    write_under0-none h = rw (ne_eqb _ _ q, created, le-ltb _ _ h, rows_are g ∙ create-same shape k new (rows lines bytes memory) (omega (arith, line-is g))) refl

    pub write_under0-on : i < shape.l → write_under0 shape t (rows lines bytes memory) ≡ goes t (Set 0) more next (rows ls bs m)
    unfolding write_under0
    write_under0-on h = rw (ne_eqb _ _ q, created, lt-ltb _ _ h) refl

-- Leaf on rows that fit, or not: what a row of L lines with line j has
module _ (l j : ℕ) (lines bytes : List ℕ) (f : both (ltb j l) (rows_fit l lines bytes) ≡ true) where
  pub in-line : j < l
  in-line = ltb-true _ _ (both_left _ _ f)

  pub in_lines : l ≤ length lines
  in_lines = fit-lines l lines bytes (both_right (ltb j l) _ f)

  pub in_bytes : length bytes ≡ 64 * l
  in_bytes = fit-bytes l lines bytes (both_right (ltb j l) _ f)

-- by the own lines that were found
module _ (shape : Shape) (own : Own) (t : Tracker) (r : Rows) (e : own ≡ own_of shape t.group r.lines) where
  found-1 : own.one ≡ line_over shape t.group r.lines 1
  unfolding own_of
  found-1 = ap (λ (w : Own). w.one) e

  pub leaf_on-out : both (ltb own.one shape.l) (rows_fit shape.l r.lines r.bytes) ≡ false → leaf_on shape t r ≡ refuses 4 t shape r
  unfolding leaf_on under both
  leaf_on-out f = go (in_limits_of (top_of shape) shape.n) (rows_fit shape.l r.lines r.bytes) refl refl
    where
      go : (a b : Bool) → in_limits_of (top_of shape) shape.n ≡ a → rows_fit shape.l r.lines r.bytes ≡ b → leaf_on shape t r ≡ refuses 4 t shape r
      go false b p q = rw p refl
      go true false p q = rw (p, q) refl
      go true true p q =
          let not_in : ltb own.one shape.l ≡ false = ⊎_elim (λ y. absurd (not-both-ways (both_true _ _ y q) f)) (λ n. n) (true-or-false (ltb own.one shape.l)) in
          let own-1 : own.one ≡ own_line shape t r 1 = found-1 ∙ line_over-is shape t.group r.lines 1 p in
          let none_1 : ltb (own_line shape t r 1) shape.l ≡ false = rw own-1 at not_in in
          rw (p, q, none_1) refl

  module _ (f : both (ltb own.one shape.l) (rows_fit shape.l r.lines r.bytes) ≡ true) where
    limits-in : in_limits_of (top_of shape) shape.n ≡ true
    limits-in = line_over-found shape t.group r.lines 1 (omega (arith, found-1, in-line shape.l own.one r.lines r.bytes f))

    pub is-own : Owns own shape t.group r.lines
    is-own = owns-found shape t.group r.lines e limits-in

    own-1 : own.one ≡ own_line shape t r 1
    own-1 = found-1 ∙ line_over-is shape t.group r.lines 1 limits-in

    leaf_on-in : leaf_on shape t r ≡ under shape 0 0 t r
    unfolding leaf_on both
    leaf_on-in = rw (limits-in, both_right (ltb own.one shape.l) _ f) refl

    in-line-1 : own_line shape t r 1 < shape.l
    in-line-1 = omega (arith, own-1, in-line shape.l own.one r.lines r.bytes f)

    pub leaf_on-read : t.write ≡ false → leaf_on shape t r ≡ leaf_read shape t r
    leaf_on-read w = leaf_on-in ∙ under-read shape 0 t r in-line-1 w

    module _ (bit : ℕ) (eb : bit ≡ bit_in r.bytes own.one 0 t.group) (w : t.write ≡ true) where
      bit-1 : bit ≡ bit_in r.bytes (own_line shape t r 1) 0 t.group
      bit-1 = eb ∙ rw own-1 refl

      pub leaf_on-0 : bit ≡ 0 → leaf_on shape t r ≡ write_under0 shape t r
      leaf_on-0 z = leaf_on-in ∙ under-write shape 0 t r in-line-1 w ∙ leaf_write-0 shape t r (sym bit-1 ∙ z)

      pub leaf_on-1 : (bit ≡ 0 → ⊥) → leaf_on shape t r ≡ write_under1 shape t r
      leaf_on-1 z = leaf_on-in ∙ under-write shape 0 t r in-line-1 w ∙ leaf_write-1 shape t r (λ y. z (bit-1 ∙ y))
