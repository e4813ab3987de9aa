-- A step of the rules moves its tracker as the table says, or is refused: each way out of each rule is one line of the table.
use mathlib.Core.Path.{◌≡◌, refl, ◌∙◌}
use mathlib.Core.Bool.{Bool, true, false}
use Prim.Native.Nat.{ℕ, zero, suc, ◌+◌, ◌<◌}
use native.Mathlib.Omega.{arith}
use lib.Dec.{eqb, ltb}
use borrow.Author.Tests.{ltb-true, lt-ltb}
use Rattle.laws.specs.Choice.{pick, both, no as negated}
use Rattle.laws.proofs.Choice.{both_left, both_right, pick-by}
use Rattle.geometry.specs.declared.Shape.{Shape}
use Rattle.geometry.specs.Shape.{below_top, top_of}
use Rattle.geometry.specs.TagMemory.{leaf_of, byte_of, block_over, block_place}
use Rattle.block.specs.Block.{put_group, all_zero}
use Rattle.tracker.specs.declared.Phase.{Phase}
use Rattle.tracker.specs.declared.Phase.TheVariants.{Idle, Probe, Top, Under, Set, Clear}
use Rattle.tracker.specs.declared.Tracker.{Tracker}
use Rattle.tracker.specs.Tracker.{idle, tick, at, counted, level_of, finish_at}
use Rattle.tracker.specs.Answer.{Said, wait, no}
use Rattle.tracker.specs.Answer as Answer
use Rattle.line.specs.Word.{held}
use Rattle.rules.specs.State.{Rows, lengths_right}
use Rattle.rules.specs.Place.{line_bytes, Brought, bring_in, create}
use Rattle.rules.specs.Step.{Turned, asks_zero, says_zero, own_line, group_in, bit_in, probe, descend, top, leaf_read, put_in, write_under1, new_leaf, write_under0, leaf_write, under_bit, below_line, under, bit_put, must_change, finish_below, finish, by_phase, fit, turn_of}
use Rattle.rules.specs.Step as Step
use Rattle.rules.proofs.Ways.{top_held}
use Rattle.circle.specs.Table.{Move, waits, to, ends, onward, rule}
use Rattle.circle.proofs.Ending.{Ending}

-- what a move of the table says and leaves of the tracker
abbrev pub Moved : Tracker → Move Phase → Said → Tracker → Type 0
Moved t waits said t' = (said ≡ wait) × (t' ≡ counted t)
Moved t (to p) said t' = (said ≡ Answer.moved) × (t' ≡ at t p t'.transfers)
Moved t ends said t' = Ending said (tick t.turns) × (t' ≡ idle)

-- a step is refused, or is a move of the table of a device with this level below the top
pub data Way (below : ℕ) (t : Tracker) (held write : Bool) (p : Phase) (r : Turned) : Type 0 where
  refused : (c : ℕ) → r.said ≡ no c → Way below t held write p r
  moves : (quit set : Bool) → level_of p < suc below → Moved t (rule below held quit set write p) r.said r.tracker → Way below t held write p r

either_way : {below : ℕ} {t : Tracker} {h w : Bool} {p : Phase} {r r' : Turned} (b : Bool) → Way below t h w p r → Way below t h w p r' → Way below t h w p (pick b r r')
either_way true u v = u
either_way false u v = v

zero-ends : (t : Tracker) → Ending (says_zero t) (tick t.turns)
zero-ends t = pick-by (λ (a : Said). Ending a (tick t.turns)) t.write (λ h. refl) (λ h. refl)

rule-finish : (below : ℕ) (held quit set write s : Bool) (d : ℕ) → rule below held quit set write (finish_at s d) ≡ onward below quit d (finish_at s (suc d))
rule-finish below held quit set write true d = refl
rule-finish below held quit set write false d = refl

-- the steps of tracker t, of a level below the top
module _ (shape : Shape) (x : ℕ) (t : Tracker) (r : Rows) (h w : Bool) where
  abbrev WayAt : (held write : Bool) → Phase → Turned → Type 0
  WayAt = Way (below_top shape) t

  probe-way : (d : ℕ) → d < top_of shape → WayAt h w (Probe d) (probe shape d t r)
  unfolding probe
  probe-way zero l =
      let i = own_line shape t r 0 in
      either_way (ltb i shape.l)
      (either_way t.write (either_way (eqb (group_in r.bytes i t.group) t.value) (moves true false l (refl, refl)) (moves false false l (refl, refl)))
      (moves true false l (refl, refl)))
      (moves false false l (refl, refl))
  probe-way (suc e) l =
      let i = own_line shape t r (suc e) in
      either_way (both (both (ltb i shape.l) (negated (top_held shape t r))) (both (eqb (bit_in r.bytes i e t.group) 0) (asks_zero t)))
      (moves true false l (zero-ends t, refl)) (moves false false l (refl, refl))

  -- down one level, from Top or from Under
  descend-way : (p : Phase) (own : ℕ → ℕ) (d : ℕ) (b : Brought) → level_of p < top_of shape → rule (below_top shape) h true false w p ≡ ends → rule (below_top shape) h false false w p ≡ to (Under d)
      → WayAt h w p (descend x own d t b)
  unfolding descend
  descend-way p own d b l quits goes =
      either_way (both (eqb (bit_in b.rows.bytes b.line d t.group) 0) (asks_zero t)) (moves true false l (rw quits (zero-ends t, refl))) (moves false false l (rw goes (refl, refl)))

  leaf_read-way : 0 < top_of shape → WayAt h false (Under 0) (leaf_read shape t r)
  unfolding leaf_read
  leaf_read-way l = either_way (ltb (bring_in shape (leaf_of t.group) r).line shape.l) (moves true false l (refl, refl)) (refused 4 refl)

  put_in-way : (own : ℕ → ℕ) (b : Brought) → 0 < top_of shape → WayAt h true (Under 0) (put_in own t b)
  unfolding put_in
  put_in-way own b l =
      either_way (all_zero (line_bytes (put_group b.rows.bytes (block_place b.line + byte_of t.group) t.value) b.line))
      (moves false false l (refl, refl)) (moves true false l (refl, refl))

  write1-way : 0 < top_of shape → WayAt h true (Under 0) (write_under1 shape t r)
  unfolding write_under1
  write1-way l =
      let b = bring_in shape (leaf_of t.group) r in
      either_way (ltb b.line shape.l)
      (either_way (eqb (group_in b.rows.bytes b.line t.group) t.value) (moves true false l (refl, refl)) (put_in-way (own_line shape t r) b l))
      (refused 4 refl)

  write0-way : 0 < top_of shape → WayAt h true (Under 0) (write_under0 shape t r)
  unfolding write_under0
  write0-way l =
      either_way (eqb t.value 0) (moves true false l (refl, refl))
      (either_way (ltb (create shape (leaf_of t.group) (new_leaf t) r).line shape.l) (moves false true l (refl, refl)) (refused 4 refl))

  leaf_write-way : 0 < top_of shape → WayAt h true (Under 0) (leaf_write shape t r)
  unfolding leaf_write
  leaf_write-way l = either_way (eqb (bit_in r.bytes (own_line shape t r 1) 0 t.group) 0) (write0-way l) (write1-way l)

  -- Finish: up one level, or the end
  abbrev FinishWay : (set : Bool) (d : ℕ) → Turned → Type 0
  FinishWay s d = WayAt h w (finish_at s d)

  finish-ends : (s : Bool) (d : ℕ) (a : Turned) → level_of (finish_at s d) < top_of shape → Ending a.said (tick t.turns) → a.tracker ≡ idle → FinishWay s d a
  finish-ends s d a l e i = moves true false l (rw (rule-finish (below_top shape) h true false w s d) (e, i))

  finish_below-way : (s : Bool) (d : ℕ) → level_of (finish_at s d) < top_of shape → ltb (suc d) (top_of shape) ≡ true → FinishWay s d (finish_below shape s d t r)
  unfolding finish_below
  finish_below-way s d l b =
      let j = own_line shape t r (suc d) in
      let k = own_line shape t r (suc (suc d)) in
      let m : suc d < top_of shape = ltb-true _ _ b in
      let on : rule (below_top shape) h false false w (finish_at s d) ≡ to (finish_at s (suc d)) = rule-finish (below_top shape) h false false w s d ∙ rw (lt-ltb d (below_top shape) (omega arith)) in
      either_way (ltb k shape.l)
      (either_way (must_change s (bit_in r.bytes k (suc d) t.group) j (bit_put s d j t r)) (moves false false l (rw on (refl, refl))) (finish-ends s d _ l refl refl))
      (refused 4 refl)

  finish-way : (s : Bool) (d : ℕ) → level_of (finish_at s d) < top_of shape → FinishWay s d (finish shape s d t r)
  unfolding finish
  finish-way s d l =
      either_way (ltb (own_line shape t r (suc d)) shape.l)
      (pick-by (FinishWay s d) (ltb (suc d) (top_of shape)) (finish_below-way s d l) (λ b. finish-ends s d _ l refl refl))
      (refused 4 refl)

module _ (shape : Shape) (x : ℕ) (t : Tracker) (r : Rows) where
  held-way : (h w : Bool) (r' : Turned) → Way (below_top shape) t false w Top r' → Way (below_top shape) t h w Top (pick h (Step.waits t shape r) r')
  held-way true w r' v = moves false false (omega arith) (refl, refl)
  held-way false w r' v = v

  top-way : (w : Bool) → Way (below_top shape) t (top_held shape t r) w Top (top shape x t r)
  unfolding top
  top-way w =
      let b = bring_in shape (block_over (top_of shape) shape.n t.group) r in
      held-way (top_held shape t r) w _
      (either_way (ltb b.line shape.l) (descend-way shape x t r false w Top (own_line shape t r) (below_top shape) b (omega arith) refl refl) (refused 4 refl))

  module _ (h : Bool) where
    leaf-way : (w : Bool) → 0 < top_of shape → Way (below_top shape) t h w (Under 0) (pick w (leaf_write shape t r) (leaf_read shape t r))
    leaf-way true l = leaf_write-way shape x t r h true l
    leaf-way false l = leaf_read-way shape x t r h false l

    below_line-way : (d : ℕ) → d < top_of shape → Way (below_top shape) t h t.write (Under d) (below_line shape x d t r)
    below_line-way zero l = leaf-way t.write l
    below_line-way (suc e) l =
        let b = under_bit shape (suc e) t r in
        either_way (ltb b.line shape.l) (descend-way shape x t r h t.write (Under (suc e)) (own_line shape t r) e b l refl refl) (refused 4 refl)

    under-way : (d : ℕ) → d < top_of shape → Way (below_top shape) t h t.write (Under d) (under shape x d t r)
    unfolding under
    under-way d l = either_way (ltb (own_line shape t r (suc d)) shape.l) (below_line-way d l) (refused 4 refl)

  phase-way : (p : Phase) → level_of p < top_of shape → Way (below_top shape) t (top_held shape t r) t.write p (by_phase shape x t r p)
  phase-way Idle l = refused 8 refl
  phase-way (Probe d) l = probe-way shape x t r (top_held shape t r) t.write d l
  phase-way Top l = top-way t.write
  phase-way (Under d) l = under-way (top_held shape t r) d l
  phase-way (Set d) l = finish-way shape x t r (top_held shape t r) t.write true d l
  phase-way (Clear d) l = finish-way shape x t r (top_held shape t r) t.write false d l

  -- The step is refused, or is a move of the table.
  pub turn-way : Way (below_top shape) t (top_held shape t r) t.write t.phase (turn_of shape x t r)
  unfolding turn_of fit
  turn-way =
      pick-by (Way (below_top shape) t (top_held shape t r) t.write t.phase) (fit shape x t r)
      (λ f. either_way (lengths_right shape r.bytes r.memory) (phase-way t.phase (ltb-true _ _ (both_right _ _ (both_left _ _ (both_right _ _ f))))) (refused 2 refl))
      (λ f. refused 4 refl)
