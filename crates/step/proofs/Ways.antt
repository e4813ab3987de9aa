-- A law for each way out of Top, Finish and a step, from what the code has tested: the rule is then what one of its ends says.
use mathlib.Core.Path.{◌≡◌, refl, sym, ap, subst, ◌∙◌}
use mathlib.Core.List.{List}
use mathlib.Core.Bool.{Bool, true, false}
use Prim.Native.Nat.{ℕ, suc, ◌+◌, ◌*◌, ◌≤◌, ◌<◌}
use native.Mathlib.Omega.{arith}
use lib.Dec.{eqb, ltb, leb}
use lib.ListN.{length, get_or, set}
use borrow.Author.Tests.{eq-eqb, lt-ltb, le-ltb, leb-true, ltb-true, eqb-true}
use Rattle.geometry.specs.declared.Shape.{Shape}
use Rattle.geometry.specs.Shape.{below_top, top_of}
use Rattle.geometry.specs.TagMemory.{groups, in_limits_of, map_byte_of, map_bit_of, index, block_over}
use Rattle.laws.specs.Choice.{pick, both}
use Rattle.laws.proofs.Choice.{both_true, both_left, both_right}
use Rattle.block.specs.Block.{put_bit}
use Rattle.tracker.specs.declared.Phase.{Phase}
use Rattle.tracker.specs.declared.Phase.TheVariants.{Probe, Under, Set, Clear}
use Rattle.tracker.specs.declared.Transfers.{Transfers}
use Rattle.tracker.specs.declared.Tracker.{Tracker}
use Rattle.tracker.specs.Transfers.{none}
use Rattle.tracker.specs.Tracker.{level_of}
use Rattle.tracker.specs.Answer.{read, done, same}
use Rattle.line.specs.Word.{held, held_by, holders}
use Rattle.line.specs.Find.{line_of}
use Rattle.rules.specs.State.{Rows, lengths_right}
use Rattle.rules.specs.Place.{rows_fit, Brought, bring_in}
use Rattle.rules.specs.Step.{ends, goes, waits, refuses, turns_of, asks_zero, says_zero, bit_in, let_go, lets_go, descend, probe, top, under, bit_put, finish, by_phase, fit, turn_of}
use Rattle.placing.specs.Lines.{rows, fetched}
use Rattle.placing.proofs.Ways.{left, line-is, rows_are, bring_in-fetched, bring_in-top, fetched-same}
use Rattle.own.specs.declared.Own.{Own}
use Rattle.own.specs.Own.{line_on, Owns}
use Rattle.own.proofs.Ways.{lets_go-own, descend-own}
use Rattle.leaf.specs.Leaf.{probe_on, leaf_on}
use Rattle.leaf.proofs.Ways.{probe_on-fit}
use Rattle.step.specs.Step.{holds_it, changed_at}

-- the accesses that bit 0 ends
module _ (t : Tracker) (shape : Shape) (more : Transfers) (r : Rows) where
  pub zero-write : t.write ≡ true → ends (says_zero t) shape t more r ≡ ends (same (turns_of t)) shape t more r
  zero-write w = rw w refl

  pub zero-read : t.write ≡ false → ends (says_zero t) shape t more r ≡ ends (read 0 (turns_of t)) shape t more r
  zero-read w = rw w refl

pub holds-is : (x d i : ℕ) (shape : Shape) (more : Transfers) (w : ℕ) (t : Tracker) (lines bs m : List ℕ) → w ≡ held_by (get_or lines i 0) (x + 1)
    → holds_it x d t (left i shape more lines bs m) ≡ goes t (Under d) more shape (rows (set lines i w) bs m)
holds-is x d i shape more w t lines bs m e = rw e refl

-- by the bit and what the access asks
module _ (x : ℕ) (own : ℕ → ℕ) (d bit : ℕ) (t : Tracker) (b : Brought) (eb : bit ≡ bit_in b.rows.bytes b.line d t.group) where
  pub descend-ends : bit ≡ 0 → asks_zero t ≡ true → descend x own d t b ≡ lets_go (says_zero t) b.shape t b.copies own b.rows
  unfolding descend
  descend-ends z a = rw (← eb, both_true _ _ (eq-eqb bit 0 z) a) refl

  pub descend-holds : both (eqb bit 0) (asks_zero t) ≡ false → descend x own d t b ≡ holds_it x d t b
  unfolding descend
  descend-holds h = rw (← eb, h) refl

-- Top; its line is the one found
module _ (shape : Shape) (x i : ℕ) (t : Tracker) (lines bytes memory : List ℕ) (own : Own) (o : Owns own shape t.group lines) (e : i ≡ line_on own (top_of shape)) where
  found : i ≡ line_of lines shape.l (block_over (top_of shape) shape.n t.group)
  found = e ∙ o (top_of shape) (omega arith) (omega arith)

  pub top-waits : i < shape.l → held (get_or lines i 0) ≡ true → top shape x t (rows lines bytes memory) ≡ waits t shape (rows lines bytes memory)
  unfolding top both
  top-waits h w = rw (← found, lt-ltb _ _ h, w) refl

  pub top-lined : {d : ℕ} {z : Transfers} → i < shape.l → held (get_or lines i 0) ≡ false → z ≡ none → d ≡ below_top shape
      → top shape x t (rows lines bytes memory) ≡ descend x (line_on own) d t (left i shape z lines bytes memory)
  unfolding top both bring_in
  top-lined h w ez ed = rw (← found, lt-ltb _ _ h, w, lt-ltb _ _ h, ez, ed) (sym (descend-own own shape t (rows lines bytes memory) o shape refl i none (rows lines bytes memory) x (below_top shape)))

  module _ (h : shape.l ≤ i) (b : ℕ) (eb : b ≡ block_over (top_of shape) shape.n t.group) (at : ℕ) (next : Shape) (more : Transfers) (ls bs m : List ℕ)
      (g : left at next more ls bs m ≡ fetched shape b (rows lines bytes memory)) where
    brought : bring_in shape (block_over (top_of shape) shape.n t.group) (rows lines bytes memory) ≡ left at next more ls bs m
    brought = rw (← eb, bring_in-fetched shape lines bytes memory b (omega (arith, rw (← eb) at found))) (sym g)

    same-top : top_of next ≡ top_of shape
    same-top = ap (λ (q : Brought). top_of q.shape) (sym brought) ∙ bring_in-top shape (block_over (top_of shape) shape.n t.group) (rows lines bytes memory)

    pub top-none : shape.l ≤ at → top shape x t (rows lines bytes memory) ≡ refuses 4 t shape (rows ls bs m)
    unfolding top both
    top-none q =
        let f : (fetched shape b (rows lines bytes memory)).rows ≡ rows lines bytes memory = fetched-same shape b (rows lines bytes memory) (omega (arith, line-is g)) in
        let k : rows ls bs m ≡ rows lines bytes memory = rows_are g ∙ f in
        rw (brought, ← found, le-ltb _ _ h, le-ltb _ _ q, k) refl

    pub top-fetched : {d : ℕ} → at < shape.l → d ≡ below_top shape → top shape x t (rows lines bytes memory) ≡ descend x (line_on own) d t (left at next more ls bs m)
    unfolding top both
    top-fetched q ed = rw (brought, ← found, le-ltb _ _ h, lt-ltb _ _ q, ed) (sym (descend-own own shape t (rows lines bytes memory) o next same-top at more (rows ls bs m) x (below_top shape)))

-- Finish at the top
module _ (shape : Shape) (s : Bool) (d j : ℕ) (t : Tracker) (lines bytes m : List ℕ) (own : Own) (o : Owns own shape t.group lines) (e : j ≡ line_on own (top_of shape)) (last : suc d ≡ top_of shape) where
  its-line : j ≡ line_of lines shape.l (block_over (suc d) shape.n t.group)
  its-line = subst (λ (z : ℕ). j ≡ line_of lines shape.l (block_over z shape.n t.group)) (sym last) (e ∙ o (top_of shape) (omega arith) (omega arith))

  pub finish-none : shape.l ≤ j → finish shape s d t (rows lines bytes m) ≡ refuses 4 t shape (rows lines bytes m)
  unfolding finish
  finish-none h = rw (← its-line, le-ltb _ _ h) refl

  pub finish-is : {more : Transfers} {ls gone bs : List ℕ} → j < shape.l → more ≡ none → ls ≡ changed_at lines j → gone ≡ let_go t.phase (line_on own) (top_of shape) ls
      → bs ≡ put_bit bytes (64 * j + map_byte_of (index d t.group)) (map_bit_of (index d t.group)) (pick s 1 0)
      → finish shape s d t (rows lines bytes m) ≡ ends (done (turns_of t)) shape t more (rows gone bs m)
  unfolding finish
  finish-is h en el eg eb =
      rw (← its-line, lt-ltb _ _ h, le-ltb (suc d) (top_of shape) (omega arith), en, eg, el, eb)
      (sym (lets_go-own own shape t (rows lines bytes m) o shape refl (done (turns_of t)) none (bit_put s d j t (rows lines bytes m))))

-- the phase that the tracker is at; 01's device has one level below the top
level-0 : (shape : Shape) {d : ℕ} → d < top_of shape → d ≡ 0
unfolding below_top
level-0 shape h = omega arith

pub top-1 : (shape : Shape) → 1 ≡ top_of shape
unfolding below_top
top-1 shape = refl

module _ (shape : Shape) (x : ℕ) (t : Tracker) (r : Rows) where
  pub at-phase : {p : Phase} → t.phase ≡ p → by_phase shape x t r t.phase ≡ by_phase shape x t r p
  at-phase e = rw e refl

  module _ (low : level_of t.phase < top_of shape) {d : ℕ} where
    first-level : (f : ℕ → Phase) → ((k : ℕ) → level_of (f k) ≡ k) → t.phase ≡ f d → d ≡ 0
    first-level f g e = level-0 shape (rw (e, g) at low)

    pub at-probe : rows_fit shape.l r.lines r.bytes ≡ true → t.phase ≡ Probe d → by_phase shape x t r t.phase ≡ probe_on shape t r
    at-probe f e = at-phase e ∙ ap (λ (k : ℕ). probe shape k t r) (first-level Probe (λ k. refl) e) ∙ sym (probe_on-fit shape t r f)

    pub at_under : in_limits_of (top_of shape) shape.n ≡ true → rows_fit shape.l r.lines r.bytes ≡ true → t.phase ≡ Under d → by_phase shape x t r t.phase ≡ leaf_on shape t r
    unfolding leaf_on under both
    at_under i f e = at-phase e ∙ ap (λ (k : ℕ). under shape x k t r) (first-level Under (λ k. refl) e) ∙ rw (i, f) refl

    pub at_set : t.phase ≡ Set d → by_phase shape x t r t.phase ≡ finish shape true 0 t r
    at_set e = at-phase e ∙ ap (λ (k : ℕ). finish shape true k t r) (first-level Set (λ k. refl) e)

    pub at_clear : t.phase ≡ Clear d → by_phase shape x t r t.phase ≡ finish shape false 0 t r
    at_clear e = at-phase e ∙ ap (λ (k : ℕ). finish shape false k t r) (first-level Clear (λ k. refl) e)

-- what is tested before a step
module _ (shape : Shape) (x : ℕ) (t : Tracker) (r : Rows) where
  abbrev device : Bool
  device = both (in_limits_of (top_of shape) shape.n) (leb shape.l (length r.lines))

  abbrev its : Bool
  its = both (ltb t.group (groups shape.n)) (ltb (level_of t.phase) (top_of shape))

  module _ (f : fit shape x t r ≡ true) where
    pub fit_n : in_limits_of (top_of shape) shape.n ≡ true
    unfolding fit
    fit_n = both_left _ _ (both_left _ _ f)

    pub fit-l : shape.l ≤ length r.lines
    unfolding fit
    fit-l = leb-true _ _ (both_right (in_limits_of (top_of shape) shape.n) _ (both_left _ _ f))

    pub fit-g : t.group < groups shape.n
    unfolding fit
    fit-g = ltb-true _ _ (both_left _ _ (both_left its _ (both_right device _ f)))

    pub fit-d : level_of t.phase < top_of shape
    unfolding fit
    fit-d = ltb-true _ _ (both_right (ltb t.group (groups shape.n)) _ (both_left its _ (both_right device _ f)))

    pub fit-x : x < holders
    unfolding fit
    fit-x = ltb-true _ _ (both_right its _ (both_right device _ f))

module _ (shape : Shape) (bytes memory : List ℕ) where
  pub lengths-l : lengths_right shape bytes memory ≡ true → length bytes ≡ 64 * shape.l
  unfolding lengths_right
  lengths-l f = eqb-true _ _ (both_left _ _ f)

module _ (shape : Shape) (x : ℕ) (t : Tracker) (r : Rows) where
  pub turn-broken : fit shape x t r ≡ false → turn_of shape x t r ≡ refuses 4 t shape r
  unfolding turn_of
  turn-broken f = rw f refl

  pub turn-lengths : fit shape x t r ≡ true → lengths_right shape r.bytes r.memory ≡ false → turn_of shape x t r ≡ refuses 2 t shape r
  unfolding turn_of
  turn-lengths f h = rw (f, h) refl

  pub turn-steps : fit shape x t r ≡ true → lengths_right shape r.bytes r.memory ≡ true → turn_of shape x t r ≡ by_phase shape x t r t.phase
  unfolding turn_of
  turn-steps f h = rw (f, h) refl
