-- Reads change no line: while only reads were issued since the last drain, or since the start, every line is clean.
use mathlib.Core.Path.{◌≡◌, refl, ap, ◌∙◌, subst}
use mathlib.Core.Bool.{Bool, true, false}
use mathlib.Core.List.{List, [], ◌∷◌}
use mathlib.Core.Logic.{⊎_elim}
use Prim.Native.Nat.{ℕ, zero, suc, ◌*◌, ◌+◌, ◌<◌, ◌≤◌}
use native.Mathlib.Omega.{arith}
use lib.Dec.{eqb, ltb}
use lib.ListN.{get_or, set}
use Rattle.laws.specs.Choice.{pick, both, no as negated}
use Rattle.laws.proofs.Choice.{not-both-ways, both_left, pick-by}
use Rattle.laws.proofs.Refusals.{unless-by}
use Rattle.laws.proofs.Scan.{all-at}
use Rattle.laws.proofs.Splice.{lt-or-ge}
use Rattle.geometry.specs.declared.Shape.{Shape}
use Rattle.geometry.specs.Shape.{below_top, top_of}
use Rattle.geometry.specs.TagMemory.{leaf_of, block_over}
use Rattle.tracker.specs.declared.Phase.{Phase}
use Rattle.tracker.specs.declared.Phase.TheVariants.{Idle, Probe, Top, Under, Set, Clear}
use Rattle.tracker.specs.declared.Tracker.{Tracker}
use Rattle.tracker.specs.Tracker.{is_idle, keeps_at}
use Rattle.tracker.specs.Tracker as Tracker
use Rattle.line.specs.Word.{changed, held, word, held_by, line_blocks, marks}
use Rattle.line.specs.Find.{line_of}
use Rattle.line.proofs.Words.{free-changed, not-used, changed-odd}
use Rattle.rules.specs.State.{Rows, tracker_at, lengths_right}
use Rattle.rules.specs.Whole.{phase_whole}
use Rattle.rules.specs.Place.{place_line, Brought, bring_in}
use Rattle.rules.specs.Step.{Turned, asks_zero, own_line, group_in, bit_in, loosened, let_go, probe, descend, top, leaf_read, under_bit, below_line, under, by_phase, fit, turn_of}
use Rattle.rules.specs.Calls.{Out, step_no, step, all_idle}
use Rattle.rules.specs.Run.{Call, issues, steps, drains, Kept, kept, does, answers}
use Rattle.rules.specs.Run as Run
use Rattle.rules.proofs.Whole.{whole-facts}
use Rattle.rules.proofs.Calls.{drain-is}
use Rattle.flat.specs.Flat.{Row}
use Rattle.flat.specs.Demand.{Values32}
use Rattle.flat.proofs.Drains.{drains as Drains-all}
use Rattle.flat.proofs.Follows.{Ok, follows}
use Rattle.circle.proofs.Circle.{tracker_in}
use Rattle.circle.proofs.Ready.{Ready}
use Rattle.circle.proofs.Link.{Anew, anew-issued, each}
use Rattle.circle.proofs.Calls.{bare, Outcome, outcome}
use Rattle.circle.proofs.Calls as Calls
use Rattle.demands.specs.Event.{Event, event, events, written_by, written_from}
use Rattle.demands.proofs.Noted.{Turn, went, over, event-bare, step-turn}

-- no line is changed
abbrev pub Clean : List ℕ → Type 0
Clean lines = (i : ℕ) → changed (get_or lines i 0) ≡ false

clean-set : (lines : List ℕ) (i w : ℕ) → Clean lines → changed w ≡ false → Clean (set lines i w)
clean-set [] i w c h j = c j
clean-set (v ∷ lines) zero w c h zero = h
clean-set (v ∷ lines) zero w c h (suc j) = c (suc j)
clean-set (v ∷ lines) (suc i) w c h zero = c zero
clean-set (v ∷ lines) (suc i) w c h (suc j) = clean-set lines i w (λ k. c (suc k)) h j

clean-word : (b h : ℕ) → changed (word b false h) ≡ false
unfolding word
clean-word b h = pick-by (λ (w : ℕ). changed w ≡ false) (both (ltb b line_blocks) (ltb h marks)) (λ _. changed-odd (1 + 0 + 2 * h + 256 * b) (omega arith)) (λ _. free-changed)

clean-held : (w h : ℕ) → changed w ≡ false → changed (held_by w h) ≡ false
unfolding held_by
clean-held w h e = rw e (clean-word _ h)

clean-bring : (shape : Shape) (b : ℕ) (r : Rows) → Clean r.lines → Clean (bring_in shape b r).rows.lines
unfolding bring_in
clean-bring shape b r c = pick-by (λ (o : Brought). Clean o.rows.lines) (ltb (line_of r.lines shape.l b) shape.l) (λ _. c)
    (λ _. pick-by (λ (o : Brought). Clean o.rows.lines) (ltb (place_line shape r.lines r.bytes) shape.l) (λ _. clean-set r.lines _ _ c (clean-word b 0)) (λ _. c))

-- what a step leaves
abbrev CleanAfter : Turned → Type 0
CleanAfter o = Clean o.rows.lines

-- who lets go changes no line
clean-loose : (lines : List ℕ) (i : ℕ) → Clean lines → Clean (loosened lines i)
clean-loose lines i c =
    clean-set lines i _ c (pick-by (λ (w : ℕ). changed w ≡ false) (held (get_or lines i 0)) (λ _. clean-held _ 0 (c i)) (λ _. c i))

clean-let_go : (p : Phase) (own : ℕ → ℕ) (e : ℕ) (lines : List ℕ) → Clean lines → Clean (let_go p own e lines)
unfolding let_go
clean-let_go p own zero lines c = c
clean-let_go p own (suc e) lines c =
    let k : Clean (let_go p own e lines) = clean-let_go p own e lines c in
    pick-by Clean (keeps_at p (suc e)) (λ _. clean-loose (let_go p own e lines) (own (suc e)) k) (λ _. k)

module _ (shape : Shape) (x : ℕ) (t : Tracker) (r : Rows) (c : Clean r.lines) where
  clean-probe : (d : ℕ) → CleanAfter (probe shape d t r)
  unfolding probe
  clean-probe zero =
      let i = own_line shape t r 0 in
      pick-by CleanAfter (ltb i shape.l)
      (λ _. pick-by CleanAfter t.write (λ _. pick-by CleanAfter (eqb (group_in r.bytes i t.group) t.value) (λ _. c) (λ _. c)) (λ _. c)) (λ _. c)
  clean-probe (suc e) =
      let i = own_line shape t r (suc e) in
      let j = own_line shape t r (top_of shape) in
      pick-by CleanAfter (both (both (ltb i shape.l) (negated (both (ltb j shape.l) (held (get_or r.lines j 0))))) (both (eqb (bit_in r.bytes i e t.group) 0) (asks_zero t)))
      (λ _. c) (λ _. c)

  clean-descend : (own : ℕ → ℕ) (d : ℕ) (b : Brought) → Clean b.rows.lines → CleanAfter (descend x own d t b)
  unfolding descend
  clean-descend own d b k =
      pick-by CleanAfter (both (eqb (bit_in b.rows.bytes b.line d t.group) 0) (asks_zero t))
      (λ _. clean-let_go t.phase own (top_of b.shape) b.rows.lines k)
      (λ _. clean-set b.rows.lines b.line _ k (clean-held _ (x + 1) (k b.line)))

  clean-top : CleanAfter (top shape x t r)
  unfolding top
  clean-top =
      let m = block_over (top_of shape) shape.n t.group in
      pick-by CleanAfter (both (ltb (line_of r.lines shape.l m) shape.l) (held (get_or r.lines (line_of r.lines shape.l m) 0))) (λ _. c)
      (λ _. pick-by CleanAfter (ltb (bring_in shape m r).line shape.l) (λ _. clean-descend (own_line shape t r) (below_top shape) (bring_in shape m r) (clean-bring shape m r c)) (λ _. c))

  clean-leaf_read : CleanAfter (leaf_read shape t r)
  unfolding leaf_read
  clean-leaf_read =
      let b = bring_in shape (leaf_of t.group) r in
      pick-by CleanAfter (ltb b.line shape.l)
      (λ _. clean-let_go t.phase (own_line shape t r) (top_of b.shape) b.rows.lines (clean-bring shape (leaf_of t.group) r c)) (λ _. c)

  module _ (reads : t.write ≡ false) where
    clean-under_bit : (d : ℕ) → Clean (under_bit shape d t r).rows.lines
    unfolding under_bit
    clean-under_bit d =
        pick-by (λ (o : Brought). Clean o.rows.lines) (both t.write (eqb (bit_in r.bytes (own_line shape t r (suc d)) d t.group) 0))
        (λ h. absurd (not-both-ways (both_left _ _ h) reads)) (λ _. clean-bring shape (block_over d shape.n t.group) r c)

    clean-below_line : (d : ℕ) → CleanAfter (below_line shape x d t r)
    clean-below_line zero = pick-by CleanAfter t.write (λ w. absurd (not-both-ways w reads)) (λ _. clean-leaf_read)
    clean-below_line (suc e) =
        let b = under_bit shape (suc e) t r in
        pick-by CleanAfter (ltb b.line shape.l) (λ _. clean-descend (own_line shape t r) e b (clean-under_bit (suc e))) (λ _. c)

    clean-under : (d : ℕ) → CleanAfter (under shape x d t r)
    unfolding under
    clean-under d = pick-by CleanAfter (ltb (own_line shape t r (suc d)) shape.l) (λ _. clean-below_line d) (λ _. c)

    clean-by_phase : (p : Phase) → phase_whole (top_of shape) t.write t.bottom p ≡ true → CleanAfter (by_phase shape x t r p)
    clean-by_phase Idle h = c
    clean-by_phase (Probe d) h = clean-probe d
    clean-by_phase Top h = clean-top
    clean-by_phase (Under d) h = clean-under d
    clean-by_phase (Set d) h = absurd (not-both-ways (both_left _ _ h) reads)
    clean-by_phase (Clear d) h = absurd (not-both-ways (both_left _ _ h) reads)

    clean-turn : phase_whole (top_of shape) t.write t.bottom t.phase ≡ true → CleanAfter (turn_of shape x t r)
    unfolding turn_of
    clean-turn h = pick-by CleanAfter (fit shape x t r)
        (λ _. pick-by CleanAfter (lengths_right shape r.bytes r.memory) (λ _. clean-by_phase t.phase h) (λ _. c)) (λ _. c)

clean_step : (k : Kept) (x : ℕ) → Ready k → Clean k.state.lines → (tracker_in k x).write ≡ false → Clean (does k (steps x)).state.lines
unfolding does step
clean_step k x s c e = unless-by {c = step_no k.state k.bytes k.memory x} _ _ (λ (o : Out). Clean o.state.lines)
    (λ _. clean-turn k.state.shape x (tracker_in k x) _ c e ((whole-facts k.state s.0).tracked.phase-ok x)) (λ _. c)

-- where all T trackers are idle every tracker is
pub all_rest : (k : Kept) → Ready k → all_idle k.state ≡ true → (x : ℕ) → is_idle (tracker_in k x) ≡ true
unfolding all_idle
all_rest k s e x = ⊎_elim (λ (h : x < k.state.shape.t). all-at (λ y. is_idle (tracker_in k y)) k.state.shape.t e x h)
    (λ (h : k.state.shape.t ≤ x). (whole-facts k.state s.0).tracked.above x h) (lt-or-ge x k.state.shape.t)

-- every line is clean, and every access under way a read
pub record Quiet (k : Kept) : Type 0 where
  pub clean : Clean k.state.lines
  pub reads : (x : ℕ) → is_idle (tracker_in k x) ≡ false → (tracker_in k x).write ≡ false

-- one call, and whether a write was issued since the last drain
module _ (k : Kept) (row : Row) (a : Ok k row) (w : Bool) (Q : w ≡ false → Quiet k) where
  s : Ready k
  s = (a.is_whole, a.right)

  quiet-turn : (x : ℕ) (t' : Tracker) (k' : Kept) (e : Event) → is_idle (tracker_in k x) ≡ false → Anew k k' x t' → Turn x (tracker_in k x) t' e
      → (w ≡ false → Clean k'.state.lines) → written_by e w ≡ false → Quiet k'
  quiet-turn x t' k' e b n (went q i m) c z =
      let z' : w ≡ false = subst (λ (d : Event). written_by d w ≡ false) q z in
      record { clean = c z'; reads = each (λ (y : ℕ) (t : Tracker). is_idle t ≡ false → t.write ≡ false) k k' x t' n (λ _. m.write ∙ (Q z').reads x b) (λ y ne. (Q z').reads y) }
  quiet-turn x t' k' e b n (over d q i) c z =
      let z' : w ≡ false = subst (λ (d : Event). written_by d w ≡ false) q z in
      record { clean = c z'; reads = each (λ (y : ℕ) (t : Tracker). is_idle t ≡ false → t.write ≡ false) k k' x t' n (λ f. absurd (not-both-ways i f)) (λ y ne. (Q z').reads y) }

  -- an issue: it is a read, and none was a write before
  both-reads : (write v : Bool) → pick write true v ≡ false → (write ≡ false) × (v ≡ false)
  both-reads true v e = absurd (not-both-ways refl e)
  both-reads false v e = (refl, e)

  -- an accepted drain
  drained-quiet : all_idle k.state ≡ true → Ready (kept (does k drains)) → Quiet (kept (does k drains))
  unfolding does
  drained-quiet e s' =
      let is = drain-is k.state k.bytes k.memory a.is_whole a.right e in
      record {
        clean = λ i. ⊎_elim
            (λ (l : i < k.state.shape.l). rw is ((Drains-all a.agrees.good k.state.shape.l (omega arith)).clean i l))
            (λ (l : k.state.shape.l ≤ i). ap changed (not-used _ ((whole-facts _ s'.0).lined.apart.above i (rw is l))) ∙ free-changed)
            (lt-or-ge i k.state.shape.l);
        reads = λ x b. absurd (not-both-ways (all_rest k s e x) (subst (λ (o : Out). is_idle (tracker_at o.state.trackers x) ≡ false) is b));
      }

  quiet_at : (c : Call) (o : Out) → Outcome k c o → Ready (kept o) → written_by (event c o.said) w ≡ false → Quiet (kept o)
  quiet_at c o (Calls.refused r q is) s' z = rw is (Q (subst (λ d. written_by (event c d) w ≡ false) q z))
  quiet_at c o (Calls.issued x access h e is) s' z =
      let f = both-reads access.write w (subst (λ (d : Out). written_by (event (issues x access) d.said) w ≡ false) is z) in
      record {
        clean = rw is (Q f.1).clean;
        reads = each (λ (y : ℕ) (t : Tracker). is_idle t ≡ false → t.write ≡ false) k (kept o) x (Tracker.issued access)
            (anew-issued k s x access h is)
            (λ _. f.0) (λ y ne. (Q f.1).reads y);
      }
  quiet_at c o (Calls.stepped x h b) s' z =
      let r = step-turn k s x h b in
      quiet-turn x r.0 (kept o) (event (steps x) o.said) b r.1 r.2 (λ z'. clean_step k x s (Q z').clean ((Q z').reads x b)) z
  quiet_at c o (Calls.drained q is) s' z = drained-quiet q s'

  quiet-call : (c : Call) → Ready (kept (does k c)) → written_by (event c (does k c).said) w ≡ false → Quiet (kept (does k c))
  quiet-call c s' z = quiet_at (bare c) (does k c) (outcome k s c) s' (subst (λ (d : Event). written_by d w ≡ false) (event-bare c (does k c).said) z)

-- a run
pub quiet-run : (cs : List Call) (k : Kept) (row : Row) → Ok k row → Values32 cs → (w : Bool) → (w ≡ false → Quiet k)
    → written_from w (events cs (answers k cs)) ≡ false → Quiet (Run.ended k cs)
unfolding events answers Run.ended written_from
quiet-run [] k row a v w Q z = Q z
quiet-run (c ∷ cs) k row a v w Q z =
    let f = follows k row a c v.0 in
    quiet-run cs (kept (does k c)) f.row' f.ok-still v.1 (written_by (event c (does k c).said) w)
    (quiet-call k row a w Q c (f.ok-still.is_whole, f.ok-still.right)) z
