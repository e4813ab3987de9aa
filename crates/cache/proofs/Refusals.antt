-- Laws of the calls by the way they end: each refusal where its test fails and those before it hold, and the call where all hold.
use mathlib.Core.Path.{◌≡◌, refl, sym, ap, subst, ◌∙◌}
use mathlib.Core.List.{List, [], ◌∷◌, ◌++◌}
use mathlib.Core.Bool.{Bool, true, false}
use Prim.Native.Nat.{ℕ, suc, ◌+◌, ◌-◌, ◌*◌, ◌≤◌, ◌<◌}
use native.Mathlib.Omega.{arith}
use lib.Dec.{eqb, leb}
use lib.ListN.{length}
use borrow.Author.Tests.{lt-ltb, le-ltb, le-leb, eq-eqb, ne_eqb, ltb-true}
use Rattle.laws.specs.Choice.{both}
use Rattle.laws.specs.declared.Refusal.{Refusal}
use Rattle.laws.specs.Refusal.{Tests, number, refusal, unless}
use Rattle.laws.proofs.Refusals.{refusal-0, refusal-hold, refusal-first, refusal-then, refusal-past, unless-0, unless-no}
use Rattle.laws.specs.Bytes.{part}
use Rattle.laws.proofs.Choice.{both_true, both-false-right}
use Rattle.geometry.specs.Shape.{shape_of, top_of}
use Rattle.geometry.specs.TagMemory.{most_leaves_of, most_leaves, in_limits_of, map_block_of, map_byte_of, map_bit_of, block_on, block_place, most_trackers, most_lines}
use Rattle.geometry.proofs.Shapes.{below-start}
use Rattle.geometry.proofs.Levels.{base-rises}
use Rattle.block.specs.Block.{bit_at}
use Rattle.memory.specs.PlainReading.{bit_over}
use Rattle.memory.specs.True.{is_true_of, is_true, cleared_of, cleared_map}
use Rattle.tracker.specs.declared.Access.{Access}
use Rattle.tracker.specs.Tracker.{issued}
use Rattle.tracker.specs.Answer.{ok}
use Rattle.line.specs.Find.{line_of}
use Rattle.rules.specs.State.{State, tracker_at, lengths_right, begun, zero_state}
use Rattle.rules.specs.Whole.{limits, whole}
use Rattle.rules.specs.Place.{rows_fit}
use Rattle.rules.specs.Step.{turn_of}
use Rattle.rules.specs.Calls.{refused, accepted, fresh_tests, fresh, open_tests, opened, state_tests, with_tracker, issue_tests, issue_no, issue, stepped, step_tests, step_no, step, all_idle, drain_tests, drain_no, with_lines, drain, show_tests, show_no, shown_bit, shown_counts, show}
use Rattle.placing.specs.Lines.{rows, Drained, all_drained, drained_on}
use Rattle.rules.proofs.Whole.{in_limits-of, n-most, t-most, l-most, whole-facts}
use Rattle.rules.proofs.Calls.{bytes-right, memory-right}
use Rattle.rules.proofs.Begun.{fresh-free, fresh-refused as refuses-fresh, fresh-accepted as accepts-fresh, open-refused as refuses-open, open-accepted as accepts-open}
use Rattle.laws.proofs.Told.{number-some}
use Rattle.cache.specs.Seen.{unready, unfit}

both_yes : (a : Bool) → both a true ≡ a
unfolding both
both_yes true = refl
both_yes false = refl

pub n-few : (n t l : ℕ) → limits (shape_of n t l) ≡ true → n ≤ most_leaves
n-few n t l h = subst (λ (d : ℕ). n ≤ most_leaves_of (suc d)) (below-start n t l) (n-most (shape_of n t l) h)

-- fresh and open
module _ (n t l : ℕ) (bytes memory : List ℕ) where
  pub unready-1 : limits (shape_of n t l) ≡ false → unready n t l bytes memory ≡ 1
  unready-1 h = refusal-first [] _ _ _ tt h

  pub unready-2 : limits (shape_of n t l) ≡ true → lengths_right (shape_of n t l) bytes memory ≡ false → unready n t l bytes memory ≡ 2
  unready-2 h k = refusal-first ((limits (shape_of n t l), 1) ∷ []) _ _ _ (h, tt) k

  pub unready-0 : limits (shape_of n t l) ≡ true → lengths_right (shape_of n t l) bytes memory ≡ true → unready n t l bytes memory ≡ 0
  unready-0 h k = refusal-0 (fresh_tests (shape_of n t l) bytes memory) (h, (k, tt))

  pub ready-limits : unready n t l bytes memory ≡ 0 → limits (shape_of n t l) ≡ true
  ready-limits e = (fresh-free n t l bytes memory e).0

  pub fresh-refused : (c : ℕ) → c ≡ unready n t l bytes memory → 0 < c → fresh n t l bytes memory ≡ refused c zero_state bytes memory
  fresh-refused c e h = rw e (refuses-fresh n t l bytes memory (rw e at h))

  -- 01's device has two levels
  cleared-start : cleared_of (top_of (shape_of n t l)) n memory ≡ cleared_map n memory
  unfolding cleared_map
  cleared-start = rw (below-start n t l)

  true-start : is_true_of (top_of (shape_of n t l)) n memory ≡ is_true n memory
  unfolding is_true
  true-start = rw (below-start n t l)

  pub fresh-accepted : unready n t l bytes memory ≡ 0 → fresh n t l bytes memory ≡ accepted (begun (shape_of n t l)) bytes (cleared_map n memory)
  fresh-accepted e = accepts-fresh n t l bytes memory e ∙ rw cleared-start

  pub open-refused : (c : ℕ) → c ≡ unready n t l bytes memory → 0 < c → opened n t l bytes memory ≡ refused c zero_state bytes memory
  open-refused c e h =
      let q = refusal-then (fresh_tests (shape_of n t l) bytes memory) ((is_true_of (top_of (shape_of n t l)) n memory, 3) ∷ []) (rw e at h) in
      refuses-open n t l bytes memory (rw q (rw e at h)) ∙ rw (q, e)

  module _ (r : Refusal) where
    pub open-unready : number r ≡ unready n t l bytes memory → number r ≡ refusal (open_tests (shape_of n t l) bytes memory)
    open-unready e = let p = number-some r in e ∙ sym (refusal-then (fresh_tests (shape_of n t l) bytes memory) _ (omega arith))

    pub open-no : number r ≡ refusal (open_tests (shape_of n t l) bytes memory) → opened n t l bytes memory ≡ refused (number r) zero_state bytes memory
    open-no e = let p = number-some r in refuses-open n t l bytes memory (omega arith) ∙ rw e refl

  module _ (e : unready n t l bytes memory ≡ 0) where
    open_no : refusal (open_tests (shape_of n t l) bytes memory) ≡ refusal ((is_true n memory, 3) ∷ [])
    open_no =
        refusal-past (fresh_tests (shape_of n t l) bytes memory) _ (refusal-hold (fresh_tests (shape_of n t l) bytes memory) refl e)
        ∙ ap (λ (b : Bool). refusal ((b, 3) ∷ [])) true-start

    pub open-not-true : is_true n memory ≡ false → 3 ≡ refusal (open_tests (shape_of n t l) bytes memory)
    open-not-true q = sym (open_no ∙ refusal-first [] _ _ _ tt q)

    pub open-free : is_true n memory ≡ true → 0 ≡ refusal (open_tests (shape_of n t l) bytes memory)
    open-free q = sym (open_no ∙ refusal-0 ((is_true n memory, 3) ∷ []) (q, tt))

    pub open-3 : is_true n memory ≡ false → opened n t l bytes memory ≡ refused 3 zero_state bytes memory
    open-3 q =
        let c = open-not-true q in
        refuses-open n t l bytes memory (omega arith) ∙ rw (← c)

    pub open-accepted : is_true n memory ≡ true → opened n t l bytes memory ≡ accepted (begun (shape_of n t l)) bytes memory
    open-accepted q = accepts-open n t l bytes memory (sym (open-free q))

-- refusals 4 and 2
module _ (s : State) (bytes memory : List ℕ) where
  pub fit-whole : unfit s bytes memory ≡ 0 → whole s ≡ true
  fit-whole e = (refusal-hold (state_tests s bytes memory) refl e).0

  -- refused by one of the two, or by what comes after them
  pub unfit-first : (ts : Tests) (r : Refusal) → number r ≡ unfit s bytes memory → number r ≡ refusal (state_tests s bytes memory ++ ts)
  unfit-first ts r e = let p = number-some r in e ∙ sym (refusal-then (state_tests s bytes memory) ts (omega arith))

  pub fit-rest : (ts : Tests) → 0 ≡ unfit s bytes memory → refusal ts ≡ refusal (state_tests s bytes memory ++ ts)
  fit-rest ts e = sym (refusal-past (state_tests s bytes memory) ts (refusal-hold (state_tests s bytes memory) refl (sym e)))

-- issue
module _ (s : State) (bytes memory : List ℕ) (x : ℕ) (a : Access) where
  pub issue-unfit : 0 < unfit s bytes memory → issue_no s bytes memory x a ≡ unfit s bytes memory
  unfolding issue_no
  issue-unfit h = refusal-then (state_tests s bytes memory) _ h

  pub issue-fit : unfit s bytes memory ≡ 0 → issue_no s bytes memory x a ≡ refusal (issue_tests s.shape x a s.trackers)
  unfolding issue_no
  issue-fit e = sym (fit-rest s bytes memory _ (sym e))

  -- where an issue is not refused
  pub issue-in : issue_no s bytes memory x a ≡ 0 → x < most_trackers
  unfolding issue_no
  issue-in e =
      let h = refusal-hold (state_tests s bytes memory ++ issue_tests s.shape x a s.trackers) refl e in
      omega (arith, ltb-true x s.shape.t h.1.1.0, t-most _ (whole-facts s h.0).limits-ok)

  pub issue-refused : (c : ℕ) → c ≡ issue_no s bytes memory x a → 0 < c → issue s bytes memory x a ≡ refused c s bytes memory
  unfolding issue
  issue-refused c e h = rw (← e) (unless-no _ _ h)

  pub issue-accepted : issue_no s bytes memory x a ≡ 0 → issue s bytes memory x a ≡ accepted (with_tracker s x (issued a)) bytes memory
  unfolding issue
  issue-accepted e = unless-0 _ _ e

-- step
module _ (s : State) (bytes memory : List ℕ) (x : ℕ) where
  pub step_in : step_no s bytes memory x ≡ 0 → x < most_trackers
  unfolding step_no
  step_in e =
      let h = refusal-hold (state_tests s bytes memory ++ step_tests s.shape x s.trackers) refl e in
      omega (arith, ltb-true x s.shape.t h.1.1.0, t-most _ (whole-facts s h.0).limits-ok)

  pub step-refused : (c : ℕ) → c ≡ step_no s bytes memory x → 0 < c → step s bytes memory x ≡ refused c s bytes memory
  unfolding step
  step-refused c e h = rw (← e) (unless-no _ _ h)

  pub step-accepted : step_no s bytes memory x ≡ 0
      → step s bytes memory x ≡ stepped s x (turn_of s.shape x (tracker_at s.trackers x) (rows s.lines bytes memory))
  unfolding step
  step-accepted e = unless-0 _ _ e

-- drain
module _ (s : State) (bytes memory : List ℕ) where
  -- where a drain is not refused, the rows are of L lines
  drain-rows : drain_no s bytes memory ≡ 0 → length s.lines ≡ most_lines → drained_on s.shape (rows s.lines bytes memory) ≡ all_drained s.shape.l (rows s.lines bytes memory)
  unfolding drain_no drained_on rows_fit
  drain-rows e h =
      let h' = refusal-hold (state_tests s bytes memory ++ drain_tests (all_idle s)) refl e in
      let f : both (leb s.shape.l (length s.lines)) (eqb (length bytes) (64 * s.shape.l)) ≡ true =
      both_true _ _ (le-leb s.shape.l (length s.lines) (omega (arith, l-most _ (whole-facts s h'.0).limits-ok)))
      (eq-eqb (length bytes) (64 * s.shape.l) (bytes-right s.shape bytes memory h'.1.0)) in
      rw f

  pub drain-refused : (c : ℕ) → c ≡ drain_no s bytes memory → 0 < c → drain s bytes memory ≡ refused c s bytes memory
  unfolding drain
  drain-refused c e h = rw (← e) (unless-no _ _ h)

  pub drain-accepted : {d : Drained} → drain_no s bytes memory ≡ 0 → length s.lines ≡ most_lines → d ≡ drained_on s.shape (rows s.lines bytes memory)
      → (record { said = ok; state = with_lines s d.rows.lines; bytes = bytes; memory = d.rows.memory; transfers = d.copies }) ≡ drain s bytes memory
  unfolding drain
  drain-accepted e h q = rw (q ∙ drain-rows e h) (sym (unless-0 _ _ e))

-- show
module _ (s : State) (bytes memory : List ℕ) (k : ℕ) where
  -- where a leaf is shown
  pub show-in : show_no s bytes memory k ≡ 0
      → (k < s.shape.n) × (in_limits_of (top_of s.shape) s.shape.n ≡ true) × (s.shape.l ≤ most_lines) × (length bytes ≡ 64 * s.shape.l) × (64 * s.shape.n ≤ length memory)
  unfolding show_no
  show-in e =
      let h = refusal-hold (state_tests s bytes memory ++ show_tests s.shape k (all_idle s)) refl e in
      let f = (whole-facts s h.0).limits-ok in
      let leaves = base-rises s.shape.n 1 (suc (top_of s.shape)) (omega arith) in (
        ltb-true k s.shape.n h.1.1.0,
        in_limits-of _ f,
        l-most _ f,
        bytes-right s.shape bytes memory h.1.0,
        omega (arith, leaves, memory-right s.shape bytes memory h.1.0),
      )

  pub show-no : (r : Refusal) → number r ≡ show_no s bytes memory k → 0 < show_no s bytes memory k
  show-no r e = rw (← e) (number-some r)

  pub show-refused : 0 < show_no s bytes memory k → show s bytes memory k ≡ []
  unfolding show
  show-refused h = unless-no _ (λ _. []) h

  module _ (e : show_no s bytes memory k ≡ 0) where
    pub show-line : (i : ℕ) → i ≡ line_of s.lines s.shape.l k → i < s.shape.l → show s bytes memory k ≡ part bytes (64 * i) 64
    unfolding show unless
    show-line i q h = rw (e, ← q, lt-ltb i s.shape.l h)

    pub show-memory : s.shape.l ≤ line_of s.lines s.shape.l k → shown_counts s bytes memory (top_of s.shape) 0 k ≡ true → show s bytes memory k ≡ part memory (64 * k) 64
    unfolding show unless
    show-memory h b = rw (e, le-ltb (line_of s.lines s.shape.l k) s.shape.l h, b)

    pub show-empty : s.shape.l ≤ line_of s.lines s.shape.l k → shown_counts s bytes memory (top_of s.shape) 0 k ≡ false → show s bytes memory k ≡ []
    unfolding show unless
    show-empty h b = rw (e, le-ltb (line_of s.lines s.shape.l k) s.shape.l h, b)

-- the bits that are shown
module _ (s : State) (bytes memory : List ℕ) (e k : ℕ) where
  module _ (j : ℕ) (q : j ≡ line_of s.lines s.shape.l (block_on (suc e) s.shape.n (map_block_of k))) where
    pub bit-lined : j < s.shape.l → shown_bit s bytes memory e k ≡ bit_at bytes (block_place j + map_byte_of k) (map_bit_of k)
    unfolding shown_bit
    bit-lined h = rw (← q, lt-ltb j s.shape.l h)

    pub bit-memory : s.shape.l ≤ j → shown_bit s bytes memory e k ≡ bit_over e s.shape.n memory k
    unfolding shown_bit
    bit-memory h = rw (← q, le-ltb j s.shape.l h)

  -- from level e, below the top, on to the next
  module _ (top : ℕ) (l : e < top) where
    next : top - e ≡ suc (top - suc e)
    next = omega arith

    pub counts_up : shown_bit s bytes memory e k ≡ 1 → shown_counts s bytes memory (top - e) e k ≡ shown_counts s bytes memory (top - suc e) (suc e) (map_block_of k)
    counts_up b = rw next (ap (both (shown_counts s bytes memory (top - suc e) (suc e) (map_block_of k))) (eq-eqb _ _ b) ∙ both_yes _)

    pub counts-not : (shown_bit s bytes memory e k ≡ 1 → ⊥) → shown_counts s bytes memory (top - e) e k ≡ false
    counts-not b = rw next (both-false-right (shown_counts s bytes memory (top - suc e) (suc e) (map_block_of k)) _ (ne_eqb _ _ b))

  pub counts-top : (top : ℕ) → top ≤ e → shown_counts s bytes memory (top - e) e k ≡ true
  counts-top top l = let z : top - e ≡ 0 = omega arith in rw z refl

pub counts_all : (s : State) (bytes memory : List ℕ) (top k : ℕ) → shown_counts s bytes memory top 0 k ≡ shown_counts s bytes memory (top - 0) 0 k
counts_all s bytes memory top k = let z : top ≡ top - 0 = omega arith in ap (λ (d : ℕ). shown_counts s bytes memory d 0 k) z
