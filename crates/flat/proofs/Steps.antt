-- What a step of the rules does on rows, it does on their view: what it decides, what it says, and the content that it changes. Probe, Top and Map.
use mathlib.Core.Path.{◌≡◌, refl, sym, ap, ◌∙◌, subst}
use mathlib.Core.Bool.{Bool, true, false}
use mathlib.Core.List.{List}
use mathlib.Core.Logic.{◌⊎◌, inl, inr, ⊎_elim}
use Prim.Native.Nat.{ℕ, zero, suc, ◌+◌, ◌<◌, ◌≤◌}
use native.Mathlib.Nat.{zero-add}
use native.Mathlib.Omega.{arith}
use native.Mathlib.Decide.{ℕ_discrete}
use lib.Dec.{eqb, ltb}
use borrow.Author.Tests.{lt-ltb, le-ltb, eq-eqb, eqb-true}
use Rattle.laws.specs.Choice.{pick, both, no as negated}
use Rattle.laws.specs.Bytes.{Bytes}
use Rattle.laws.proofs.Choice.{not-both-ways, true-or-false, both_right, both-when, both-false-left}
use Rattle.laws.proofs.Splice.{lt-or-ge}
use Rattle.geometry.specs.declared.Shape.{Shape}
use Rattle.geometry.specs.Shape.{below_top, top_of}
use Rattle.geometry.specs.TagMemory.{groups, values, leaf_of, byte_of, map_byte_of, map_bit_of, index, count, block_over, blocks_of, base}
use Rattle.geometry.proofs.Places.{byte_of-lt, map_byte_of-lt}
use Rattle.geometry.proofs.Levels.{index-0, index-next, index-lt}
use Rattle.block.specs.Block.{group_at}
use Rattle.block.proofs.BitsOf.{bit_at_lt}
use Rattle.tracker.specs.declared.Phase.{Phase}
use Rattle.tracker.specs.declared.Phase.TheVariants.{Idle, Probe, Top, Under, Set, Clear}
use Rattle.tracker.specs.declared.Transfers.{Transfers}
use Rattle.tracker.specs.declared.Tracker.{Tracker}
use Rattle.tracker.specs.Transfers.{none}
use Rattle.tracker.specs.Tracker.{level_of, asks_at, after_probe}
use Rattle.tracker.specs.Answer.{Said, read, same}
use Rattle.tracker.proofs.Phases.{asks-is}
use Rattle.line.specs.Word.{line_blocks, marks}
use Rattle.rules.specs.State.{Rows}
use Rattle.rules.specs.Place.{place_line, Brought, with_lines, bring_in, create}
use Rattle.rules.specs.Step.{Turned, ends, goes, waits, turns_of, asks_zero, says_zero, own_line, group_in, bit_in, lines_held_by, let_go, lets_go, probe, descend, top, zeros, under_bit, under}
use Rattle.rules.proofs.Lined.{Has, low, line_of-has}
use Rattle.rules.proofs.Situation.{block-lt}
use Rattle.rules.proofs.Ways.{top_held, probe-miss, probe-read, probe-same, probe-other, top-wait, top-on, under-map}
use Rattle.flat.specs.Flat.{Row, answer, changes_nothing, Course, says, tracker_by}
use Rattle.flat.proofs.Course.{reads_nothing, answer-read, same-nothing, answer-same, other-something}
use Rattle.flat.proofs.Views.{bit_on, group-block, bit-block, empty-bit, zeros-long, zeros-empty, zeros-bytes}
use Rattle.flat.proofs.Contents.{content, Good, content-in, same_none, Marked, marks-marked}
use Rattle.flat.proofs.Rows.{Only, only-marked, line-64, good-fit, marks-held, marks-let_go, Comes, brings-in, creates}
use Rattle.flat.proofs.Contained.{View}
use Rattle.flat.proofs.Does.{leaf_in, creates as under-0, own_bit, decides, Does, DoesMap, Stays}
use Rattle.flat.proofs.Viewed.{view_of, Between, bits_is, lined-is, group-is, stays_of, else-of, brought-of, between-of}

-- what a step of tracker x, which is u, relies on in its rows
pub record Relies (shape : Shape) (x : ℕ) (u : Tracker) (r : Rows) : Type 0 where
  pub good : Good (blocks_of (top_of shape) shape.n) shape.l r
  pub between : Between (top_of shape) shape.n shape.l r
  pub small : blocks_of (top_of shape) shape.n < line_blocks
  pub place-lt : place_line shape r.lines r.bytes < shape.l
  pub group-lt : u.group < groups shape.n
  pub value-lt : u.value < values
  pub mark-lt : x + 1 < marks
  pub low : level_of u.phase < top_of shape
  pub own : (e : ℕ) → e ≤ top_of shape → asks_at u.phase e ≡ true → Has r.lines (own_line shape u r e) (block_over e shape.n u.group)

-- the row as a step sees it: a leaf that is in a line or brought in; under bit 0, zeros
abbrev pub seen : View → Tracker → Phase → Row
seen v u Idle h = 0
seen v u (Probe zero) h = v.group h
seen v u (Probe (suc d)) h = 0
seen v u Top h = 0
seen v u (Under zero) h = pick u.write (leaf_in v u h) (v.group h)
seen v u (Under (suc d)) h = 0
seen v u (Set d) h = 0
seen v u (Clear d) h = 0

-- what a step says and makes of its tracker, by its course
pub record Says (row : Row) (u : Tracker) (c : Course) (o : Turned) : Type 0 where
  pub said-is : o.said ≡ says row u c
  pub tracker-is : o.tracker ≡ tracker_by u o.tracker.transfers c

-- a step at phase p, on the view of its rows
pub record Turns (shape : Shape) (r : Rows) (u : Tracker) (p : Phase) (o : Turned) : Type 0 where
  pub decided : Says (seen (view_of (top_of shape) shape.n shape.l r) u p) u (decides (below_top shape) (view_of (top_of shape) shape.n shape.l r) (top_held shape u r) u p) o
  pub good : Good (blocks_of (top_of shape) shape.n) shape.l o.rows
  pub between : Between (top_of shape) shape.n shape.l o.rows
  pub does : Does (below_top shape) (view_of (top_of shape) shape.n shape.l r) (view_of (top_of shape) shape.n shape.l o.rows) (top_held shape u r) u p

-- it ends on bit 0, or goes on to phase p
module _ (u : Tracker) (p : Phase) (shape shape' : Shape) (m m' : Transfers) (r r' : Rows) where
  zero-answer : asks_zero u ≡ true → says_zero u ≡ answer (λ h. 0) u
  zero-answer = go u.write
    where
      go : (w : Bool) → pick w (eqb u.value 0) true ≡ true
          → pick w (same (turns_of u)) (read 0 (turns_of u)) ≡ pick w (pick (eqb 0 u.value) (same (turns_of u)) (Said.done (turns_of u))) (read 0 (turns_of u))
      go true e = let z : 0 ≡ u.value = sym (eqb-true _ _ e) in rw (eq-eqb 0 u.value z)
      go false e = refl

  pub says-zero : (b : Bool) → (b ≡ true → asks_zero u ≡ true) → Says (λ h. 0) u (pick b Course.ends (Course.goes p)) (pick b (ends (says_zero u) shape u m r) (goes u p m' shape' r'))
  says-zero true z = record { said-is = zero-answer (z refl); tracker-is = refl }
  says-zero false z = record { said-is = refl; tracker-is = refl }

-- bit 0 or 1, as a test
pub bit_test : (b : ℕ) → b < 2 → eqb b 0 ≡ negated (eqb b 1)
unfolding negated
bit_test zero l = refl
bit_test (suc zero) l = refl
bit_test (suc (suc b)) l = absurd (omega arith)

module _ {shape : Shape} {x : ℕ} {u : Tracker} {r : Rows} (R : Relies shape x u r) where
  abbrev n : ℕ
  n = shape.n

  abbrev l : ℕ
  l = shape.l

  abbrev t : ℕ
  t = below_top shape

  abbrev B : ℕ
  B = blocks_of (top_of shape) n

  abbrev g : ℕ
  g = u.group

  abbrev view : Rows → View
  view rr = view_of (top_of shape) n l rr

  pub index_ok : (e : ℕ) → index e g < count e n
  index_ok e = index-lt e n g R.group-lt

  pub block-ok : (e : ℕ) → e ≤ top_of shape → block_over e n g < B
  block-ok e q = block-lt shape e g q R.group-lt

  -- the bit over its block of level d
  pub own-bit : (rr : Rows) (d : ℕ) → d < top_of shape → (view rr).bits d (index d g) ≡ eqb (bit_on (content l rr (block_over (suc d) n g)) (index d g)) 1
  own-bit rr d q = bits_is (top_of shape) n l rr d (index d g) q (rw (← index-next d g) (index_ok (suc d))) ∙ rw (index-next d g)

  module _ {rr : Rows} (G : Good B l rr) where
    pub bit-read : (d i : ℕ) → Has rr.lines i (block_over (suc d) n g) → bit_in rr.bytes i d g ≡ bit_on (content l rr (block_over (suc d) n g)) (index d g)
    bit-read d i h =
        bit-block rr.bytes i (line-64 G i (low G.apart i _ h)) (map_byte_of (index d g)) (map_bit_of (index d g)) (map_byte_of-lt (index d g))
        ∙ ap (λ (c : List ℕ). bit_on c (index d g)) (sym (content-in G i _ h))

    pub bit_is : (d i : ℕ) → d < top_of shape → Has rr.lines i (block_over (suc d) n g) → eqb (bit_in rr.bytes i d g) 1 ≡ (view rr).bits d (index d g)
    bit_is d i q h = ap (λ (b : ℕ). eqb b 1) (bit-read d i h) ∙ sym (own-bit rr d q)

    pub bit-no : (d i : ℕ) → d < top_of shape → Has rr.lines i (block_over (suc d) n g) → eqb (bit_in rr.bytes i d g) 0 ≡ negated ((view rr).bits d (index d g))
    bit-no d i q h = bit_test _ (bit_at_lt rr.bytes _ _) ∙ ap negated (bit_is d i q h)

    pub group-read : (i : ℕ) → Has rr.lines i (leaf_of g) → group_in rr.bytes i g ≡ (view rr).group g
    group-read i h =
        group-block rr.bytes i (line-64 G i (low G.apart i _ h)) (byte_of g) (byte_of-lt g)
        ∙ ap (λ (c : List ℕ). group_at c (byte_of g)) (sym (content-in G i _ h)) ∙ sym (group-is (top_of shape) n l rr g R.group-lt)

  -- its leaf, among all blocks
  pub leaf-is : block_over 0 n g ≡ leaf_of g
  leaf-is = zero-add (index 0 g) ∙ index-0 g

  -- letting go, and holding, change no content
  pub let-go : {rr : Rows} → Good B l rr → (p : Phase) (own : ℕ → ℕ) (e : ℕ) → Marked B l rr (with_lines rr (let_go p own e rr.lines))
  let-go G p own e = marks-marked G (marks-let_go p own e (good-fit G R.small))

  -- a step that leaves the rows as they were
  record Looks (row : Row) (c : Course) (o : Turned) : Type 0 where
    decided : Says row u c o
    rows_are : o.rows ≡ r

  -- Probe of the leaf
  probe-leaf : Looks (view r).group (decides t (view r) (top_held shape u r) u (Probe 0)) (probe shape 0 u r)
  probe-leaf = go (lt-or-ge (own_line shape u r 0) l) (true-or-false u.write)
    where
      lined : (view r).lined 0 (index 0 g) ≡ ltb (own_line shape u r 0) l
      lined = lined-is (top_of shape) n l r 0 (index 0 g) (omega arith) (index_ok 0)

      there : own_line shape u r 0 < l → group_in r.bytes (own_line shape u r 0) g ≡ (view r).group g
      there q = group-read R.good (own_line shape u r 0) (subst (Has r.lines (own_line shape u r 0)) leaf-is (line_of-has r.lines l (block_over 0 n g) q))

      by : own_line shape u r 0 < l → {b : Bool} → changes_nothing (view r).group u ≡ b → both ((view r).lined 0 (index 0 g)) (changes_nothing (view r).group u) ≡ b
      by q e = both-when _ _ (lined ∙ lt-ltb _ _ q) ∙ e

      go : (own_line shape u r 0 < l) ⊎ (l ≤ own_line shape u r 0) → (u.write ≡ true) ⊎ (u.write ≡ false)
          → Looks (view r).group (decides t (view r) (top_held shape u r) u (Probe 0)) (probe shape 0 u r)
      go (inr q) w = rw (probe-miss shape u r q, both-false-left _ (changes_nothing (view r).group u) (lined ∙ le-ltb _ _ q)) (record { decided = record { said-is = refl; tracker-is = refl }; rows_are = refl })
      go (inl q) (inr w) = rw (probe-read shape u r q w, by q (reads_nothing (view r).group u w)) (record { decided = record { said-is = ap (λ (z : ℕ). read z (turns_of u)) (there q) ∙ sym (answer-read (view r).group u w); tracker-is = refl }; rows_are = refl })
      go (inl q) (inl w) = eqs (ℕ_discrete (group_in r.bytes (own_line shape u r 0) g) u.value)
        where
          eqs : Dec (group_in r.bytes (own_line shape u r 0) g ≡ u.value) → Looks (view r).group (decides t (view r) (top_held shape u r) u (Probe 0)) (probe shape 0 u r)
          eqs (yes d) = let z : (view r).group g ≡ u.value = sym (there q) ∙ d in
              rw (probe-same shape u r q w d, by q (same-nothing (view r).group u w z)) (record { decided = record { said-is = sym (answer-same (view r).group u w z); tracker-is = refl }; rows_are = refl })
          eqs (no d) = rw (probe-other shape u r q w d, by q (other-something (view r).group u w (λ z. d (there q ∙ z)))) (record { decided = record { said-is = refl; tracker-is = refl }; rows_are = refl })

  -- and of a map block
  module _ (d : ℕ) (q : suc d < top_of shape) where
    abbrev i : ℕ
    i = own_line shape u r (suc d)

    abbrev free : Bool
    free = negated (top_held shape u r)

    lined : (view r).lined (suc d) (index (suc d) g) ≡ ltb i l
    lined = lined-is (top_of shape) n l r (suc d) (index (suc d) g) (omega arith) (index_ok (suc d))

    same_test : both (both (ltb i l) free) (both (eqb (bit_in r.bytes i d g) 0) (asks_zero u))
        ≡ both (both ((view r).lined (suc d) (index (suc d) g)) free) (both (negated ((view r).bits d (index d g))) (asks_zero u))
    same_test = go (lt-or-ge i l)
      where
        go : (i < l) ⊎ (l ≤ i) → both (both (ltb i l) free) (both (eqb (bit_in r.bytes i d g) 0) (asks_zero u))
            ≡ both (both ((view r).lined (suc d) (index (suc d) g)) free) (both (negated ((view r).bits d (index d g))) (asks_zero u))
        go (inl p) = rw (lined, bit-no R.good d i (omega arith) (line_of-has r.lines l (block_over (suc d) n g) p))
        go (inr p) = both-false-left _ _ (both-false-left _ _ (le-ltb _ _ p)) ∙ sym (both-false-left _ _ (both-false-left _ _ (lined ∙ le-ltb _ _ p)))

    zero-looks : (b : Bool) → (b ≡ true → asks_zero u ≡ true)
        → Looks (λ h. 0) (pick b Course.ends (Course.goes (after_probe (top_of shape) (suc d)))) (pick b (ends (says_zero u) shape u none r) (goes u (after_probe (top_of shape) (suc d)) none shape r))
    zero-looks true z = record { decided = says-zero u (after_probe (top_of shape) (suc d)) shape shape none none r r true z; rows_are = refl }
    zero-looks false z = record { decided = says-zero u (after_probe (top_of shape) (suc d)) shape shape none none r r false z; rows_are = refl }

    probe-map : Looks (λ h. 0) (decides t (view r) (top_held shape u r) u (Probe (suc d))) (probe shape (suc d) u r)
    unfolding probe
    probe-map = subst (λ (b : Bool). Looks (λ h. 0) (pick b Course.ends (Course.goes (after_probe (top_of shape) (suc d)))) (probe shape (suc d) u r)) same_test
        (zero-looks (both (both (ltb i l) free) (both (eqb (bit_in r.bytes i d g) 0) (asks_zero u))) (λ e. both_right _ _ (both_right _ _ e)))

  -- rows as they were
  module _ (p : Phase) {o : Turned} (L : Looks (seen (view r) u p) (decides t (view r) (top_held shape u r) u p) o) where
    none-change : Stays (view r) (view o.rows)
    none-change = rw L.rows_are (stays_of (top_of shape) n r R.good (same_none R.good))

    turns-none : Does t (view r) (view o.rows) (top_held shape u r) u p → Turns shape r u p o
    turns-none D = record { decided = L.decided; good = rw L.rows_are R.good; between = rw L.rows_are R.between; does = D }

  pub turns-probe : (d : ℕ) → d < top_of shape → Turns shape r u (Probe d) (probe shape d u r)
  turns-probe zero q = turns-none (Probe 0) probe-leaf (none-change (Probe 0) probe-leaf)
  turns-probe (suc d) q = turns-none (Probe (suc d)) (probe-map d q) (none-change (Probe (suc d)) (probe-map d q))

  -- its block of level e comes into a line, and marks change then
  module _ (e : ℕ) (el : e ≤ top_of shape) {b : Brought} {y : List ℕ} (C : Comes B l r (block_over e n g) y b) {rr : Rows} (S : Marked B l b.rows rr) where
    pub come-only : Only B l r rr (block_over e n g)
    come-only = only-marked C.only S

    pub come-here : content l rr (block_over e n g) ≡ y
    come-here = S.same.same _ (block-ok e el) ∙ C.here

    pub come-between : (n ≤ block_over e n g → block_over e n g < base (top_of shape) n → Bytes y) → Between (top_of shape) n l rr
    come-between f = between-of (top_of shape) n rr R.good e (index e g) el (index_ok e) come-only R.between (λ p q. rw come-here (f p q))

  pub come-lt : (e : ℕ) {b : Brought} {y : List ℕ} → Comes B l r (block_over e n g) y b → b.line < l
  come-lt e C = low C.only.good.apart _ _ C.has-it

  pub brings : (e : ℕ) → e ≤ top_of shape → Comes B l r (block_over e n g) (content l r (block_over e n g)) (bring_in shape (block_over e n g) r)
  brings e el = brings-in shape r (block_over e n g) R.good R.place-lt (block-ok e el) R.small

  -- on from its block of level d + 1, which came into a line; `bit` is there over its block of level d
  module _ (d : ℕ) (dl : d < top_of shape) {b : Brought} {y : List ℕ} (C : Comes B l r (block_over (suc d) n g) y b) (bit : Bool) (is : (view b.rows).bits d (index d g) ≡ bit) where
    pub descend-says : Says (λ h. 0) u (pick (both (negated bit) (asks_zero u)) Course.ends (Course.goes (Under d))) (descend x (own_line shape u r) d u b)
    unfolding descend
    descend-says = subst (λ (a : Bool). Says (λ h. 0) u (pick (both a (asks_zero u)) Course.ends (Course.goes (Under d))) (descend x (own_line shape u r) d u b))
        (bit-no C.only.good d b.line dl C.has-it ∙ ap negated is)
        (says-zero u (Under d) b.shape b.shape b.copies b.copies _ _ (both (eqb (bit_in b.rows.bytes b.line d g) 0) (asks_zero u)) (λ e. both_right _ _ e))

    descend-marked : Marked B l b.rows (descend x (own_line shape u r) d u b).rows
    unfolding descend
    descend-marked = go (both (eqb (bit_in b.rows.bytes b.line d g) 0) (asks_zero u))
      where
        go : (c : Bool) → Marked B l b.rows (pick c (lets_go (says_zero u) b.shape u b.copies (own_line shape u r) b.rows)
            (goes u (Under d) b.copies b.shape (with_lines b.rows (lines_held_by b.rows.lines b.line x)))).rows
        go true = let-go C.only.good u.phase (own_line shape u r) (top_of b.shape)
        go false = marks-marked C.only.good (marks-held (good-fit C.only.good R.small) b.line x _ C.has-it R.mark-lt)

  -- Top
  top-waits : top_held shape u r ≡ true → Turns shape r u Top (top shape x u r)
  top-waits h = rw (top-wait shape x u r h) (record {
    decided = subst (λ (c : Bool). Says (λ h. 0) u (pick c Course.waits (pick (both (negated ((view r).bits t (index t g))) (asks_zero u)) Course.ends (Course.goes (Under t)))) (waits u shape r)) (sym h)
        (record { said-is = refl; tracker-is = refl });
    good = R.good;
    between = R.between;
    does = subst (λ (c : Bool). Does t (view r) (view r) c u Top) (sym h) (stays_of (top_of shape) n r R.good (same_none R.good));
  })

  top-goes : top_held shape u r ≡ false → Turns shape r u Top (top shape x u r)
  top-goes h = rw (top-on shape x u r h (come-lt (top_of shape) C)) (record {
    decided = subst (λ (c : Bool). Says (λ h. 0) u (pick c Course.waits (pick (both (negated ((view r).bits t (index t g))) (asks_zero u)) Course.ends (Course.goes (Under t))))
        (descend x (own_line shape u r) t u (bring_in shape (block_over (top_of shape) n g) r))) (sym h)
        (descend-says t (omega arith) C ((view r).bits t (index t g)) same_bit);
    good = S.same.good;
    between = come-between (top_of shape) (omega arith) C S (λ p q. (R.between _ p q).0);
    does = subst (λ (c : Bool). Does t (view r) (view (descend x (own_line shape u r) t u (bring_in shape (block_over (top_of shape) n g) r)).rows) c u Top) (sym h)
        (brought-of (top_of shape) n _ R.good (top_of shape) (index (top_of shape) g) (omega arith) (index_ok (top_of shape)) (come-only (top_of shape) (omega arith) C S) (come-here (top_of shape) (omega arith) C S));
  })
    where
      C : Comes B l r (block_over (top_of shape) n g) (content l r (block_over (top_of shape) n g)) (bring_in shape (block_over (top_of shape) n g) r)
      C = brings (top_of shape) (omega arith)

      same_bit : (view (bring_in shape (block_over (top_of shape) n g) r).rows).bits t (index t g) ≡ (view r).bits t (index t g)
      same_bit = own-bit _ t (omega arith) ∙ ap (λ (c : List ℕ). eqb (bit_on c (index t g)) 1) C.here ∙ sym (own-bit r t (omega arith))

      S : Marked B l (bring_in shape (block_over (top_of shape) n g) r).rows (descend x (own_line shape u r) t u (bring_in shape (block_over (top_of shape) n g) r)).rows
      S = descend-marked t (omega arith) C ((view r).bits t (index t g)) same_bit

  pub turns-top : Turns shape r u Top (top shape x u r)
  turns-top = ⊎_elim top-waits top-goes (true-or-false (top_held shape u r))

  -- its line of the level above, at Under d
  pub line-above : (d : ℕ) → u.phase ≡ Under d → Has r.lines (own_line shape u r (suc d)) (block_over (suc d) n g)
  line-above d ph =
      let q : d < top_of shape = rw ph at R.low in
      R.own (suc d) q (rw ph (asks-is (Under d) (suc d) refl (omega arith)))

  -- Map, under the bit over it
  module _ (d : ℕ) (ph : u.phase ≡ Under (suc d)) where
    level : suc d < top_of shape
    level = rw ph at R.low

    abbrev own : ℕ
    own = block_over (suc d) n g

    under-is : under_bit shape (suc d) u r ≡ pick (under-0 (view r) u (suc d)) (create shape own zeros r) (bring_in shape own r)
    unfolding under_bit
    under-is = rw (bit-no R.good (suc d) (own_line shape u r (suc (suc d))) level (line-above (suc d) ph))

    -- once it is in a line
    module _ {b : Brought} {y : List ℕ} (C : Comes B l r own y b) (bit : Bool) (is : eqb (bit_on y (index d g)) 1 ≡ bit) where
      there : (view b.rows).bits d (index d g) ≡ bit
      there = own-bit b.rows d (omega (arith, level)) ∙ ap (λ (c : List ℕ). eqb (bit_on c (index d g)) 1) C.here ∙ is

      abbrev out : Turned
      out = descend x (own_line shape u r) d u b

      S : Marked B l b.rows out.rows
      S = descend-marked d (omega (arith, level)) C bit there

      map-only : Only B l r out.rows own
      map-only = come-only (suc d) (omega (arith, level)) C S

      map-here : content l out.rows own ≡ y
      map-here = come-here (suc d) (omega (arith, level)) C S

      map-turns : (n ≤ own → own < base (top_of shape) n → Bytes y) → under_bit shape (suc d) u r ≡ b → own_bit (view r) u d ≡ bit → DoesMap (view r) (view out.rows) u d
          → Turns shape r u (Under (suc d)) (under shape x (suc d) u r)
      map-turns fits u-is o_is D = rw (under-map shape x u r d (low R.good.apart _ _ (line-above (suc d) ph)) (rw u-is (come-lt (suc d) C)), u-is) (record {
        decided = rw o_is (descend-says d (omega (arith, level)) C bit there);
        good = S.same.good;
        between = come-between (suc d) (omega (arith, level)) C S fits;
        does = D;
      })

    created : under-0 (view r) u (suc d) ≡ true → Turns shape r u (Under (suc d)) (under shape x (suc d) u r)
    created e = map-turns C false bit-0 (λ p q. zeros-bytes) (under-is ∙ rw e) (rw e) (record {
      made = λ _. record {
        only = else-of (top_of shape) n _ R.good (suc d) (index (suc d) g) (omega (arith, level)) (index_ok (suc d)) (map-only C false bit-0);
        bits = λ k q. bits_is (top_of shape) n l _ d k (omega (arith, level)) (rw q (index_ok (suc d)))
            ∙ rw (q, map-here C false bit-0, empty-bit zeros zeros-long k zeros-empty);
      };
      fetched = λ f. absurd (not-both-ways e f);
    })
      where
        C : Comes B l r own zeros (create shape own zeros r)
        C = creates shape r own R.good R.place-lt (block-ok (suc d) (omega (arith, level))) R.small zeros zeros-long

        bit-0 : eqb (bit_on zeros (index d g)) 1 ≡ false
        bit-0 = rw (empty-bit zeros zeros-long (index d g) zeros-empty)

    fetched : under-0 (view r) u (suc d) ≡ false → Turns shape r u (Under (suc d)) (under shape x (suc d) u r)
    fetched e = map-turns C ((view r).bits d (index d g)) bit-same (λ p q. (R.between own p q).0) (under-is ∙ rw e) (rw e) (record {
      made = λ f. absurd (not-both-ways f e);
      fetched = λ _. brought-of (top_of shape) n _ R.good (suc d) (index (suc d) g) (omega (arith, level)) (index_ok (suc d))
          (map-only C ((view r).bits d (index d g)) bit-same) (map-here C ((view r).bits d (index d g)) bit-same);
    })
      where
        C : Comes B l r own (content l r own) (bring_in shape own r)
        C = brings (suc d) (omega (arith, level))

        bit-same : eqb (bit_on (content l r own) (index d g)) 1 ≡ (view r).bits d (index d g)
        bit-same = sym (own-bit r d (omega (arith, level)))

    pub turns-map : Turns shape r u (Under (suc d)) (under shape x (suc d) u r)
    turns-map = ⊎_elim created fetched (true-or-false (under-0 (view r) u (suc d)))
