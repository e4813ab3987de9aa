-- What a step decides on contents is the flat row's course, at every phase and level.
use mathlib.Core.Path.{◌≡◌, refl, sym, ap, ◌∙◌}
use mathlib.Core.Bool.{Bool, true, false}
use mathlib.Core.List.{List}
use mathlib.Core.Logic.{◌⊎◌, inl, inr}
use Prim.Native.Nat.{ℕ, zero, suc, ◌+◌, ◌-◌, ◌≤◌, ◌<◌}
use native.Mathlib.Omega.{arith}
use lib.Dec.{ltb}
use lib.ListN.{length}
use Rattle.laws.specs.Choice.{pick, both, no as negated}
use Rattle.laws.proofs.Choice.{not-both-ways, true-or-false, never_true}
use Rattle.geometry.specs.TagMemory.{leaf_of, index}
use Rattle.geometry.proofs.Levels.{index-0, index-next}
use Rattle.tracker.specs.declared.Phase.{Phase}
use Rattle.tracker.specs.declared.Phase.TheVariants.{Idle, Probe, Top, Under, Set, Clear}
use Rattle.tracker.specs.declared.Tracker.{Tracker}
use Rattle.tracker.specs.Transfers.{none}
use Rattle.tracker.specs.Tracker.{holds_at, level_of, after_probe, finish_at}
use Rattle.tracker.proofs.Phases.{asks-is}
use Rattle.rules.specs.State.{tracker_at}
use Rattle.rules.specs.Step.{asks_zero}
use Rattle.flat.specs.Flat.{Row, tagged, after, changes_nothing, has_tag, others_have, goes, ends, finishes, course}
use Rattle.flat.proofs.Tags.{untagged, tagged-same}
use Rattle.flat.proofs.Contained.{View, pend, full_by, Counted, is-top, is-full, is-lined, Fits, Agrees, Alone, Free, Holding, Contained}
use Rattle.flat.proofs.Does.{leaf_in, own_bit, finish_on, decides}
use Rattle.flat.proofs.Differ.{differ-false}
use Rattle.flat.proofs.Full.{above-index, full-zero, full-not, full-reaches, reaches-up}
use Rattle.flat.proofs.Pending.{Quiet, free-quiet, under-quiet}
use Rattle.flat.proofs.Finishes.{AtFinish, finish-on}
use Rattle.flat.proofs.Course.{asks_nothing, after-like}

zero-ends : (b : Bool) (row : Row) (u : Tracker) → (b ≡ false → row u.group ≡ 0) → both (negated b) (asks_zero u) ≡ both (negated b) (changes_nothing row u)
unfolding both negated
zero-ends true row u z = refl
zero-ends false row u z = asks_nothing row u (z refl)

-- what a step of tracker x finds
pub record Ready (t : ℕ) (ts : List Tracker) (row : Row) (v : View) (x : ℕ) : Type 0 where
  pub contained : Contained (suc t) ts row v
  pub holding : Holding (suc t) ts v
  pub x_lt : x < length ts

module _ {t : ℕ} {ts : List Tracker} {row : Row} {v : View} {x : ℕ} (R : Ready t ts row v x) where
  abbrev A : Agrees (suc t) ts row v
  A = R.contained.agrees

  abbrev u : Tracker
  u = tracker_at ts x

  abbrev own : ℕ → ℕ
  own e = index e u.group

  abbrev top : ℕ
  top = suc t

  abbrev leaf : ℕ
  leaf = leaf_of u.group

  -- what a phase that holds its top block has
  module _ (p : Phase) (ph : u.phase ≡ p) (h : holds_at p ≡ true) where
    pub alone : Alone top ts x
    alone y d hy q = d (R.holding.one y x hy (rw ph h) q)

    pub line_of : (e : ℕ) → level_of p < e → e ≤ top → v.lined e (own e) ≡ true
    line_of e l m = R.holding.asked x e m (rw ph (asks-is p e h l))

  pub at_level : (p : Phase) → u.phase ≡ p → level_of p < top
  at_level p ph = rw ph at (A.low x)

  -- where nobody is at Finish: its block of each level, and the bit over it if that counts
  module _ (quiet : Quiet top ts (own top)) (e : ℕ) (l : e < top) where
    pub full-way : full_by ts row e (own e) ≡ has_tag row u e
    full-way = let q : e + (top - e) ≡ top = omega arith in
        full-reaches (tagged row) (pend ts) top (own top) e (λ c b i m. quiet c b i) e (top - e) (own e) (omega arith) q (above-index e (top - e) u.group ∙ ap own q)

    none-pends : pend ts e (own e) ≡ false
    none-pends = let q : e + (top - e) ≡ top = omega arith in quiet e (top - e) (own e) q (above-index e (top - e) u.group ∙ ap own q)

    pub bit-way : Counted top (full_by ts row) v.lined (suc e) (own (suc e)) → v.bits e (own e) ≡ full_by ts row e (own e)
    bit-way n = A.bits e (own e) l (rw (sym (index-next e u.group)) n) ∙ differ-false _ none-pends

  pub row_zero : (e : ℕ) → has_tag row u e ≡ false → row u.group ≡ 0
  row_zero e f = untagged row leaf (never_true (λ z. not-both-ways (reaches-up (tagged row) e u.group (rw index-0 z)) f)) u.group refl

  -- ending on bit 0
  quits : (e : ℕ) (b : Bool) → b ≡ has_tag row u e → both (negated b) (asks_zero u) ≡ both (negated (has_tag row u e)) (changes_nothing row u)
  quits e b q = rw (sym q) (zero-ends b row u (λ f. row_zero e (sym q ∙ f)))

  probe-leaf : both (v.lined 0 (own 0)) (changes_nothing v.group u) ≡ both (v.lined 0 (own 0)) (changes_nothing row u)
  unfolding both
  probe-leaf = go (true-or-false (v.lined 0 (own 0)))
    where
      go : (v.lined 0 (own 0) ≡ true) ⊎ (v.lined 0 (own 0) ≡ false) → both (v.lined 0 (own 0)) (changes_nothing v.group u) ≡ both (v.lined 0 (own 0)) (changes_nothing row u)
      go (inl p) = rw (A.groups u.group (is-lined (rw index-0 at p)))
      go (inr p) = rw p

  probe-map : (held : Bool) (e : ℕ) → e < top → (held ≡ false → Free top ts (own top)) → (n : Bool) → v.lined (suc e) (own (suc e)) ≡ n
      → both (both n (negated held)) (both (negated (v.bits e (own e))) (asks_zero u)) ≡ both (both n (negated held)) (both (negated (has_tag row u e)) (changes_nothing row u))
  unfolding both negated
  probe-map held e l free false q = refl
  probe-map true e l free true q = refl
  probe-map false e l free true q =
      let quiet = free-quiet top ts (own top) (free refl) in
      quits e _ (bit-way quiet e l (is-lined q) ∙ full-way quiet e l)

  -- Under d: what it looks at
  module _ (d : ℕ) (ph : u.phase ≡ Under d) where
    pub under-here : Quiet top ts (own top)
    under-here = under-quiet top ts x d (alone (Under d) ph refl) ph

    pub asked-full : asks_zero u ≡ true → full_by ts row d (own d) ≡ true
    asked-full z = let f : Fits (full_by ts row) u (Under d) = rw ph at (A.fits x) in f z

    pub reads-full : u.write ≡ false → full_by ts row d (own d) ≡ true
    reads-full r = asked-full (rw r)

    -- the bit over its block
    pub bit-over : v.bits d (own d) ≡ full_by ts row d (own d)
    bit-over = bit-way under-here d (at_level (Under d) ph) (is-lined (line_of (Under d) ph refl (suc d) (omega arith) (at_level (Under d) ph)))

  -- its own bit at Under
  own-bit : (e : ℕ) → u.phase ≡ Under (suc e) → own_bit v u e ≡ has_tag row u e
  unfolding both negated
  own-bit e ph = go u.write (full_by ts row (suc e) (own (suc e))) refl refl
    where
      l : e < top
      l = let z : suc e < top = at_level (Under (suc e)) ph in omega arith

      quiet : Quiet top ts (own top)
      quiet = under-here (suc e) ph

      full-one : full_by ts row (suc e) (own (suc e)) ≡ true → v.bits e (own e) ≡ has_tag row u e
      full-one f = bit-way quiet e l (is-full f) ∙ full-way quiet e l

      go : (w f : Bool) → u.write ≡ w → full_by ts row (suc e) (own (suc e)) ≡ f → pick (both w (negated (v.bits (suc e) (own (suc e))))) false (v.bits e (own e)) ≡ has_tag row u e
      go false f p q = full-one (reads-full (suc e) ph p)
      go true true p q = rw (bit-over (suc e) ph, q) (full-one q)
      go true false p q = rw (bit-over (suc e) ph, q) (sym (sym (full-way quiet e l) ∙ sym (differ-false _ (none-pends quiet e l))
          ∙ full-not (tagged row) (pend ts) e (own e) (own (suc e)) (sym (index-next e u.group)) q))

  -- Leaf: under its bit it is the row's
  module _ (ph : u.phase ≡ Under 0) where
    pub leaf-bit : v.bits 0 leaf ≡ tagged row leaf
    leaf-bit = ap (v.bits 0) (sym (index-0 u.group)) ∙ bit-over 0 ph ∙ ap (full_by ts row 0) (index-0 u.group) ∙ full-zero (tagged row) (pend ts) leaf

    pub leaf-row : (h : ℕ) → leaf_of h ≡ leaf → leaf_in v u h ≡ row h
    leaf-row h q = go (true-or-false (tagged row leaf))
      where
        go : (tagged row leaf ≡ true) ⊎ (tagged row leaf ≡ false) → leaf_in v u h ≡ row h
        go (inl p) = rw (leaf-bit, p) (A.groups h (is-full (full-zero (tagged row) (pend ts) (leaf_of h) ∙ rw q p)))
        go (inr p) = rw (leaf-bit, p) (sym (untagged row leaf p h q))

    pub leaf-nothing : changes_nothing (leaf_in v u) u ≡ changes_nothing row u
    leaf-nothing = rw (leaf-row u.group refl)

    pub leaf-after : (h : ℕ) → leaf_of h ≡ leaf → after (leaf_in v u) u h ≡ after row u h
    leaf-after h q = after-like row u (leaf_in v u) h (leaf-row h q)

    pub leaf-tags : tagged (after (leaf_in v u) u) leaf ≡ tagged (after row u) leaf
    leaf-tags = tagged-same (after row u) leaf (after (leaf_in v u) u) leaf-after

  -- Finish: what it has, and whether it goes on
  module _ (s : Bool) (d : ℕ) (ph : u.phase ≡ finish_at s d) where
    finish-facts : (holds_at (finish_at s d) ≡ true) × (level_of (finish_at s d) ≡ d)
    finish-facts = go s
      where
        go : (z : Bool) → (holds_at (finish_at z d) ≡ true) × (level_of (finish_at z d) ≡ d)
        go true = (refl, refl)
        go false = (refl, refl)

    pub at-finish : AtFinish t ts v x s d
    at-finish = record {
      there = ph;
      low = rw (sym finish-facts.1) (at_level (finish_at s d) ph);
      alone = alone (finish_at s d) ph finish-facts.0;
      lined = λ e l n. line_of (finish_at s d) ph finish-facts.0 e (rw finish-facts.1 l) n;
    }

    pub finish-goes : finish_on t v u s d ≡ both (ltb d t) (negated (others_have row u d))
    finish-goes = finish-on A R.x_lt none at-finish

  -- the machine's decision is the flat course
  pub decides-course : (held : Bool) → (held ≡ false → Free top ts (own top)) → (p : Phase) → u.phase ≡ p → decides t v held u p ≡ course t row (λ e. v.lined e (own e)) held u p
  decides-course held free Idle ph = refl
  decides-course held free (Probe zero) ph = ap (λ (b : Bool). pick b ends (goes (after_probe top 0))) probe-leaf
  decides-course held free (Probe (suc e)) ph =
      ap (λ (b : Bool). pick b ends (goes (after_probe top (suc e)))) (probe-map held e (let l : suc e < top = at_level (Probe (suc e)) ph in omega arith) free _ refl)
  decides-course true free Top ph = refl
  decides-course false free Top ph = ap (λ (b : Bool). pick b ends (goes (Under t)))
      (let quiet = free-quiet top ts (own top) (free refl) in quits t _ (bit-way quiet t (omega arith) (is-top refl) ∙ full-way quiet t (omega arith)))
  decides-course held free (Under zero) ph = rw (leaf-nothing ph, leaf-bit ph, leaf-tags ph)
  decides-course held free (Under (suc e)) ph = ap (λ (b : Bool). pick b ends (goes (Under e))) (quits e _ (own-bit e ph))
  decides-course held free (Set d) ph = ap (λ (b : Bool). pick b (goes (finish_at true (suc d))) finishes) (finish-goes true d ph)
  decides-course held free (Clear d) ph = ap (λ (b : Bool). pick b (goes (finish_at false (suc d))) finishes) (finish-goes false d ph)

  -- what a read is told: at Probe leaf by a line, at Leaf by the leaf brought in; bit 0 on the way tells 0 by `row_zero`
  pub probe-told : v.lined 0 leaf ≡ true → v.group u.group ≡ row u.group
  probe-told q = A.groups u.group (is-lined q)

  pub leaf-told : u.phase ≡ Under 0 → u.write ≡ false → v.group u.group ≡ row u.group
  leaf-told ph r = A.groups u.group (is-full (ap (full_by ts row 0) (sym (index-0 u.group)) ∙ reads-full 0 ph r))
