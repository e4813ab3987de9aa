-- A law for each way out of finding an own line, reading a bit in it and letting go, from what the code has tested; and rules that let go of lines that are own.
use mathlib.Core.Path.{◌≡◌, refl, sym, ap, ◌∙◌}
use mathlib.Core.List.{List}
use mathlib.Core.Bool.{Bool, true, false}
use mathlib.Core.Logic.{◌⊎◌, inl, inr}
use Prim.Native.Nat.{ℕ, zero, suc, ◌+◌, ◌*◌, ◌/◌, ◌≤◌, ◌<◌}
use native.Mathlib.Numerals.{add-one}
use native.Mathlib.Decide.{ℕ_discrete}
use native.Mathlib.Omega.{arith}
use lib.ListN.{length, get_or, set}
use lib.Seq.{set_out}
use borrow.Author.Tests.{lt-ltb, le-ltb, eq-eqb, ne_eqb}
use Rattle.laws.specs.Choice.{pick}
use Rattle.geometry.specs.declared.Shape.{Shape}
use Rattle.geometry.specs.Shape.{top_of}
use Rattle.geometry.specs.TagMemory.{leaf_of, in_limits_of, block_over, map_byte_of, map_bit_of, index}
use Rattle.geometry.proofs.Limits.{in_limits-top}
use Rattle.block.specs.Block.{bit_at}
use Rattle.block.proofs.BitsOf.{bit_at-not}
use Rattle.tracker.specs.declared.Phase.{Phase}
use Rattle.tracker.specs.declared.Transfers.{Transfers}
use Rattle.tracker.specs.declared.Tracker.{Tracker}
use Rattle.tracker.specs.Tracker.{keeps_at}
use Rattle.tracker.specs.Answer.{Said}
use Rattle.line.specs.Word.{held, held_by, word}
use Rattle.line.specs.Find.{line_of}
use Rattle.rules.specs.State.{Rows}
use Rattle.rules.specs.Place.{Brought}
use Rattle.rules.specs.Step.{own_line, bit_in, loosened, let_go, lets_go, descend, put_in}
use Rattle.own.specs.declared.Own.{Own}
use Rattle.own.specs.Own.{line_over, own_of, line_on, Owns}

-- a level's line
module _ (own : Own) where
  pub line_on-1 : (e : ℕ) → e ≡ 1 → own.one ≡ line_on own e
  unfolding line_on
  line_on-1 e h = rw (eq-eqb _ _ h) refl

  pub line_on-other : (e : ℕ) → (e ≡ 1 → ⊥) → own.two ≡ line_on own e
  unfolding line_on
  line_on-other e h = rw (ne_eqb _ _ h) refl

-- the test of the limits, from the top that was asked for
pub limits_of_lem : (shape : Shape) {top : ℕ} {b c : Bool} → top ≡ top_of shape → b ≡ in_limits_of top shape.n → b ≡ c → in_limits_of (top_of shape) shape.n ≡ c
limits_of_lem shape et eb ec = rw (← et) (sym eb) ∙ ec

-- the line of a block over a group, where there is such a device, and where not
module _ (shape : Shape) (g : ℕ) (lines : List ℕ) where
  pub line_over-is : (e : ℕ) → in_limits_of (top_of shape) shape.n ≡ true → line_over shape g lines e ≡ line_of lines shape.l (block_over e shape.n g)
  unfolding line_over
  line_over-is e h = rw h refl

  pub line_over-in : (e : ℕ) {b i : ℕ} → in_limits_of (top_of shape) shape.n ≡ true → b ≡ block_over e shape.n g → i ≡ line_of lines shape.l b → i ≡ line_over shape g lines e
  line_over-in e h eb ei = ei ∙ rw eb (sym (line_over-is e h))

  pub line_over-none : (e : ℕ) → in_limits_of (top_of shape) shape.n ≡ false → line_over shape g lines e ≡ shape.l
  unfolding line_over
  line_over-none e h = rw h refl

  -- a line that is found is of such a device
  pub line_over-found : (e : ℕ) → line_over shape g lines e < shape.l → in_limits_of (top_of shape) shape.n ≡ true
  line_over-found e h = go (in_limits_of (top_of shape) shape.n) refl
    where
      go : (b : Bool) → in_limits_of (top_of shape) shape.n ≡ b → in_limits_of (top_of shape) shape.n ≡ true
      go true q = q
      go false q = absurd (omega (arith, line_over-none e q))

  -- with two levels, and with more
  pub own_of-1 : {one : ℕ} → top_of shape ≤ 1 → one ≡ line_over shape g lines 1 → (record { one = one; two = shape.l }) ≡ own_of shape g lines
  unfolding own_of
  own_of-1 h e = rw (e, le-ltb 1 (top_of shape) h) refl

  pub own_of-2 : {one two : ℕ} → 1 < top_of shape → one ≡ line_over shape g lines 1 → two ≡ line_over shape g lines 2 → (record { one = one; two = two }) ≡ own_of shape g lines
  unfolding own_of
  own_of-2 h e f = rw (e, f, lt-ltb 1 (top_of shape) h) refl

  -- the lines that are found are the own lines: a device has at most two levels above its leaves
  pub owns-found : {own : Own} → own ≡ own_of shape g lines → in_limits_of (top_of shape) shape.n ≡ true → Owns own shape g lines
  unfolding own_of
  owns-found {own} q h e l m = go (ℕ_discrete e 1)
    where
      go : Dec (e ≡ 1) → line_on own e ≡ line_of lines shape.l (block_over e shape.n g)
      go (yes z) = sym (line_on-1 own e z) ∙ ap (λ (o : Own). o.one) q ∙ rw z (line_over-is 1 h)
      go (no z) = sym (line_on-other own e z) ∙ ap (λ (o : Own). o.two) q ∙ above (in_limits-top (top_of shape) shape.n h)
        where
          above : (top_of shape ≡ 1) ⊎ (top_of shape ≡ 2) → (own_of shape g lines).two ≡ line_of lines shape.l (block_over e shape.n g)
          above (inl k) = absurd (z (omega arith))
          above (inr k) =
              let e_2 : e ≡ 2 = omega arith in
              let more : 1 < top_of shape = omega arith in
              rw (lt-ltb 1 (top_of shape) more, e_2) (line_over-is 2 h)

-- the bit in a line, where the bytes have the line, and where not
module _ (bytes : List ℕ) (i e g : ℕ) where
  pub bit_in-past : length bytes / 64 < i → bit_in bytes i e g ≡ 0
  bit_in-past h = bit_at-not bytes _ _ (omega arith)

  pub bit_in-is : {k y z b : ℕ} → k ≡ index e g → y ≡ map_byte_of k → z ≡ map_bit_of k → b ≡ bit_at bytes (64 * i + y) z → b ≡ bit_in bytes i e g
  bit_in-is ek ey ez eb = eb ∙ rw (ey, ez, ek) refl

-- a line names nobody
module _ (lines : List ℕ) (i : ℕ) where
  pub loosened-past : length lines ≤ i → lines ≡ loosened lines i
  loosened-past h = sym (set_out _ _ _ h)

  pub loosened-is : {w : ℕ} → w ≡ pick (held (get_or lines i 0)) (held_by (get_or lines i 0) 0) (get_or lines i 0) → set lines i w ≡ loosened lines i
  loosened-is e = rw e refl

module _ (p : Phase) (own : Own) (e : ℕ) (lines : List ℕ) {k : Bool} (ek : k ≡ keeps_at p e) where
  pub not-kept : k ≡ false → lines ≡ pick (keeps_at p e) (loosened lines (line_on own e)) lines
  not-kept h = rw (← ek, h) refl

  pub is-kept : {i : ℕ} {gone : List ℕ} → k ≡ true → i ≡ line_on own e → gone ≡ loosened lines i → gone ≡ pick (keeps_at p e) (loosened lines (line_on own e)) lines
  is-kept h ei eg = eg ∙ rw (← ek, h, ei) refl

-- letting go, level by level
pub let_go-more : (p : Phase) (own : ℕ → ℕ) (e : ℕ) (lines : List ℕ) {ls gone : List ℕ} → ls ≡ let_go p own e lines
    → gone ≡ pick (keeps_at p (e + 1)) (loosened ls (own (e + 1))) ls → gone ≡ let_go p own (e + 1) lines
unfolding let_go
let_go-more p own e lines q k = k ∙ rw (q, add-one) refl

-- lines that are the same on the levels that are let go
pub let_go-same : (p : Phase) (f h : ℕ → ℕ) (lines : List ℕ) (e : ℕ) → ((k : ℕ) → 1 ≤ k → k ≤ e → f k ≡ h k) → let_go p f e lines ≡ let_go p h e lines
unfolding let_go
let_go-same p f h lines zero a = refl
let_go-same p f h lines (suc e) a = rw (let_go-same p f h lines e (λ k l m. a k l (omega arith)), a (suc e) (omega arith) (omega arith)) refl

-- a rule that lets go of the lines that are found lets go of the tracker's own
module _ (own : Own) (shape : Shape) (t : Tracker) (r : Rows) (o : Owns own shape t.group r.lines) (next : Shape) (same-top : top_of next ≡ top_of shape) where
  let_go-own : (ls : List ℕ) → let_go t.phase (line_on own) (top_of next) ls ≡ let_go t.phase (own_line shape t r) (top_of next) ls
  let_go-own ls = let_go-same t.phase (line_on own) (own_line shape t r) ls (top_of next) (λ k l m. o k l (omega (arith, same-top)))

  pub lets_go-own : (a : Said) (more : Transfers) (s : Rows) → lets_go a next t more (line_on own) s ≡ lets_go a next t more (own_line shape t r) s
  lets_go-own a more s = rw (let_go-own s.lines) refl

  module _ (line : ℕ) (copies : Transfers) (s : Rows) where
    abbrev brought : Brought
    brought = record { line = line; shape = next; rows = s; copies = copies }

    pub put_in-own : put_in (line_on own) t brought ≡ put_in (own_line shape t r) t brought
    unfolding put_in
    put_in-own = rw (let_go-own (set s.lines line (word (leaf_of t.group) true 0))) refl

    pub descend-own : (x d : ℕ) → descend x (line_on own) d t brought ≡ descend x (own_line shape t r) d t brought
    unfolding descend
    descend-own x d = rw (let_go-own s.lines) refl
