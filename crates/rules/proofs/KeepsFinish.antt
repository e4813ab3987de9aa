-- The rules at Finish keep a whole state whole: the bit is put, an empty map block's line is made free, and the tracker ends or goes on to the bit above.
use mathlib.Core.Path.{◌≡◌, sym, ap, ◌∙◌, refl}
use mathlib.Core.Bool.{true, Bool}
use mathlib.Core.List.{List}
use Prim.Native.Nat.{ℕ, suc, ◌<◌}
use native.Mathlib.Omega.{arith}
use lib.ListN.{length, set, length-set, get_or}
use borrow.Author.Tests.{lt-ltb, ltb-true}
use Rattle.geometry.specs.declared.Shape.{Shape}
use Rattle.geometry.specs.Shape.{top_of}
use Rattle.geometry.specs.TagMemory.{block_over}
use Rattle.geometry.proofs.Levels.{index-lt, block_on-level}
use Rattle.laws.proofs.Choice.{not-both-ways, both_true, true-or-false, pick-by}
use Rattle.tracker.specs.declared.Tracker.{Tracker}
use Rattle.tracker.specs.Tracker.{asks_at, keeps_at, finish_at, goes_to}
use Rattle.tracker.proofs.Phases.{keeps-finish, asks-finish}
use Rattle.line.specs.Word.{holder, line_blocks, block_of, word}
use Rattle.rules.specs.State.{Rows}
use Rattle.rules.specs.Whole.{phase_whole}
use Rattle.rules.specs.Place.{line_bytes}
use Rattle.rules.specs.Step.{own_line, Turned, turns_of, drop_empty, finish}
use Rattle.rules.proofs.Words.{holder-free}
use Rattle.rules.proofs.Lined.{at, Has, Claim, same-lined, set-lined, at_same, holder-here}
use Rattle.rules.proofs.Whole.{claims_of, LinedBy, claim_of}
use Rattle.rules.proofs.Placed.{unmoved, AsLong}
use Rattle.rules.proofs.Ways.{put_rows, finish-top, finish-on, finish-ends, changes_above}
use mathlib.Core.Logic.{⊎_elim}
use lib.Dec.{ltb}
use Rattle.laws.specs.Choice.{pick}
use Rattle.laws.specs.Bits.{with_bit}
use Rattle.laws.proofs.Splice.{lt-or-ge}
use Rattle.block.specs.Block.{put_bit, all_zero}
use Rattle.tracker.specs.declared.Phase.{Phase}
use Rattle.tracker.specs.Transfers.{none}
use Rattle.tracker.specs.Answer.{done}
use Rattle.line.proofs.Words.{block_of-word, free-used, holder-below, holder-word, used-word}
use Rattle.rules.proofs.LetGo.{Its, its-set, blocks-fit}
use Rattle.rules.proofs.Situation.{Situation, group-ok, small, own-lt, own-has, own-holder, finish-level, finish-write, finish-keeps, finish-asks, finish-asks-own}
use Rattle.rules.proofs.Turns.{Keeps, others_same, mine-now, stays, goes-tracked, let-go, lets-go, its-first}

pub put_bit-length : (m : List ℕ) (a k v : ℕ) → length (put_bit m a k v) ≡ length m
unfolding put_bit
put_bit-length m a k v = pick-by (λ (l : List ℕ). length l ≡ length m) (ltb k 8) (λ _. length-set m a (with_bit (get_or m a 0) k v)) (λ _. refl)

module _ (sit : Situation) where
  abbrev shape : Shape
  shape = sit.shape

  abbrev n : ℕ
  n = shape.n

  abbrev t : ℕ
  t = shape.t

  abbrev l : ℕ
  l = shape.l

  abbrev x : ℕ
  x = sit.x

  abbrev ts : List Tracker
  ts = sit.ts

  abbrev r : Rows
  r = sit.r

  abbrev u : Tracker
  u = sit.u

  -- its block of level e, and the line of it
  abbrev block : ℕ → ℕ
  block e = block_over e n u.group

  abbrev own : ℕ → ℕ
  own e = own_line shape u r e

  abbrev Left : Turned → Type 0
  Left o = Keeps shape x ts r o

  -- at Finish of the bit over its block of level d, in its line of level d + 1
  module _ (s : Bool) (d : ℕ) (p : u.phase ≡ finish_at s d) where
    level : d < top_of shape
    level = finish-level sit s d p

    keeps-all : (e : ℕ) → keeps_at u.phase e ≡ ltb 0 e
    keeps-all = finish-keeps sit s d p

    asks-above : (e : ℕ) → asks_at u.phase e ≡ ltb d e
    asks-above = finish-asks sit s d p

    asks-own : asks_at u.phase (suc d) ≡ true
    asks-own = finish-asks-own sit s d p

    abbrev j : ℕ
    j = own (suc d)

    j-lt : j < l
    j-lt = own-lt sit d level asks-own

    j-has : Has r.lines j (block (suc d))
    j-has = own-has sit d level asks-own

    abbrev put : Rows
    put = put_rows shape s d u r

    abbrev now-word : ℕ
    now-word = word (block_of (at r.lines j)) true (holder (at r.lines j))

    j-fits : block_of (at r.lines j) < line_blocks
    j-fits = blocks-fit sit.lined.apart (small sit) j

    now-block : block_of now-word ≡ block_of (at r.lines j)
    now-block = block_of-word _ true _ j-fits (holder-below _)

    put-lined : LinedBy shape ts put.lines
    put-lined = same-lined sit.lined j now-word j-lt (used-word _ true _ j-fits (holder-below _) ∙ sym j-has.is-used) now-block (holder-word _ true _ j-fits (holder-below _))

    put-its : (e : ℕ) → Its put.lines (own e) (block e)
    put-its e = its-set sit.lined.apart j now-word j-lt (λ _. rw now-block (record { is-used = j-has.is-used; is_block = refl })) (own e) (block e) (its-first sit e)

    put-long : AsLong r put
    put-long = record { lines_long = length-set r.lines j now-word; bytes-long = put_bit-length r.bytes _ _ (pick s 1 0); memory-long = refl }

    -- below the top: on to the bit over its block of level d + 1, whose line is made free where it is all zero
    module _ (below : suc d < top_of shape) where
      abbrev next : Tracker
      next = goes_to u (finish_at s (suc d)) none

      abbrev kept : Rows
      kept = drop_empty j put

      next-lined : LinedBy shape (set ts x next) put.lines
      next-lined = stays sit (finish_at s (suc d)) none (λ e. keeps-finish (suc d) (suc e) s ∙ sym (keeps-all (suc e)))
          (λ e a. asks-above (suc e) ∙ lt-ltb d (suc e) (let z = ltb-true (suc d) (suc e) (sym (asks-finish (suc d) (suc e) s) ∙ a) in omega arith)) put-lined

      -- of the levels that are still asked for none has its block in line j
      unasked : (y e : ℕ) → y < t → e < top_of shape → (claims_of n (set ts x next) y).asks (suc e) ≡ true → Has put.lines j ((claims_of n (set ts x next) y).block (suc e)) → ⊥
      unasked y e yl el a f =
          let k = (claims_of n (set ts x next) y).asks-keeps (suc e) a in
          let z = next-lined.marked y e j yl el k f in
          let z' = holder-here sit.lined.apart j now-word j-lt ∙ holder-word _ true _ j-fits (holder-below _) ∙ own-holder sit d level asks-own in
          let yx : y ≡ x = omega arith in
          let mine : claims_of n (set ts x next) y ≡ claim_of n next = ap (claims_of n (set ts x next)) yx ∙ mine-now sit next in
          let higher : suc d < suc e = ltb-true (suc d) (suc e) (sym (asks-finish (suc d) (suc e) s) ∙ ap (λ (c : Claim). c.asks (suc e)) (sym mine) ∙ a) in
          let one : block_over (suc e) n u.group ≡ block (suc d) =
          ap (λ (c : Claim). c.block (suc e)) (sym mine) ∙ sym f.is_block ∙ ap block_of (at_same sit.lined.apart j now-word j-lt) ∙ now-block ∙ j-has.is_block in
          let one-level : suc e ≡ suc d = block_on-level n (suc e) (suc d) _ _ (index-lt (suc e) n u.group (group-ok sit)) (index-lt (suc d) n u.group (group-ok sit)) one in
          omega arith

      kept-lined : LinedBy shape (set ts x next) kept.lines
      kept-lined = pick-by (λ (q : Rows). LinedBy shape (set ts x next) q.lines) (all_zero (line_bytes put.bytes j))
          (λ _. set-lined next-lined j 0 j-lt holder-free (λ e. absurd (not-both-ways e free-used)) (λ e. absurd (not-both-ways e free-used)) (λ e. absurd (not-both-ways e free-used)) unasked)
          (λ _. next-lined)

      kept-its : (e : ℕ) → Its kept.lines (own e) (block e)
      kept-its e = pick-by (λ (q : Rows). Its q.lines (own e) (block e)) (all_zero (line_bytes put.bytes j))
          (λ _. its-set put-lined.apart j 0 j-lt (λ w. absurd (not-both-ways w free-used)) (own e) (block e) (put-its e)) (λ _. put-its e)

      kept-long : AsLong r kept
      kept-long = pick-by (AsLong r) (all_zero (line_bytes put.bytes j))
          (λ _. record { lines_long = length-set put.lines j 0 ∙ put-long.lines_long; bytes-long = put-long.bytes-long; memory-long = refl }) (λ _. put-long)

      next-whole : phase_whole (top_of shape) u.write u.bottom (finish_at s (suc d)) ≡ true
      next-whole = let w = both_true _ _ (finish-write sit s d p) (lt-ltb _ _ below) in pick-by (λ (q : Phase). phase_whole (top_of shape) u.write u.bottom q ≡ true) s (λ _. w) (λ _. w)

      above-lt : own (suc (suc d)) < l
      above-lt = own-lt sit (suc d) below (asks-above (suc (suc d)) ∙ lt-ltb d (suc (suc d)) (omega arith))

      keeps_below : Left (finish shape s d u r)
      keeps_below = ⊎_elim
          (λ c. rw (finish-on shape s d u r j-lt below above-lt c) (record {
            says = refl;
            shaped = unmoved sit.hand-lt;
            lined = kept-lined;
            tracked = goes-tracked sit (finish_at s (suc d)) _ next-whole;
            long = kept-long;
          }))
          (λ c. rw (finish-ends shape s d u r j-lt below above-lt c)
          (let-go sit (claims_of n (set ts x next)) kept kept-lined (λ y q. others_same sit next y q)
          (λ e. ap (λ (w : Claim). w.keeps (suc e)) (mine-now sit next) ∙ keeps-finish (suc d) (suc e) s ∙ sym (keeps-all (suc e)))
          (λ e. ap (λ (w : Claim). w.block (suc e)) (mine-now sit next)) (λ e el k. kept-its (suc e)) kept-long
          (done (turns_of u)) refl shape (unmoved sit.hand-lt) none))
          (true-or-false (changes_above shape s d u r))

    pub keeps-at_finish : Left (finish shape s d u r)
    keeps-at_finish = ⊎_elim keeps_below
        (λ q. rw (finish-top shape s d u r j-lt q)
        (lets-go sit put put-lined (λ e el k. put-its (suc e)) put-long (done (turns_of u)) refl shape (unmoved sit.hand-lt) none))
        (lt-or-ge (suc d) (top_of shape))
