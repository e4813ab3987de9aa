-- The blocks that a step fetches: each exists and is in no line, so it is none that the step writes back, and its line has it as the memory had it.
use mathlib.Core.Path.{◌≡◌, refl, ap, ◌∙◌}
use mathlib.Core.Bool.{Bool, true, false}
use mathlib.Core.List.{List, [], ◌∷◌}
use mathlib.Core.Logic.{◌⊎◌, inl, inr}
use Prim.Native.Nat.{ℕ, ◌*◌, ◌<◌, ◌≤◌}
use native.Mathlib.Omega.{arith}
use lib.Dec.{eqb, ltb}
use lib.ListN.{length, set}
use borrow.Author.Tests.{eqb-true}
use Rattle.laws.specs.Choice.{pick, both}
use Rattle.laws.specs.Bytes.{put_w}
use Rattle.laws.proofs.Choice.{pick-by, both_right}
use Rattle.laws.proofs.Splice.{lt-or-ge}
use Rattle.geometry.specs.declared.Shape.{Shape}
use Rattle.geometry.specs.Shape.{top_of}
use Rattle.geometry.specs.TagMemory.{blocks_of, length_of, block_over, block_place}
use Rattle.memory.specs.True.{block_at}
use Rattle.block.specs.Block.{block_or0}
use Rattle.block.proofs.Blocks.{block_or0-fits}
use Rattle.tracker.specs.declared.Phase.{Phase}
use Rattle.tracker.specs.declared.Phase.TheVariants.{Idle, Probe, Top, Under, Set, Clear}
use Rattle.tracker.specs.declared.Tracker.{Tracker}
use Rattle.line.specs.Word.{block_of, changed, word}
use Rattle.line.specs.Find.{line_of}
use Rattle.line.proofs.Words.{block_of-word, used-word}
use Rattle.rules.specs.State.{Rows}
use Rattle.rules.specs.Copies.{Copy, fetch, fetches}
use Rattle.rules.specs.Place.{line_bytes, rows_fit, place_line, written_back, place_memory, place_copies, bring_in, bring_copies, create_copies}
use Rattle.rules.specs.Copied.{copies_at, Each}
use Rattle.rules.proofs.Words.{changed-used}
use Rattle.rules.proofs.Copies.{fetches-++}
use Rattle.rules.proofs.Blocks.{put-here, put-there, block-length}
use Rattle.rules.proofs.Lined.{at, Has, Apart, low, line_of-is, line_of-none, has_here, set_apart}
use Rattle.rules.proofs.Placed.{place-memory, place-memory-length, block_or0-length, bring-placed}
use Rattle.rules.proofs.Ways.{top_held}
use Rattle.rules.proofs.Situation.{Situation, few, small, group-ok, block-lt}
use Rattle.rules.proofs.Copied.{bit_is0, back_one, p-lt, place-copies, copies-found, copies-placed, under-lt}

module _ (sit : Situation) where
  abbrev shape : Shape
  shape = sit.shape

  abbrev l : ℕ
  l = shape.l

  abbrev r : Rows
  r = sit.r

  abbrev u : Tracker
  u = sit.u

  abbrev p : ℕ
  p = place_line shape r.lines r.bytes

  -- what placing and bringing in fetch
  place-fetches : fetches (place_copies shape r) ≡ []
  place-fetches = ap fetches (place-copies sit) ∙ (back_one r.lines p).1

  found-fetches : (b : ℕ) → line_of r.lines l b < l → fetches (bring_copies shape b r) ≡ []
  unfolding fetches
  found-fetches b q = rw (copies-found sit b q)

  pub placed-fetches : (b : ℕ) → l ≤ line_of r.lines l b → fetches (bring_copies shape b r) ≡ b ∷ []
  unfolding fetches
  placed-fetches b q = ap fetches (copies-placed sit b q) ∙ fetches-++ (place_copies shape r) (fetch b ∷ []) ∙ rw place-fetches refl

  none-fetched : fetches [] ≡ []
  unfolding fetches
  none-fetched = refl

  create-fetches : (b : ℕ) → fetches (create_copies shape b r) ≡ []
  unfolding create_copies
  create-fetches b = pick-by (λ (cs : List Copy). fetches cs ≡ []) (ltb (line_of r.lines l b) l) (λ _. none-fetched) (λ _. place-fetches)

  -- each fetched block exists and is in no line
  module _ (P : ℕ → Type 0) (each : (b : ℕ) → b < blocks_of (top_of shape) shape.n → l ≤ line_of r.lines l b → P b) where
    abbrev EachOf : List Copy → Type 0
    EachOf cs = Each P (fetches cs)

    each_none : (cs : List Copy) → fetches cs ≡ [] → EachOf cs
    each_none cs e = rw e tt

    -- the block of level e over its group, brought in
    each-brought : (e : ℕ) → e ≤ top_of shape → EachOf (bring_copies shape (block_over e shape.n u.group) r)
    each-brought e el = go (lt-or-ge (line_of r.lines l b) l)
      where
        b : ℕ
        b = block_over e shape.n u.group

        go : (line_of r.lines l b < l) ⊎ (l ≤ line_of r.lines l b) → EachOf (bring_copies shape b r)
        go (inl q) = each_none _ (found-fetches b q)
        go (inr q) = rw (placed-fetches b q) (each b (block-lt shape e u.group el (group-ok sit)) q, tt)

    pub each-fetched : (q : Phase) → u.phase ≡ q → EachOf (copies_at shape u r q)
    each-fetched Idle ph = each_none [] none-fetched
    each-fetched (Probe d) ph = each_none [] none-fetched
    each-fetched Top ph = pick-by EachOf (top_held shape u r) (λ _. each_none [] none-fetched) (λ _. each-brought (top_of shape) (omega arith))
    each-fetched (Under d) ph =
        let b = block_over d shape.n u.group in
        pick-by EachOf (both u.write (bit_is0 shape u r d))
        (λ _. pick-by EachOf (both (eqb d 0) (eqb u.value 0)) (λ _. each_none [] none-fetched) (λ _. each_none (create_copies shape b r) (create-fetches b)))
        (λ _. each-brought d (omega (arith, under-lt sit ph)))
    each-fetched (Set d) ph = each_none [] none-fetched
    each-fetched (Clear d) ph = each_none [] none-fetched

  -- a block in no line is fetched as the memory has it: what is written back before is another
  module _ (long : length r.memory ≡ length_of (top_of shape) shape.n) (b : ℕ) (bl : b < blocks_of (top_of shape) shape.n) (out : l ≤ line_of r.lines l b) where
    bytes-long : length r.bytes ≡ 64 * l
    unfolding rows_fit
    bytes-long = eqb-true _ _ (both_right _ _ sit.rows_fit_lem)

    pub fetched-is : block_or0 (place_memory shape r) (block_place b) ≡ block_at r.memory b
    unfolding written_back
    fetched-is =
        block_or0-fits (place_memory shape r) (block_place b) (omega (arith, place-memory-length shape r sit.lined (few sit) sit.rows_fit_lem, long))
        ∙ ap (λ (m : List ℕ). block_at m b) (place-memory shape r sit.lined (few sit) sit.rows_fit_lem) ∙ go (changed (at r.lines p)) refl
      where
        go : (c : Bool) → changed (at r.lines p) ≡ c → block_at (pick c (put_w 64 r.memory (block_place (block_of (at r.lines p))) (line_bytes r.bytes p)) r.memory) b ≡ block_at r.memory b
        go false e = refl
        go true e =
            let h : Has r.lines p (block_of (at r.lines p)) = record { is-used = changed-used _ e; is_block = refl } in
            put-there r.memory (block_of (at r.lines p)) (omega (arith, long, sit.lined.apart.exists p _ h)) (line_bytes r.bytes p) (block-length r.bytes p (omega (arith, bytes-long, p-lt sit)))
            b (omega (arith, long)) (λ q. line_of-none r.lines l b p out (p-lt sit) (rw q h))

    -- and, brought in, its line has it so
    is_b : block_of (word b false 0) ≡ b
    is_b = block_of-word b false 0 (omega (arith, small sit)) (omega arith)

    lines-apart : Apart (blocks_of (top_of shape) shape.n) l (set r.lines p (word b false 0))
    lines-apart = set_apart sit.lined.apart p (word b false 0) (p-lt sit) (λ _. rw is_b bl) (λ _ j n h. line_of-none r.lines l b j out (low sit.lined.apart j _ h) (rw is_b at h))

    line-found : line_of (set r.lines p (word b false 0)) l b ≡ p
    line-found = line_of-is lines-apart p b (has_here sit.lined.apart p (word b false 0) (p-lt sit) b (used-word b false 0 (omega (arith, small sit)) (omega arith)) is_b)

    pub fetched-line : line_bytes (bring_in shape b r).rows.bytes (line_of (bring_in shape b r).rows.lines l b) ≡ block_at r.memory b
    fetched-line = rw (bring-placed shape b r out (p-lt sit), line-found)
        (put-here r.bytes p (omega (arith, bytes-long, p-lt sit)) (block_or0 (place_memory shape r) (block_place b)) (block_or0-length _ _) ∙ fetched-is)
