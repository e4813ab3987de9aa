-- What the writes of a step do to the contents of blocks: placing, bringing in and marking change none; a write into a line changes its own block alone.
use mathlib.Core.Path.{◌≡◌, refl, sym, ap, ◌∙◌, subst}
use mathlib.Core.Bool.{Bool, true, false}
use mathlib.Core.List.{List}
use mathlib.Core.Logic.{◌⊎◌, inl, inr, ⊎_elim}
use Prim.Native.Nat.{ℕ, zero, suc, ◌+◌, ◌*◌, ◌<◌, ◌≤◌}
use native.Mathlib.Omega.{arith}
use native.Mathlib.Decide.{ℕ_discrete}
use borrow.Author.Tests.{lt-ltb}
use lib.ListN.{length, set, length-set}
use lib.Seq.{get_or-set_same, get_or-set_other, set_out}
use Rattle.laws.specs.Choice.{pick}
use Rattle.laws.specs.Bytes.{put_w}
use Rattle.laws.proofs.Choice.{not-both-ways, true-or-false}
use Rattle.laws.proofs.Splice.{lt-or-ge}
use Rattle.geometry.specs.declared.Shape.{Shape}
use Rattle.geometry.specs.TagMemory.{block_place}
use Rattle.block.specs.Block.{block_or0}
use Rattle.block.proofs.Blocks.{block_or0-fits}
use Rattle.memory.specs.True.{block_at}
use Rattle.tracker.specs.declared.Phase.{Phase}
use Rattle.tracker.specs.Tracker.{keeps_at}
use Rattle.line.specs.Word.{used, block_of, changed, held, held_by, word, line_blocks, marks}
use Rattle.line.specs.Find.{line_of}
use Rattle.rules.specs.State.{Rows}
use Rattle.rules.specs.Place.{line_bytes, place_line, place_memory, written_back, Brought, filled, with_memory, bring_in, create}
use Rattle.rules.specs.Step.{lines_held_by, loosened, let_go}
use Rattle.line.proofs.Words.{block_of-word, changed-word, free-used, free-held, not-used, used-word}
use Rattle.rules.proofs.Words.{block_of-held_by, changed-held_by, changed-used, used-held_by}
use Rattle.rules.proofs.Lined.{at, Has, low, line_of-has, line_of-none, new-or-old, has_here}
use Rattle.rules.proofs.Placed.{bring-found, bring-placed, create-found, create-placed}
use Rattle.rules.proofs.Blocks.{Has64, block-length, put-length, put-here, put-there}
use Rattle.flat.proofs.Contents.{content, Good, lined-or-not, content-in, content-out, Change, change-good, change-here, change-other, change-gone, Backed, Marked, Marks}

-- rows that differ at block b alone: every other content stays, and no other block comes into a line
pub record Only (B l : ℕ) (r r' : Rows) (b : ℕ) : Type 0 where
  pub good : Good B l r'
  pub backed : Backed B l r r'
  pub same : (d : ℕ) → d < B → (d ≡ b → ⊥) → content l r' d ≡ content l r d
  pub had : (j d : ℕ) → (d ≡ b → ⊥) → Has r'.lines j d → Has r.lines j d

-- and once more, memory as it was
pub only_then : {B l : ℕ} {r r1 r2 : Rows} {b : ℕ} → Only B l r r1 b → r2.memory ≡ r1.memory → Only B l r1 r2 b → Only B l r r2 b
only_then p m q = record {
  good = q.good;
  backed = λ d dl. rw m (p.backed d dl);
  same = λ d dl n. q.same d dl n ∙ p.same d dl n;
  had = λ j d n h. p.had j d n (q.had j d n h);
}

pub only-marked : {B l : ℕ} {r r1 r2 : Rows} {b : ℕ} → Only B l r r1 b → Marked B l r1 r2 → Only B l r r2 b
only-marked p m = only_then p m.memory-is (record { good = m.same.good; backed = m.same.backed; same = λ d dl n. m.same.same d dl; had = λ j d n h. m.same.had j d h })

-- block b, which no line has, goes into line i with the bytes y, changed or clean
pub record Placing (B l : ℕ) (r : Rows) (i b : ℕ) (c : Bool) (y : List ℕ) : Type 0 where
  pub line-lt : i < l
  pub exists : b < B
  pub small : B < line_blocks
  pub long : length y ≡ 64
  pub nobody : (j : ℕ) → Has r.lines j b → ⊥
  pub clean : c ≡ false → y ≡ block_at r.memory b

-- line i, which has block b, gets the bytes y: the line bytes change there alone
pub record Writing (B l : ℕ) (r : Rows) (i b : ℕ) (bytes' y : List ℕ) : Type 0 where
  pub has-it : Has r.lines i b
  pub small : B < line_blocks
  pub long : length bytes' ≡ length r.bytes
  pub here : line_bytes bytes' i ≡ y
  pub there : (j : ℕ) → j < l → (j ≡ i → ⊥) → line_bytes bytes' j ≡ line_bytes r.bytes j

module _ {B l : ℕ} {r : Rows} (G : Good B l r) where
  pub line-64 : (i : ℕ) → i < l → Has64 r.bytes i
  line-64 i q = omega (arith, G.bytes-long)

  block-64 : (b : ℕ) → b < B → Has64 r.memory b
  block-64 b q = omega (arith, G.memory-long)

  pub line-length : (i : ℕ) → i < l → length (line_bytes r.bytes i) ≡ 64
  line-length i q = block-length r.bytes i (line-64 i q)

  pub content-length : (b : ℕ) → b < B → length (content l r b) ≡ 64
  content-length b q = go (lined-or-not G b)
    where
      go : ((i : ℕ) × Has r.lines i b) ⊎ ((i : ℕ) → Has r.lines i b → ⊥) → length (content l r b) ≡ 64
      go (inl o) = ap length (content-in G o.0 b o.1) ∙ line-length o.0 (low G.apart o.0 b o.1)
      go (inr o) = ap length (content-out G b o) ∙ block-length r.memory b (block-64 b q)

  -- a line written back: memory then has its block as it is now
  module _ (i : ℕ) (il : i < l) where
    own : changed (at r.lines i) ≡ true → Has r.lines i (block_of (at r.lines i))
    own e = record { is-used = changed-used _ e; is_block = refl }

    pub back-length : length (written_back r.lines r.bytes r.memory i) ≡ 64 * B
    unfolding written_back
    back-length = go (changed (at r.lines i)) refl
      where
        go : (c : Bool) → changed (at r.lines i) ≡ c → length (pick c (put_w 64 r.memory (block_place (block_of (at r.lines i))) (line_bytes r.bytes i)) r.memory) ≡ 64 * B
        go false e = G.memory-long
        go true e = put-length r.memory (block_of (at r.lines i)) (block-64 _ (G.apart.exists i _ (own e))) (line_bytes r.bytes i) (line-length i il) ∙ G.memory-long

    pub back-rest : (b : ℕ) → b < B → (Has r.lines i b → ⊥) → block_at (written_back r.lines r.bytes r.memory i) b ≡ block_at r.memory b
    unfolding written_back
    back-rest b bl n = go (changed (at r.lines i)) refl
      where
        go : (c : Bool) → changed (at r.lines i) ≡ c → block_at (pick c (put_w 64 r.memory (block_place (block_of (at r.lines i))) (line_bytes r.bytes i)) r.memory) b ≡ block_at r.memory b
        go false e = refl
        go true e = put-there r.memory (block_of (at r.lines i)) (block-64 _ (G.apart.exists i _ (own e))) (line_bytes r.bytes i) (line-length i il) b (block-64 b bl)
            (λ q. n (rw q (own e)))

    pub back-here : (b : ℕ) → Has r.lines i b → block_at (written_back r.lines r.bytes r.memory i) b ≡ line_bytes r.bytes i
    unfolding written_back
    back-here b h = go (changed (at r.lines i)) refl
      where
        go : (c : Bool) → changed (at r.lines i) ≡ c → block_at (pick c (put_w 64 r.memory (block_place (block_of (at r.lines i))) (line_bytes r.bytes i)) r.memory) b ≡ line_bytes r.bytes i
        go false e = sym (G.clean i b h e)
        go true e = rw h.is_block (put-here r.memory b (block-64 b (G.apart.exists i b h)) (line_bytes r.bytes i) (line-length i il))

    pub back-backed : (b : ℕ) → b < B → (block_at (written_back r.lines r.bytes r.memory i) b ≡ block_at r.memory b) ⊎ (block_at (written_back r.lines r.bytes r.memory i) b ≡ content l r b)
    back-backed b bl = go (true-or-false (used (at r.lines i))) (ℕ_discrete (block_of (at r.lines i)) b)
      where
        go : (used (at r.lines i) ≡ true) ⊎ (used (at r.lines i) ≡ false) → Dec (block_of (at r.lines i) ≡ b)
            → (block_at (written_back r.lines r.bytes r.memory i) b ≡ block_at r.memory b) ⊎ (block_at (written_back r.lines r.bytes r.memory i) b ≡ content l r b)
        go (inl u) (yes q) = let h : Has r.lines i b = record { is-used = u; is_block = q } in inr (back-here b h ∙ sym (content-in G i b h))
        go (inl u) (no q) = inl (back-rest b bl (λ h. q h.is_block))
        go (inr u) q = inl (back-rest b bl (λ h. not-both-ways h.is-used u))

  -- placing: what was in the line is first written back
  module _ {i b : ℕ} {c : Bool} {y : List ℕ} (p : Placing B l r i b c y) where
    fits_word : b < line_blocks
    fits_word = omega (arith, p.small, p.exists)

    is-used : used (word b c 0) ≡ true
    is-used = used-word b c 0 fits_word (omega arith)

    is_block : block_of (word b c 0) ≡ b
    is_block = block_of-word b c 0 fits_word (omega arith)

    placing : Change B l r i (word b c 0) (put_w 64 r.bytes (block_place i) y) (written_back r.lines r.bytes r.memory i) y
    placing = record {
      line-lt = p.line-lt;
      bytes-long = put-length r.bytes i (line-64 i p.line-lt) y p.long ∙ G.bytes-long;
      memory-long = back-length i p.line-lt;
      here = put-here r.bytes i (line-64 i p.line-lt) y p.long;
      there = λ j q n. put-there r.bytes i (line-64 i p.line-lt) y p.long j (line-64 j q) n;
      rest = back-rest i p.line-lt;
      exists = λ u. rw is_block p.exists;
      alone = λ u j n h. p.nobody j (rw is_block at h);
      clean = λ u e. p.clean (sym (changed-word b c 0 fits_word (omega arith)) ∙ e) ∙ sym (rw is_block (back-rest i p.line-lt b p.exists (p.nobody i)));
    }

    abbrev placed : Rows
    placed = filled (with_memory r (written_back r.lines r.bytes r.memory i)) i b c y

    placed-good : Good B l placed
    placed-good = change-good G placing

    pub placed-here : content l placed b ≡ y
    placed-here = subst (λ (z : ℕ). content l placed z ≡ y) is_block (change-here G placing is-used)

    placed-other : (d : ℕ) → d < B → (d ≡ b → ⊥) → content l placed d ≡ content l r d
    placed-other d dl n = go (true-or-false (used (at r.lines i))) (ℕ_discrete (block_of (at r.lines i)) d)
      where
        other : used (word b c 0) ≡ true → block_of (word b c 0) ≡ d → ⊥
        other u q = n (sym q ∙ is_block)

        go : (used (at r.lines i) ≡ true) ⊎ (used (at r.lines i) ≡ false) → Dec (block_of (at r.lines i) ≡ d)
            → content l placed d ≡ content l r d
        go (inl u) (yes q) =
            let h : Has r.lines i d = record { is-used = u; is_block = q } in
            change-gone G placing d h other ∙ back-here i p.line-lt d h ∙ sym (content-in G i d h)
        go (inl u) (no q) = change-other G placing d dl (λ h. q h.is_block) other
        go (inr u) q = change-other G placing d dl (λ h. not-both-ways h.is-used u) other

    pub placed-only : Only B l r placed b
    placed-only = record {
      good = placed-good;
      backed = back-backed i p.line-lt;
      same = placed-other;
      had = λ j d n h. ⊎_elim (λ o. absurd (n (sym o.2 ∙ is_block))) (λ o. o.1) (new-or-old G.apart _ _ placing.line-lt j d h);
    }

    pub placed-has : Has (set r.lines i (word b c 0)) i b
    placed-has = has_here G.apart i (word b c 0) p.line-lt b is-used is_block

  -- writing: the line is changed then, and names holder k; or it is made free
  module _ {i b : ℕ} {bytes' y : List ℕ} (w : Writing B l r i b bytes' y) where
    h : Has r.lines i b
    h = w.has-it

    b-small : b < line_blocks
    b-small = omega (arith, G.apart.exists i b h, w.small)

    -- what a line says that has another block is as it was
    elsewhere : (v : ℕ) → (used v ≡ true → block_of v ≡ b) → (j d : ℕ) → (d ≡ b → ⊥) → Has (set r.lines i v) j d → Has r.lines j d
    elsewhere v e j d n h' = ⊎_elim (λ o. absurd (n (sym o.2 ∙ e o.1))) (λ o. o.1) (new-or-old G.apart i v (low G.apart i b h) j d h')

    module _ (k : ℕ) (kl : k < marks) where
      w-block : block_of (word b true k) ≡ b
      w-block = block_of-word b true k b-small kl

      abbrev written : Rows
      written = record { lines = set r.lines i (word b true k); bytes = bytes'; memory = r.memory }

      writing : Change B l r i (word b true k) bytes' r.memory y
      writing = record {
        line-lt = low G.apart i b h;
        bytes-long = w.long ∙ G.bytes-long;
        memory-long = G.memory-long;
        here = w.here;
        there = w.there;
        rest = λ d dl n. refl;
        exists = λ u. rw w-block (G.apart.exists i b h);
        alone = λ u j n h'. n (G.apart.one j i b (rw w-block at h') h);
        clean = λ u e. absurd (not-both-ways (changed-word b true k b-small kl) e);
      }

      pub written-here : content l written b ≡ y
      written-here = subst (λ (z : ℕ). content l written z ≡ y) w-block (change-here G writing (used-word b true k b-small kl))

      pub written-only : Only B l r written b
      written-only = record {
        good = change-good G writing;
        backed = λ d dl. inl refl;
        same = λ d dl n. change-other G writing d dl (λ h'. n (sym h'.is_block ∙ h.is_block)) (λ u q. n (sym q ∙ w-block));
        had = elsewhere (word b true k) (λ u. w-block);
      }

      pub written_has : Has (set r.lines i (word b true k)) i b
      written_has = has_here G.apart i (word b true k) (low G.apart i b h) b (used-word b true k b-small kl) w-block

    abbrev emptied : Rows
    emptied = record { lines = set r.lines i 0; bytes = bytes'; memory = r.memory }

    freeing : Change B l r i 0 bytes' r.memory y
    freeing = record {
      line-lt = low G.apart i b h;
      bytes-long = w.long ∙ G.bytes-long;
      memory-long = G.memory-long;
      here = w.here;
      there = w.there;
      rest = λ d dl n. refl;
      exists = λ u. absurd (not-both-ways u free-used);
      alone = λ u. absurd (not-both-ways u free-used);
      clean = λ u e. absurd (not-both-ways u free-used);
    }

    pub freed-only : Only B l r emptied b
    freed-only = record {
      good = change-good G freeing;
      backed = λ d dl. inl refl;
      same = λ d dl n. change-other G freeing d dl (λ h'. n (sym h'.is_block ∙ h.is_block)) (λ u q. absurd (not-both-ways u free-used));
      had = elsewhere 0 (λ u. absurd (not-both-ways u free-used));
    }

    pub freed-gone : (j : ℕ) → Has (set r.lines i 0) j b → ⊥
    freed-gone j h' = ⊎_elim (λ o. not-both-ways o.1 free-used) (λ o. o.0 (G.apart.one j i b o.1 h)) (new-or-old G.apart _ _ freeing.line-lt j b h')

-- Lines whose blocks fit a word change their marks: line i names another holder, or the lines that a phase keeps name nobody.
abbrev pub Fit : List ℕ → Type 0
Fit lines = (j : ℕ) → used (at lines j) ≡ true → block_of (at lines j) < line_blocks

pub good-fit : {B l : ℕ} {r : Rows} → Good B l r → B < line_blocks → Fit r.lines
good-fit G small j u = omega (arith, G.apart.exists j _ (record { is-used = u; is_block = refl }))

marks-none : (lines : List ℕ) → Marks lines lines
marks-none lines = record { long = refl; says-used = λ j. refl; says-block = λ j. refl; says-changed = λ j. refl }

marks_then : {a b c : List ℕ} → Marks a b → Marks b c → Marks a c
marks_then p q = record {
  long = q.long ∙ p.long;
  says-used = λ j. q.says-used j ∙ p.says-used j;
  says-block = λ j. q.says-block j ∙ p.says-block j;
  says-changed = λ j. q.says-changed j ∙ p.says-changed j;
}

marks-fit : {a b : List ℕ} → Marks a b → Fit a → Fit b
marks-fit m f j u = rw (m.says-block j) (f j (sym (m.says-used j) ∙ u))

-- line i's word becomes w, which says the same
marks-set : (lines : List ℕ) (i w : ℕ) → used w ≡ used (at lines i) → block_of w ≡ block_of (at lines i) → changed w ≡ changed (at lines i) → Marks lines (set lines i w)
marks-set lines i w u b c = record { long = length-set lines i w; says-used = says used u; says-block = says block_of b; says-changed = says changed c }
  where
    says : {A : Type 0} (f : ℕ → A) → f w ≡ f (at lines i) → (j : ℕ) → f (at (set lines i w) j) ≡ f (at lines j)
    says f e j = go (ℕ_discrete j i) (lt-or-ge i (length lines))
      where
        go : Dec (j ≡ i) → (i < length lines) ⊎ (length lines ≤ i) → f (at (set lines i w) j) ≡ f (at lines j)
        go (yes q) (inl l) = rw (q, get_or-set_same lines i w 0 l) e
        go (yes q) (inr l) = ap (λ (z : List ℕ). f (at z j)) (set_out lines i w l)
        go (no q) l = ap f (get_or-set_other lines i j w 0 q)

module _ {lines : List ℕ} (f : Fit lines) (i : ℕ) where
  pub marks-held : (x b : ℕ) → Has lines i b → x + 1 < marks → Marks lines (lines_held_by lines i x)
  marks-held x b h q =
      let z : block_of (at lines i) < line_blocks = f i h.is-used in
      marks-set lines i _ (used-held_by _ (x + 1) z q ∙ sym h.is-used) (block_of-held_by _ (x + 1) z q) (changed-held_by _ (x + 1) z q)

  marks-loosened : Marks lines (loosened lines i)
  marks-loosened = go (held (at lines i)) refl
    where
      go : (c : Bool) → held (at lines i) ≡ c → Marks lines (set lines i (pick c (held_by (at lines i) 0) (at lines i)))
      go false e = marks-set lines i (at lines i) refl refl refl
      go true e =
          let u : used (at lines i) ≡ true = ⊎_elim (λ q. q) (λ q. absurd (not-both-ways e (ap held (not-used (at lines i) q) ∙ free-held))) (true-or-false (used (at lines i))) in
          let z : block_of (at lines i) < line_blocks = f i u in
          marks-set lines i _ (used-held_by _ 0 z (omega arith) ∙ sym u) (block_of-held_by _ 0 z (omega arith)) (changed-held_by _ 0 z (omega arith))

pub marks-let_go : (p : Phase) (own : ℕ → ℕ) (e : ℕ) {lines : List ℕ} → Fit lines → Marks lines (let_go p own e lines)
unfolding let_go
marks-let_go p own zero {lines} f = marks-none lines
marks-let_go p own (suc e) {lines} f = next (let_go p own e lines) (marks-let_go p own e f) (keeps_at p (suc e))
  where
    next : (ls : List ℕ) → Marks lines ls → (c : Bool) → Marks lines (pick c (loosened ls (own (suc e))) ls)
    next ls m true = marks_then m (marks-loosened (marks-fit m f) (own (suc e)))
    next ls m false = m

-- Block b comes into a line, with the bytes y: brought in, they are those that it has; created, they are given.
pub record Comes (B l : ℕ) (r : Rows) (b : ℕ) (y : List ℕ) (o : Brought) : Type 0 where
  pub only : Only B l r o.rows b
  pub here : content l o.rows b ≡ y
  pub has-it : Has o.rows.lines o.line b

module _ (shape : Shape) {B : ℕ} (r : Rows) (b : ℕ) (G : Good B shape.l r) (il : place_line shape r.lines r.bytes < shape.l) (bl : b < B) (small : B < line_blocks) where
  abbrev l : ℕ
  l = shape.l

  -- the line that it has, or that it is to have
  abbrev its-line : ℕ
  its-line = line_of r.lines l b

  abbrev place : ℕ
  place = place_line shape r.lines r.bytes

  nobody : l ≤ its-line → (j : ℕ) → Has r.lines j b → ⊥
  nobody q j h = line_of-none r.lines l b j q (low G.apart j b h) h

  memory-is : place_memory shape r ≡ written_back r.lines r.bytes r.memory place
  unfolding place_memory
  memory-is = rw (lt-ltb _ _ il)

  pub brings-in : Comes B l r b (content l r b) (bring_in shape b r)
  brings-in = go (lt-or-ge its-line l)
    where
      -- the bytes that are brought in are the block's
      brought : l ≤ its-line → Placing B l r place b false (block_at r.memory b)
      brought q = record {
        line-lt = il;
        exists = bl;
        small = small;
        long = block-length r.memory b (omega (arith, G.memory-long));
        nobody = nobody q;
        clean = λ _. refl;
      }

      fetched : l ≤ its-line → block_or0 (written_back r.lines r.bytes r.memory place) (block_place b) ≡ block_at r.memory b
      fetched q = block_or0-fits _ (block_place b) (omega (arith, back-length G _ il)) ∙ back-rest G _ il b bl (nobody q _)

      go : (its-line < l) ⊎ (l ≤ its-line) → Comes B l r b (content l r b) (bring_in shape b r)
      go (inl q) = rw (bring-found shape b r q) (record {
        only = record { good = G; backed = λ d dl. inl refl; same = λ d dl n. refl; had = λ j d n h. h };
        here = refl;
        has-it = line_of-has r.lines l b q;
      })
      go (inr q) = rw (bring-placed shape b r q il, memory-is, fetched q) (record {
        only = placed-only G (brought q);
        here = placed-here G (brought q) ∙ sym (content-out G b (nobody q));
        has-it = placed-has G (brought q);
      })

  module _ (y : List ℕ) (long : length y ≡ 64) where
    pub creates : Comes B l r b y (create shape b y r)
    creates = go (lt-or-ge its-line l)
      where
        given : l ≤ its-line → Placing B l r place b true y
        given q = record { line-lt = il; exists = bl; small = small; long = long; nobody = nobody q; clean = λ e. absurd (not-both-ways refl e) }

        into : its-line < l → Writing B l r its-line b (put_w 64 r.bytes (block_place its-line) y) y
        into q =
            let h64 = line-64 G its-line q in
            record {
              has-it = line_of-has r.lines l b q;
              small = small;
              long = put-length r.bytes its-line h64 y long;
              here = put-here r.bytes its-line h64 y long;
              there = λ j jl n. put-there r.bytes its-line h64 y long j (line-64 G j jl) n;
            }

        go : (its-line < l) ⊎ (l ≤ its-line) → Comes B l r b y (create shape b y r)
        go (inl q) = rw (create-found shape b y r q) (record { only = written-only G (into q) 0 (omega arith); here = written-here G (into q) 0 (omega arith); has-it = written_has G (into q) 0 (omega arith) })
        go (inr q) = rw (create-placed shape b y r q il, memory-is) (record { only = placed-only G (given q); here = placed-here G (given q); has-it = placed-has G (given q) })
