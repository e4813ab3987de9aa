-- What each block holds now: its line's bytes if a line has it, else memory's. One change of one line, and what it does to every block.
use mathlib.Core.Path.{◌≡◌, refl, sym, ap, ◌∙◌}
use mathlib.Core.Bool.{true, false}
use mathlib.Core.List.{List}
use mathlib.Core.Logic.{◌⊎◌, inl, inr, ⊎_elim}
use Prim.Native.Nat.{ℕ, ◌*◌, ◌<◌}
use lib.Dec.{ltb}
use borrow.Author.Tests.{lt-ltb, le-ltb}
use lib.ListN.{length, set}
use Rattle.laws.specs.Choice.{pick}
use Rattle.laws.proofs.Splice.{lt-or-ge}
use Rattle.memory.specs.True.{block_at}
use Rattle.line.specs.Word.{used, block_of, changed}
use Rattle.line.specs.Find.{line_of}
use Rattle.rules.specs.State.{Rows}
use Rattle.rules.specs.Place.{line_bytes}
use Rattle.rules.proofs.Lined.{at, Has, Apart, low, line_of-is, line_of-has, line_of-none, at_same, at_other, new-or-old, has_other, has_here, set_apart}

-- the bytes of block b now
unfoldable pub content : ℕ → Rows → ℕ → List ℕ
content l r b = pick (ltb (line_of r.lines l b) l) (line_bytes r.bytes (line_of r.lines l b)) (block_at r.memory b)

-- B blocks exist and l lines have bytes, the lines are whole by themselves, and clean lines equal memory
pub record Good (B l : ℕ) (r : Rows) : Type 0 where
  pub bytes-long : length r.bytes ≡ 64 * l
  pub memory-long : length r.memory ≡ 64 * B
  pub apart : Apart B l r.lines
  pub clean : (i b : ℕ) → Has r.lines i b → changed (at r.lines i) ≡ false → line_bytes r.bytes i ≡ block_at r.memory b

module _ {B l : ℕ} {r : Rows} (G : Good B l r) where
  -- a block has a line, or has none
  pub lined-or-not : (b : ℕ) → ((i : ℕ) × Has r.lines i b) ⊎ ((i : ℕ) → Has r.lines i b → ⊥)
  lined-or-not b = ⊎_elim (λ q. inl (line_of r.lines l b, line_of-has r.lines l b q))
      (λ q. inr (λ i h. line_of-none r.lines l b i q (low G.apart i b h) h)) (lt-or-ge (line_of r.lines l b) l)

  pub content-in : (i b : ℕ) → Has r.lines i b → content l r b ≡ line_bytes r.bytes i
  unfolding content
  content-in i b h = let q = low G.apart i b h in rw (line_of-is G.apart i b h, lt-ltb i l q)

  pub content-out : (b : ℕ) → ((i : ℕ) → Has r.lines i b → ⊥) → content l r b ≡ block_at r.memory b
  unfolding content
  content-out b n = ⊎_elim (λ q. absurd (n _ (line_of-has r.lines l b q))) (λ q. rw (le-ltb (line_of r.lines l b) l q)) (lt-or-ge (line_of r.lines l b) l)

-- line i becomes w with the bytes y; of memory only the block that line i had may change
pub record Change (B l : ℕ) (r : Rows) (i w : ℕ) (bytes' memory' y : List ℕ) : Type 0 where
  pub line-lt : i < l
  pub bytes-long : length bytes' ≡ 64 * l
  pub memory-long : length memory' ≡ 64 * B
  pub here : line_bytes bytes' i ≡ y
  pub there : (j : ℕ) → j < l → (j ≡ i → ⊥) → line_bytes bytes' j ≡ line_bytes r.bytes j
  pub rest : (b : ℕ) → b < B → (Has r.lines i b → ⊥) → block_at memory' b ≡ block_at r.memory b
  pub exists : used w ≡ true → block_of w < B
  pub alone : used w ≡ true → (j : ℕ) → (j ≡ i → ⊥) → Has r.lines j (block_of w) → ⊥
  pub clean : used w ≡ true → changed w ≡ false → y ≡ block_at memory' (block_of w)

module _ {B l : ℕ} {r : Rows} (G : Good B l r) {i w : ℕ} {bytes' memory' y : List ℕ} (c : Change B l r i w bytes' memory' y) where
  abbrev pub new : Rows
  new = record { lines = set r.lines i w; bytes = bytes'; memory = memory' }

  pub change-good : Good B l new
  change-good = record {
    bytes-long = c.bytes-long;
    memory-long = c.memory-long;
    apart = set_apart G.apart i w c.line-lt c.exists c.alone;
    clean = λ j b h e. cleans j b e (new-or-old G.apart i w c.line-lt j b h);
  }
    where
      cleans : (j b : ℕ) → changed (at (set r.lines i w) j) ≡ false → ((j ≡ i) × (used w ≡ true) × (block_of w ≡ b)) ⊎ ((j ≡ i → ⊥) × Has r.lines j b)
          → line_bytes bytes' j ≡ block_at memory' b
      cleans j b e (inl o) =
          let f : changed w ≡ false = ap changed (sym (rw o.0 (at_same G.apart i w c.line-lt))) ∙ e in
          rw (o.0, ← o.2) (c.here ∙ c.clean o.1 f)
      cleans j b e (inr o) =
          let h = o.1 in
          let f : changed (at r.lines j) ≡ false = ap changed (sym (at_other G.apart i w c.line-lt j o.0)) ∙ e in
          c.there j (low G.apart j b h) o.0 ∙ G.clean j b h f ∙ sym (c.rest b (G.apart.exists j b h) (λ hi. o.0 (G.apart.one j i b h hi)))

  -- the block that the line has now
  pub change-here : used w ≡ true → content l new (block_of w) ≡ y
  change-here u = content-in change-good i (block_of w) (has_here G.apart i w c.line-lt (block_of w) u refl) ∙ c.here

  -- a block that the line had not and has not
  pub change-other : (b : ℕ) → b < B → (Has r.lines i b → ⊥) → (used w ≡ true → block_of w ≡ b → ⊥) → content l new b ≡ content l r b
  change-other b bl n m = go (lined-or-not G b)
    where
      go : ((j : ℕ) × Has r.lines j b) ⊎ ((j : ℕ) → Has r.lines j b → ⊥) → content l new b ≡ content l r b
      go (inl o) =
          let ne : o.0 ≡ i → ⊥ = (λ q. n (rw q at o.1)) in
          content-in change-good o.0 b (has_other G.apart i w c.line-lt o.0 b ne o.1) ∙ c.there o.0 (low G.apart o.0 b o.1) ne ∙ sym (content-in G o.0 b o.1)
      go (inr o) =
          content-out change-good b (λ j h. ⊎_elim (λ p. m p.1 p.2) (λ p. o j p.1) (new-or-old G.apart i w c.line-lt j b h))
          ∙ c.rest b bl n ∙ sym (content-out G b o)

  -- the block that the line had and has no more
  pub change-gone : (b : ℕ) → Has r.lines i b → (used w ≡ true → block_of w ≡ b → ⊥) → content l new b ≡ block_at memory' b
  change-gone b h m = content-out change-good b (λ j h'. ⊎_elim (λ p. m p.1 p.2) (λ p. p.0 (G.apart.one j i b p.1 h)) (new-or-old G.apart i w c.line-lt j b h'))

-- each block in memory is as it was, or was written back as it is
abbrev pub Backed : (B l : ℕ) (r r' : Rows) → Type 0
Backed B l r r' = (b : ℕ) → b < B → (block_at r'.memory b ≡ block_at r.memory b) ⊎ (block_at r'.memory b ≡ content l r b)

-- rows that have the same contents, and no other block in a line
pub record Same (B l : ℕ) (r r' : Rows) : Type 0 where
  pub good : Good B l r'
  pub backed : Backed B l r r'
  pub same : (b : ℕ) → b < B → content l r' b ≡ content l r b
  pub had : (j b : ℕ) → Has r'.lines j b → Has r.lines j b

pub same_none : {B l : ℕ} {r : Rows} → Good B l r → Same B l r r
same_none G = record { good = G; backed = λ b q. inl refl; same = λ b q. refl; had = λ j b h. h }

-- and memory is as it was: marks may differ
pub record Marked (B l : ℕ) (r r' : Rows) : Type 0 where
  pub same : Same B l r r'
  pub memory-is : r'.memory ≡ r.memory

-- words change, and none says otherwise of its block: whether there is one, which, and whether it is changed
pub record Marks (lines lines' : List ℕ) : Type 0 where
  pub long : length lines' ≡ length lines
  pub says-used : (j : ℕ) → used (at lines' j) ≡ used (at lines j)
  pub says-block : (j : ℕ) → block_of (at lines' j) ≡ block_of (at lines j)
  pub says-changed : (j : ℕ) → changed (at lines' j) ≡ changed (at lines j)

-- contents stay then
module _ {B l : ℕ} {r : Rows} (G : Good B l r) {lines' : List ℕ} (m : Marks r.lines lines') where
  abbrev pub marked : Rows
  marked = record { lines = lines'; bytes = r.bytes; memory = r.memory }

  marked-had : (j b : ℕ) → Has lines' j b → Has r.lines j b
  marked-had j b h = record { is-used = sym (m.says-used j) ∙ h.is-used; is_block = sym (m.says-block j) ∙ h.is_block }

  marked-has : (j b : ℕ) → Has r.lines j b → Has lines' j b
  marked-has j b h = record { is-used = m.says-used j ∙ h.is-used; is_block = m.says-block j ∙ h.is_block }

  marked-good : Good B l marked
  marked-good = record {
    bytes-long = G.bytes-long;
    memory-long = G.memory-long;
    apart = record {
      long = rw m.long G.apart.long;
      above = λ j q. m.says-used j ∙ G.apart.above j q;
      exists = λ j b h. G.apart.exists j b (marked-had j b h);
      one = λ j k b h h'. G.apart.one j k b (marked-had j b h) (marked-had k b h');
    };
    clean = λ j b h e. G.clean j b (marked-had j b h) (sym (m.says-changed j) ∙ e);
  }

  marked-content : (b : ℕ) → content l marked b ≡ content l r b
  marked-content b = go (lined-or-not G b)
    where
      go : ((j : ℕ) × Has r.lines j b) ⊎ ((j : ℕ) → Has r.lines j b → ⊥) → content l marked b ≡ content l r b
      go (inl o) = content-in marked-good o.0 b (marked-has o.0 b o.1) ∙ sym (content-in G o.0 b o.1)
      go (inr o) = content-out marked-good b (λ j h. o j (marked-had j b h)) ∙ sym (content-out G b o)

  pub marks-marked : Marked B l r marked
  marks-marked = record { same = record { good = marked-good; backed = λ b q. inl refl; same = λ b q. marked-content b; had = marked-had }; memory-is = refl }
