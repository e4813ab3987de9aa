-- 02 E4: the copies that a step makes, rule by rule: "Bringing in and placing must report both, so every step that uses them does too".
use Rattle.std.specs.Prelude.{List, [], ◌∷◌, ℕ, suc, ◌+◌, ◌-◌, ◌*◌, eqb, ltb, get_or}
use Rattle.geometry.specs.declared.Shape.{Shape}
use Rattle.geometry.specs.Shape.{top_of}
use Rattle.geometry.specs.TagMemory.{block_over, block_place}
use Rattle.laws.specs.Choice.{pick, both}
use Rattle.laws.specs.Bytes.{put_w}
use Rattle.tracker.specs.declared.Phase.{Phase}
use Rattle.tracker.specs.declared.Phase.TheVariants.{Idle, Probe, Top, Under, Set, Clear}
use Rattle.tracker.specs.declared.Tracker.{Tracker}
use Rattle.line.specs.Word.{held}
use Rattle.line.specs.Find.{line_of}
use Rattle.rules.specs.State.{Rows}
use Rattle.rules.specs.Copies.{Copy}
use Rattle.rules.specs.Place.{line_bytes, bring_copies, create_copies}
use Rattle.rules.specs.Step.{own_line, bit_in}

-- the copies of a step of a tracker at each phase: Top brings in its block unless another holds it; the steps under it bring in theirs, but for a write under bit 0,
-- which creates its block: a map block of zeros, or a leaf unless the value is 0
abbrev pub copies_at : Shape → Tracker → Rows → Phase → List Copy
copies_at shape t r Idle = []
copies_at shape t r (Probe d) = []
copies_at shape t r Top =
    let i = own_line shape t r (top_of shape) in
    pick (both (ltb i shape.l) (held (get_or r.lines i 0))) [] (bring_copies shape (block_over (top_of shape) shape.n t.group) r)
copies_at shape t r (Under d) =
    let b = block_over d shape.n t.group in
    pick (both t.write (eqb (bit_in r.bytes (own_line shape t r (suc d)) d t.group) 0))
    (pick (both (eqb d 0) (eqb t.value 0)) [] (create_copies shape b r)) (bring_copies shape b r)
copies_at shape t r (Set d) = []
copies_at shape t r (Clear d) = []

-- the copies of one step of tracker t
unfoldable pub copies : Shape → Tracker → Rows → List Copy
copies shape t r = copies_at shape t r t.phase

-- a memory once these blocks are written back, one after another: each from its line to its own place
unfoldable pub backed : (l : ℕ) → Rows → (memory : List ℕ) → List ℕ → List ℕ
backed l r memory [] = memory
backed l r memory (b ∷ bs) = backed l r (put_w 64 memory (block_place b) (line_bytes r.bytes (line_of r.lines l b))) bs

-- P holds of each of these blocks
abbrev pub Each : (ℕ → Type 0) → List ℕ → Type 0
Each P [] = Unit {0}
Each P (b ∷ bs) = P b × Each P bs

-- The most copies of an access that has come to a phase, or, at Idle, that has ended: one block in and one out for each level that it has come down; a leaf that is
-- created is not fetched.
abbrev pub most_at : (top : ℕ) → Phase → ℕ
most_at top Idle = 2 * suc top
most_at top (Probe d) = 0
most_at top Top = 0
most_at top (Under d) = 2 * (top - d)
most_at top (Set d) = 2 * top + 1
most_at top (Clear d) = 2 * suc top
