-- Parts of Top and Finish, as the functions here have them.
use Rattle.std.specs.Prelude.{List, true, ℕ, get_or, set}
use Rattle.tracker.specs.declared.Phase.TheVariants.{Under}
use Rattle.tracker.specs.declared.Tracker.{Tracker}
use Rattle.line.specs.Word.{block_of, holder, word}
use Rattle.rules.specs.Place.{Brought, with_lines}
use Rattle.rules.specs.Step.{Turned, goes, lines_held_by}

-- "Otherwise hold the map block, on to Leaf.": b has the block of level d + 1 in its line
abbrev pub holds_it : (x d : ℕ) → Tracker → Brought → Turned
holds_it x d t b = goes t (Under d) b.copies b.shape (with_lines b.rows (lines_held_by b.rows.lines b.line x))

-- "the map line is changed": line j, which names whom it named
abbrev pub changed_at : List ℕ → ℕ → List ℕ
changed_at lines j =
    let w = get_or lines j 0 in
    set lines j (word (block_of w) true (holder w))
