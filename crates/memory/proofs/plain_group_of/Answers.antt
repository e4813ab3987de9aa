-- Where the leaf does not count zero, where it does the group at its place.
use mathlib.Core.Path.{◌≡◌, sym, ◌∙◌}
use mathlib.Core.Bool.{true}
use Rattle.geometry.specs.TagMemory.{leaf_of}
use Rattle.memory.specs.PlainReading.{counts}
use Rattle.memory.proofs.Reading.{counts-leaf_of, plain_group_of-0, plain_group_of-1}
use Rattle.memory.proofs.plain_group_of.Goals as goal

pub returns-then-not-counts : goal.returns-then-not-counts
returns-then-not-counts c =
    let a = c.args in
    sym (plain_group_of-0 a.top a.n a.memory.now a.g (counts-leaf_of a.top a.n a.memory.now a.g c.counts.ensures c.leaf_of.ensures ∙ c.if-not-counts.true))

pub returns : goal.returns
returns c =
    let a = c.args in
    let leaf : counts a.top 0 a.n a.memory.now (leaf_of a.g) ≡ true =
    counts-leaf_of a.top a.n a.memory.now a.g c.counts.ensures c.leaf_of.ensures ∙ c.if-not-counts.false in
    cc (plain_group_of-1 a.top a.n a.memory.now a.g leaf)
