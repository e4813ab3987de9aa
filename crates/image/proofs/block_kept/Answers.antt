-- `image::block_kept` meets its contract: the block is tested, then its records.
use Rattle.std.proofs.Common.{◌≡◌, true, sym, ◌∙◌, arith}
use Rattle.laws.specs.Scan.{all}
use Rattle.laws.proofs.Choice.{both-when, both-false-left}
use Rattle.form.specs.Test.{count_of, block_sound, record_in, good_record}
use Rattle.form.proofs.Sound.{sound-count, count-bounds}
use Rattle.image.proofs.block_kept.Goals as goal

pub returns-then-not-block_sound : goal.returns-then-not-block_sound
returns-then-not-block_sound c = rw (both-false-left _ _ (sym c.block_sound.ensures ∙ c.if-not-block_sound.true))

pub records_good-requires : goal.records_good-requires
records_good-requires c = let a = c.args in
    (c.requires, omega (arith, c.two_at.ensures, count-bounds a.last (count_of a.block.now) (sound-count a.last a.j a.block.now (sym c.block_sound.ensures ∙ c.if-not-block_sound.false))))

pub returns : goal.returns
returns c = let a = c.args in
    let b = a.block.now in
    let s : block_sound a.last a.j b ≡ true = sym c.block_sound.ensures ∙ c.if-not-block_sound.false in
    cc (both-when (block_sound a.last a.j b) (all (good_record a.n a.low (record_in b)) (count_of b)) s)
