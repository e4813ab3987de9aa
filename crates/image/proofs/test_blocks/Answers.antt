-- `image::test_blocks` meets its contract: the blocks before block j are tested, one after the other.
use Rattle.std.proofs.Common.{◌*◌, ℕ, List, not, sym, ap, ◌∙◌, arith}
use Rattle.laws.proofs.Put.{part-is}
use Rattle.form.specs.Test.{form_in, form_of, head_sound}
use Rattle.form.proofs.Rules.{tested-head, wrong-check, broken, miscounted, is-kept}
use Rattle.image.proofs.Kept.{checked, is_some-then, first-low, kept_more, kept_not}
use Rattle.image.proofs.test_blocks.Goals as goal
use Rattle.image.proofs.test_blocks.Goals.{in-Some, in_default, then-is_none-via-then-is_none, then-is_none-via-else-is_none+then-recorded_in-record_count}

pub returns-then-not-check_right : goal.returns-then-not-check_right
returns-then-not-check_right c = let m = c.args.image.now in
    sym (wrong-check (form_of m) m 0 (omega arith) (checked m 0 _ _ c.version_in-version.ensures (part-is m 0 512) c.check_right.ensures ∙ c.if-not-check_right.true))

pub loop-j-init : goal.loop-j-init
loop-j-init c = let m = c.args.image.now in
    let sound = c.head_sound.result in
    let tested = tested-head (form_of m) m sound (omega arith) (checked m 0 _ _ c.version_in-version.ensures (part-is m 0 512) c.check_right.ensures ∙ c.if-not-check_right.false)
    (c.head_sound.ensures ∙ ap (λ (b : List ℕ). head_sound (form_in b) b) (part-is m 0 512)) in
    rw (c.then_some-kept.ensures, is_some-then sound 0, first-low sound) tested

pub returns-then-not-check_right-2 : goal.returns-then-not-check_right-2
returns-then-not-check_right-2 c = let m = c.args.image.now in
    let j = c.loop-j.j in
    sym (wrong-check (form_of m) m j (omega arith) (checked m j _ _ c.version_in-version.ensures (part-is m (512 * j) 512) c.check_right-in-loop-j.ensures ∙ c.if-not-check_right-2.true))

pub loop-j-preserved : goal.loop-j-preserved
loop-j-preserved c = let m = c.args.image.now in
    let F = form_of m in
    let l = c.loop-j in
    let b = part-is m (512 * l.j) 512 in
    let right = checked m l.j _ _ c.version_in-version.ensures b c.check_right-in-loop-j.ensures ∙ c.if-not-check_right-2.false in
    elim c.match-kept.branch [
      | in-Some w ↦ kept_more F m l.j l.kept c.match-kept.kept _ l.invariant (omega arith) right w.in-Some.is (cc b)
      | in_default w ↦ rw w.kept-is (kept_not F m l.j l.kept l.invariant (omega arith) right w.in_default.is)
    ]

pub returns-then-is_none : goal.returns-then-is_none
returns-then-is_none c = let m = c.args.image.now in
    let l = c.loop-j in
    elim c.then-is_none.branch [
      | then-is_none-via-then-is_none w ↦ sym (broken (form_of m) m c.requires.0 c.requires.1 _ _ l.j l.invariant (omega arith) (c.is_none.ensures ∙ ap not w.if-is_none.true))
      | then-is_none-via-else-is_none+then-recorded_in-record_count w ↦
          sym (miscounted (form_of m) m c.requires.0 c.requires.1 _ _ l.j l.invariant (omega arith) (λ e. w.if-recorded_in-record_count.true (w.recorded_in.ensures ∙ e ∙ sym w.record_count.ensures)))
    ]

pub returns : goal.returns
returns c = let m = c.args.image.now in
    let l = c.loop-j in
    sym (is-kept (form_of m) m c.requires.0 c.requires.1 _ _ l.j l.invariant (omega arith) (c.is_none.ensures ∙ ap not c.if-is_none.false) (sym c.recorded_in.ensures ∙ c.if-recorded_in-record_count.false ∙ c.record_count.ensures))
