-- Each call of 01 has one result, by its own contract: the answer and what it leaves equal a definition.
use mathlib.Core.Path.{◌≡◌, sym, ◌∙◌}
use lib.ListN.{length}
use Prim.Native.Nat.{◌<◌}
use Rattle.std.specs.Prelude.{IfOk}
use Rattle.laws.specs.Refusal.{refused_with, given}
use Rattle.laws.proofs.Told.{given-one, refused-one, answer-one}
use Rattle.memory.specs.PlainReading.{plain_reading}
use Rattle.reader.proofs.One.{read-at-one}
use Rattle.image.specs.Test.{image_test}
use Rattle.image.specs.Calls.{writing_refusal, writing_answer, written, restoring_refusal, restored}
use Rattle.play.specs.Play.{plays}
use Rattle.play.specs.Seen.{left}
use Rattle.session.specs.Session.{kept_of}
use Rattle.memory.proofs.plain_reading.Kinds as plain-reading-kinds
use Rattle.memory.proofs.plain_reading.Reads as plain-reading
use Rattle.cache.proofs.One.{did-one, bytes_one, memory-one, told_one}
use Rattle.cache.proofs.State.fresh.Kinds as fresh-kinds
use Rattle.cache.proofs.State.fresh.Reads as fresh
use Rattle.cache.proofs.State.open.Kinds as open-kinds
use Rattle.cache.proofs.State.open.Reads as opened
use Rattle.cache.proofs.State.issue.Kinds as issue-kinds
use Rattle.cache.proofs.State.issue.Reads as issue
use Rattle.cache.proofs.State.step.Kinds as step-kinds
use Rattle.cache.proofs.State.step.Reads as step
use Rattle.cache.proofs.State.drain.Kinds as drain-kinds
use Rattle.cache.proofs.State.drain.Reads as drain
use Rattle.cache.proofs.State.show.Kinds as show-kinds
use Rattle.cache.proofs.State.show.Reads as show
use Rattle.cache.proofs.State.can_show.Kinds as can-show-kinds
use Rattle.cache.proofs.State.can_show.Reads as can_show
use Rattle.image.proofs.image_test.Kinds as image-test-kinds
use Rattle.image.proofs.image_test.Reads as image-test
use Rattle.writing.proofs.write_image.Kinds as write-image-kinds
use Rattle.writing.proofs.write_image.Reads as write-image
use Rattle.restoring.proofs.restore.Kinds as restore-kinds
use Rattle.restoring.proofs.restore.Reads as restore
use Rattle.reader.proofs.read_at.Kinds as read-at-kinds
use Rattle.reader.proofs.read_at.Reads as read_at
use Rattle.play.proofs.One.{one-play, one-refuse-all}
use Rattle.play.proofs.play.Kinds as play-kinds
use Rattle.play.proofs.play.Reads as play
use Rattle.play.proofs.refuse_all.Kinds as refuse-all-kinds
use Rattle.play.proofs.refuse_all.Reads as refuse-all
use Rattle.play.proofs.begin.Kinds as begin-kinds
use Rattle.play.proofs.begin.Reads as begin
use Rattle.demands.specs.Demand1.{OfAnyTwo, OfAny}

pub one-plain-reading : OfAnyTwo plain-reading-kinds.ps plain-reading-kinds.r plain-reading.Post (λ κs x y s t. x ≡ y)
one-plain-reading κs a x y s t p q = given-one x y p.1 q.1 (p.0 ∙ sym q.0)

pub one-fresh : OfAnyTwo fresh-kinds.ps fresh-kinds.r fresh.Post (λ κs x y s t. (x ≡ y) × (s.1.1.1.1.0.now ≡ t.1.1.1.1.0.now))
one-fresh κs a x y s t p q = (did-one x y _ _ _ _ (p ∙ sym q), memory-one x y _ _ _ _ (p ∙ sym q))

pub one-open : OfAnyTwo open-kinds.ps open-kinds.r opened.Post (λ κs x y s t. x ≡ y)
one-open κs a x y s t p q = did-one x y _ _ _ _ (p ∙ sym q)

pub one-issue : OfAnyTwo issue-kinds.ps issue-kinds.r issue.Post (λ κs x y s t. x ≡ y)
one-issue κs a x y s t p q = did-one x y _ _ _ _ (p ∙ sym q)

pub one-step : OfAnyTwo step-kinds.ps step-kinds.r step.Post (λ κs x y s t. (x ≡ y) × (s.1.0.now ≡ t.1.0.now) × (s.1.1.0.now ≡ t.1.1.0.now))
one-step κs a x y s t p q = (did-one x y _ _ _ _ (p ∙ sym q), bytes_one x y _ _ _ _ (p ∙ sym q), memory-one x y _ _ _ _ (p ∙ sym q))

pub one-drain : OfAnyTwo drain-kinds.ps drain-kinds.r drain.Post (λ κs x y s t. (x ≡ y) × (s.1.1.0.now ≡ t.1.1.0.now))
one-drain κs a x y s t p q = (did-one x y _ _ _ _ (p ∙ sym q), memory-one x y _ _ _ _ (p ∙ sym q))

-- the bytes shown; where they lie, the type says
pub one-show : OfAnyTwo show-kinds.ps show-kinds.r show.Post (λ κs x y s t. x.now ≡ y.now)
one-show κs a x y s t p q = p ∙ sym q

pub one-show-refusal : OfAnyTwo can-show-kinds.ps can-show-kinds.r can_show.Post (λ κs x y s t. x ≡ y)
one-show-refusal κs a x y s t p q = told_one x y p q

pub one-image-test : OfAnyTwo image-test-kinds.ps image-test-kinds.r image-test.Post (λ κs x y s t. x ≡ y)
one-image-test κs a x y s t p q = refused-one x y (p ∙ sym q)

pub one-write-image : OfAnyTwo write-image-kinds.ps write-image-kinds.r write-image.Post (λ κs x y s t. (x ≡ y) × (s.1.1.0.now ≡ t.1.1.0.now))
one-write-image κs a x y s t p q = (answer-one x y (p.0 ∙ sym q.0) (p.1 ∙ sym q.1), p.2 ∙ sym q.2)

pub one-restore : OfAnyTwo restore-kinds.ps restore-kinds.r restore.Post (λ κs x y s t. (x ≡ y) × (s.1.0.now ≡ t.1.0.now))
one-restore κs a x y s t p q = (refused-one x y (p.0 ∙ sym q.0), p.1 ∙ sym q.1)

pub one-read-at : OfAnyTwo read-at-kinds.ps read-at-kinds.r read_at.Post (λ κs x y s t. x ≡ y)
one-read-at κs a x y s t p q = read-at-one a.0.now a.1.0 p q

pub one-begin-line : OfAnyTwo begin-kinds.ps begin-kinds.r begin.Post (λ κs x y s t. (x ≡ y) × (s.1.1.0.now ≡ t.1.1.0.now))
one-begin-line κs a x y s t p q = (did-one x y _ _ _ _ (p ∙ sym q), memory-one x y _ _ _ _ (p ∙ sym q))

pub one-play-chunk : OfAnyTwo play-kinds.ps play-kinds.r play.Post
    (λ κs x y s t. (x ≡ y) × (s.1.1.1.0.now ≡ t.1.1.1.0.now) × (s.1.1.1.1.0.now ≡ t.1.1.1.1.0.now) × (s.1.1.1.1.1.0.now ≡ t.1.1.1.1.1.0.now))
one-play-chunk κs a x y s t p q = one-play _ _ _ _ x y _ _ _ _ _ _ p q

pub one-refuse-chunk : OfAnyTwo refuse-all-kinds.ps refuse-all-kinds.r refuse-all.Post (λ κs x y s t. (x ≡ y) × (s.1.1.0.now ≡ t.1.1.0.now))
one-refuse-chunk κs a x y s t p q = one-refuse-all _ _ _ x y _ _ p q

-- What the demands say of plain reading, of images and of a chunk of a script is said of these calls: the equation is the contract's own.
pub plain-reading-is : OfAny plain-reading-kinds.ps plain-reading-kinds.r plain-reading.Post
    (λ κs a x s. (given x ≡ plain_reading a.0 a.1.0.now a.1.1.0) × IfOk x (λ v. v < 4294967296))
plain-reading-is κs a x s p = p

pub image-test-is : OfAny image-test-kinds.ps image-test-kinds.r image-test.Post (λ κs a x s. refused_with x ≡ image_test a.0.now)
image-test-is κs a x s p = p

pub write-image-is : OfAny write-image-kinds.ps write-image-kinds.r write-image.Post
    (λ κs a x s. (given x ≡ writing_answer a.0 a.1.0.now (length a.1.1.0.now)) × (refused_with x ≡ writing_refusal a.0 a.1.0.now (length a.1.1.0.now)) × (s.1.1.0.now ≡ written a.0 a.1.0.now a.1.1.0.now))
write-image-is κs a x s p = p

pub restore-is : OfAny restore-kinds.ps restore-kinds.r restore.Post
    (λ κs a x s. (refused_with x ≡ restoring_refusal a.0.now (length a.1.0.now)) × (s.1.0.now ≡ restored a.0.now a.1.0.now))
restore-is κs a x s p = p

pub play-is : OfAny play-kinds.ps play-kinds.r play.Post
    (λ κs a x s. left x s.1.1.1.0.now s.1.1.1.1.0.now s.1.1.1.1.1.0.now
    ≡ plays (kept_of a.0 a.1.1.1.0.now a.1.1.1.1.0.now) a.1.0 a.1.1.0.now a.1.1.1.1.1.0.now)
play-is κs a x s p = p
