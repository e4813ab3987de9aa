-- DEMAND 2, the image, proved: a memory at rest is true, and a true memory is kept by its image; an image is accepted exactly if it is what writing leaves of some memory of bytes.
use mathlib.Core.Path.{◌≡◌, refl, sym, ap, ◌∙◌, subst}
use mathlib.Core.Bool.{true}
use mathlib.Core.List.{List}
use mathlib.Core.Logic.{⊎_elim}
use Prim.Native.Nat.{ℕ, zero, suc, ◌+◌, ◌*◌, ◌/◌, ◌≤◌}
use native.Mathlib.Omega.{arith}
use native.Mathlib.Decide.{ℕ_discrete}
use lib.ListN.{length}
use borrow.Author.Tests.{leb-true}
use Rattle.laws.specs.Bytes.{Bytes}
use Rattle.laws.proofs.Choice.{both_right, true-or-false}
use Rattle.geometry.specs.TagMemory.{in_limits_of, in_limits, memory_length}
use Rattle.memory.specs.PlainReading.{plain_reading}
use Rattle.memory.specs.True.{is_true}
use Rattle.rules.specs.Run.{Kept}
use Rattle.image.specs.Encode.{version2, records_of, image_of}
use Rattle.image.specs.Test.{version_in, image_test}
use Rattle.image.specs.Calls.{writing_refusal, writing_answer, restoring_refusal, restored}
use Rattle.image.proofs.Sound.{fit-2}
use Rattle.image.proofs.Records.{length-below}
use Rattle.writing.proofs.Refusals as writing
use Rattle.archive.specs.Theorems.{TrueImage}
use Rattle.archive.proofs.RoundTrip.{restoring-accepted, written-front}
use Rattle.archive.proofs.Versions.{new-own, new-accepted, new-round-trip, old-could, new-could, old-could-accepted}
use Rattle.session.specs.Session.{kept_of}
use Rattle.session.proofs.Session.{session-says, session-leaves}
use Rattle.demands.specs.Event.{events, AtRest}
use Rattle.demands.specs.Image.{Writes, image_in, KeptByImage, Demand2Image, Written, AcceptedIfWritten}
use Rattle.demands.proofs.Start.{begun, session-values}
use Rattle.demands.proofs.Demand2.{resting}

-- an answer below 4,294,967,296 is no refusal
not-refused : (n : ℕ) (memory output : List ℕ) → Writes n memory output → writing_refusal n memory (length output) ≡ 0
not-refused n memory output q = go (writing_refusal n memory (length output)) refl
  where
    go : (c : ℕ) → writing_refusal n memory (length output) ≡ c → writing_refusal n memory (length output) ≡ 0
    go zero e = e
    go (suc c) e = absurd (omega (arith, (writing.refused n memory output c e).0))

few-leaves : (n : ℕ) → in_limits n ≡ true → n ≤ 262144
unfolding in_limits_of
few-leaves n h = leb-true n 262144 (both_right _ _ h)

-- a true memory
module _ (n : ℕ) (memory : List ℕ) (h : in_limits n ≡ true) (l : length memory ≡ memory_length n) (t : is_true n memory ≡ true) where
  image-is : (output : List ℕ) → Writes n memory output → image_in n memory output ≡ image_of n memory
  image-is output q = written-front n memory output (not-refused n memory output q)

  image-short : length (image_of n memory) ≤ 512 * (1 + (n + 6) / 7)
  image-short = omega (arith, writing.length-image n memory (length (records_of n memory)) (omega arith) refl, length-below n memory n)

  -- room enough for the image
  room : (output : List ℕ) → length (image_of n memory) ≤ length output → (writing_answer n memory (length output) ≡ length (image_of n memory)) × Writes n memory output
  room output q =
      let w = writing.accepted n memory output (length (image_of n memory)) (writing.refusal-none n memory (length output) h l t q) refl in
      (sym w.0, omega (arith, w.0, image-short, few-leaves n h))

  kept : KeptByImage n memory
  kept = record {
    writes = λ output q. (room output (omega (arith, image-short))).1;
    accepted = λ output into q e. ap (λ (image : List ℕ). restoring_refusal image (length into)) (image-is output q) ∙ restoring-accepted version2 fit-2 n memory h l t (new-own n memory h l t) into e;
    restores = λ output into q e g s. ap (λ (image : List ℕ). plain_reading n (restored image into) g) (image-is output q) ∙ new-round-trip n memory h l t into e g;
  }

pub demand-2-image : Demand2Image
demand-2-image t s s' b m b' m' cs list start p r =
    let k = kept_of s b m in
    let R = resting t k (begun t s b m start) cs (session-values p) (subst (λ z. AtRest (events cs z)) (session-says p) r) in
    subst (λ (z : Kept). KeptByImage s.shape.n z.memory) (sym (session-leaves p)) (kept s.shape.n _ R.limits R.long R.is_true_lem)

-- writing was accepted, so the memory is true
module _ (n : ℕ) (memory : List ℕ) (c : ℕ) (e : writing_refusal n memory c ≡ 0) where
  in-limit : in_limits n ≡ true
  in-limit = ⊎_elim (λ h. h) (λ h. absurd (omega (arith, e, writing.refusal-1 n memory c h))) (true-or-false (in_limits n))

  right-length : length memory ≡ memory_length n
  right-length = go (ℕ_discrete (length memory) (memory_length n))
    where
      go : Dec (length memory ≡ memory_length n) → length memory ≡ memory_length n
      go (yes q) = q
      go (no q) = absurd (omega (arith, e, writing.refusal-2 n memory c in-limit q))

  true-memory : is_true n memory ≡ true
  true-memory = ⊎_elim (λ h. h) (λ h. absurd (omega (arith, e, writing.refusal-3 n memory c in-limit right-length h))) (true-or-false (is_true n memory))

pub accepted-if-written : AcceptedIfWritten
accepted-if-written = record { only = only; all = all; old-only = old-could; old-all = old-could-accepted }
  where
    only : (image : List ℕ) → Bytes image → image_test image ≡ 0 → (version_in image ≡ 1 → ⊥) → Written image
    only image B e v =
        let I : TrueImage version2 image = new-could image B e v in
        record {
          n = I.n;
          memory = I.mem;
          bytes = I.is-bytes;
          writes = λ output q.
              let w = (room I.n I.mem I.limits I.long I.true-memory output (omega (arith, q, ap length I.same))).1 in
              (w, image-is I.n I.mem I.limits I.long I.true-memory output w ∙ I.same);
        }

    all : (image : List ℕ) → Written image → image_test image ≡ 0
    all image W =
        let w = W.writes image refl in
        let e = not-refused W.n W.memory image w.0 in
        let h = in-limit W.n W.memory (length image) e in
        let l = right-length W.n W.memory (length image) e in
        let t = true-memory W.n W.memory (length image) e in
        ap image_test (sym w.1 ∙ image-is W.n W.memory h l t image w.0) ∙ new-accepted W.n W.memory h l t
