-- DEMAND 2, the image: "The image written from it restores that row, and an image is accepted only if the writer could have written it."
use Rattle.std.specs.Prelude.{◌≡◌, List, ℕ, ◌+◌, ◌*◌, ◌/◌, ◌≤◌, ◌<◌, length, take}
use Rattle.laws.specs.Bytes.{Bytes}
use Rattle.geometry.specs.TagMemory.{groups, memory_length}
use Rattle.memory.specs.PlainReading.{plain_reading}
use Rattle.tracker.specs.declared.Answer.{Answer}
use Rattle.rules.specs.Run.{Call}
use Rattle.cache.specs.declared.State.{State}
use Rattle.session.specs.Session.{Starts, Session, said}
use Rattle.image.specs.Encode.{version1}
use Rattle.image.specs.Test.{version_in, image_test}
use Rattle.image.specs.Calls.{writing_answer, written, restoring_refusal, restored}
use Rattle.archive.specs.Theorems.{TrueImage}
use Rattle.demands.specs.Event.{events, AtRest}

-- writing was accepted: its answer is no refusal
abbrev pub Writes : ℕ → (memory output : List ℕ) → Type 0
Writes n memory output = writing_answer n memory (length output) < 4294967296

-- what it leaves in front of the output, as long as it answers
abbrev pub image_in : ℕ → (memory output : List ℕ) → List ℕ
image_in n memory output = take (writing_answer n memory (length output)) (written n memory output)

-- A memory of n leaves is kept by its image. 512 bytes, and 512 for each 7 leaves, are room enough to write it; what was written is restored into any bytes of the
-- length, and reads as the memory does.
pub record KeptByImage (n : ℕ) (memory : List ℕ) : Type 0 where
  pub writes : (output : List ℕ) → 512 * (1 + (n + 6) / 7) ≤ length output → Writes n memory output
  pub accepted : (output into : List ℕ) → Writes n memory output → length into ≡ memory_length n → restoring_refusal (image_in n memory output) (length into) ≡ 0
  pub restores : (output into : List ℕ) → Writes n memory output → length into ≡ memory_length n
      → (g : ℕ) → g < groups n → plain_reading n (restored (image_in n memory output) into) g ≡ plain_reading n memory g

-- of every session of the code that begins with an accepted fresh or open, at rest
abbrev pub Demand2Image : Type 0
Demand2Image = (t : ℕ) (s s' : State) (b m b' m' : List ℕ) (cs : List Call) (answers : List Answer) → Starts t s b m → Session s b m cs answers s' b' m'
    → AtRest (events cs (said answers)) → KeptByImage s.shape.n m'

-- The writer could have written this image: it does so from some memory of real bytes, whatever the output was.
pub record Written (image : List ℕ) : Type 0 where
  pub n : ℕ
  pub memory : List ℕ
  pub bytes : Bytes memory
  pub writes : (output : List ℕ) → length output ≡ length image → Writes n memory output × (image_in n memory output ≡ image)

-- An image is accepted only if it could, and if it could. "Version 1 still reads by its old rule, and for it demand 2's last clause means the old writer."
pub record AcceptedIfWritten : Type 0 where
  pub only : (image : List ℕ) → Bytes image → image_test image ≡ 0 → (version_in image ≡ 1 → ⊥) → Written image
  pub all : (image : List ℕ) → Written image → image_test image ≡ 0
  pub old-only : (image : List ℕ) → Bytes image → image_test image ≡ 0 → version_in image ≡ 1 → TrueImage version1 image
  pub old-all : (image : List ℕ) → TrueImage version1 image → image_test image ≡ 0
