-- 02, E13: fresh, read, write and synchronising over lent tags and bits, each with its refusals in order.
use Rattle.std.specs.Prelude.{List, [], ◌∷◌, ◌++◌, ℕ, ◌+◌, eqb, ltb, length, replicate}
use Rattle.laws.specs.Choice.{pick, both}
use Rattle.laws.specs.Refusal.{Tests, refusal, unless}
use Rattle.geometry.specs.TagMemory.{groups, in_limits, block_place, group_place}
use Rattle.block.specs.Block.{put_group}
use Rattle.prediction.specs.Runs.{is_run, run_of, runs, group_in, bits_length, run_bit, put_run_bit, any_in}

-- what a caller lends
pub record Lent : Type 0 where
  pub tags : List ℕ
  pub bits : List ℕ

abbrev pub lent : List ℕ → List ℕ → Lent
lent tags bits = record { tags = tags; bits = bits }

-- what a call answers, and the lent bytes that it leaves
pub record Done : Type 0 where
  pub answer : ℕ
  pub lent : Lent

abbrev pub done : ℕ → Lent → Done
done answer s = record { answer = answer; lent = s }

-- a refused call answers "4,294,967,296 plus the refusal", and all lent bytes stay as they came
abbrev pub refused : ℕ → ℕ
refused k = 4294967296 + k

-- "Refusals: 1, 15 for another c, 2, 6 for a group or run out of range": t and b are the lent lengths
abbrev pub lent_tests : (n c t b : ℕ) → Tests
lent_tests n c t b = (in_limits n, 1) ∷ (is_run c, 15) ∷ (both (eqb t (block_place n)) (eqb b (bits_length n c)), 2) ∷ []

abbrev pub group_tests : (n c t b g : ℕ) → Tests
group_tests n c t b g = lent_tests n c t b ++ (ltb g (groups n), 6) ∷ []

abbrev pub run_tests : (n c t b r : ℕ) → Tests
run_tests n c t b r = lent_tests n c t b ++ (ltb r (runs n c), 6) ∷ []

-- "Tags and bits start at zero": every lent byte
unfoldable pub fresh : ℕ → ℕ → Lent → Done
fresh n c s =
    unless (refusal (lent_tests n c (length s.tags) (length s.bits)))
    (done 0 (lent (replicate (length s.tags) 0) (replicate (length s.bits) 0)))
    (λ no. done (refused no) s)

-- "A read under bit 0 answers 0 without touching the tags; under bit 1 it reads them."
unfoldable pub group_read : ℕ → Lent → ℕ → ℕ
group_read c s g = pick (eqb (run_bit s.bits (run_of c g)) 1) (group_in s.tags g) 0

unfoldable pub read : ℕ → ℕ → Lent → ℕ → ℕ
read n c s g = unless (refusal (group_tests n c (length s.tags) (length s.bits) g)) (group_read c s g) refused

-- "The bit is set when a group in the run is written non-zero and stays set when it becomes zero."
unfoldable pub marked : ℕ → List ℕ → ℕ → ℕ → List ℕ
marked c bits g v = pick (eqb v 0) bits (put_run_bit bits (run_of c g) 1)

unfoldable pub write : ℕ → ℕ → Lent → ℕ → ℕ → Done
write n c s g v =
    unless (refusal (group_tests n c (length s.tags) (length s.bits) g))
    (done 0 (lent (put_group s.tags (group_place g) v) (marked c s.bits g v)))
    (λ no. done (refused no) s)

-- "Clearing happens only by synchronising one run, which reads its groups and sets the bit to whether any is non-zero."
unfoldable pub synchronise : ℕ → ℕ → Lent → ℕ → Done
synchronise n c s r =
    unless (refusal (run_tests n c (length s.tags) (length s.bits) r))
    (done 0 (lent s.tags (put_run_bit s.bits r (pick (any_in n c s.tags r) 1 0))))
    (λ no. done (refused no) s)
