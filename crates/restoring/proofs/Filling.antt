-- Laws of restoring: one record more, the length of what is filled, and the ways out of the call.
use mathlib.Core.Path.{◌≡◌, ap, sym, ◌∙◌}
use mathlib.Core.List.{List, [], ◌∷◌}
use Prim.Native.Nat.{ℕ, ◌+◌, ◌*◌, ◌<◌}
use native.Mathlib.Numerals.{add-one}
use native.Mathlib.Omega.{arith}
use lib.Dec.{eqb}
use lib.ListN.{length, replicate}
use borrow.Author.Tests.{eq-eqb, ne_eqb}
use Rattle.laws.specs.Choice.{pick}
use Rattle.laws.specs.Bytes.{part, fits, put_w}
use Rattle.laws.specs.Refusal.{refusal}
use Rattle.laws.proofs.Refusals.{refusal-0, refusal-first, unless-0, unless-no}
use Rattle.geometry.specs.TagMemory.{memory_length, block_place, map_place, map_bit_of}
use Rattle.block.specs.Block.{put_bit}
use Rattle.block.proofs.Blocks.{copy-fits}
use Rattle.form.specs.Encode.{Record}
use Rattle.form.specs.Test.{leaves_in, recorded_in, record_in, record_at, image_test}
use Rattle.form.specs.Calls.{put_record, filled, records_in, memory_of, restoring_tests, restoring_refusal, restored}
use Rattle.form.proofs.Records.{length-records_to, records_to-at}

pub put-record-law : (n : ℕ) (mem row : List ℕ) (i : ℕ) → length row ≡ 512 → i < 7
    → put_bit (pick (fits row (12 + 68 * i) 64) (put_w 64 mem (block_place (record_in row i).leaf) (part row (12 + 68 * i) 64)) mem) (map_place n (record_in row i).leaf) (map_bit_of (record_in row i).leaf) 1
    ≡ put_record n mem (record_in row i)
unfolding put_record
put-record-law n mem row i h l = rw (sym (copy-fits mem (block_place (record_in row i).leaf) row (12 + 68 * i) (omega arith)))

pub zeros-filled : (n : ℕ) (mem : List ℕ) (rs : List Record) → length mem ≡ memory_length n → replicate (length mem) 0 ≡ filled n rs 0
unfolding filled
zeros-filled n mem rs h = ap (λ (x : ℕ). replicate x 0) h

pub filled_more : (n : ℕ) (image : List ℕ) (p : ℕ) → p < recorded_in image → put_record n (filled n (records_in image) p) (record_at image p) ≡ filled n (records_in image) (p + 1)
unfolding filled
filled_more n image p h = rw (add-one p, records_to-at (record_at image) (recorded_in image) p h)

pub filled-all : (n : ℕ) (image : List ℕ) (p : ℕ) → p ≡ recorded_in image → filled n (records_in image) p ≡ memory_of n (records_in image)
filled-all n image p e = ap (filled n (records_in image)) (e ∙ sym (length-records_to (record_at image) (recorded_in image)))

-- the ways out
module _ (image mem : List ℕ) where
  refused : (c : ℕ) → restoring_refusal image (length mem) ≡ c → 0 < c → (c ≡ restoring_refusal image (length mem)) × (mem ≡ restored image mem)
  unfolding restored
  refused c e h = (sym e, sym (unless-no (memory_of (leaves_in image) (records_in image)) (λ c. mem) (omega (arith, e))))

  pub untested : (image_test image ≡ 0 → ⊥)
      → (image_test image ≡ restoring_refusal image (length mem)) × (mem ≡ restored image mem)
  unfolding restoring_refusal
  untested h = refused (image_test image) (refusal-first [] (eqb (image_test image) 0) (image_test image) _ tt (ne_eqb (image_test image) 0 h)) (omega (arith, h))

  pub unfit : image_test image ≡ 0 → (length mem ≡ memory_length (leaves_in image) → ⊥)
      → (2 ≡ restoring_refusal image (length mem)) × (mem ≡ restored image mem)
  unfolding restoring_refusal
  unfit t h =
      refused 2
      (refusal-first ((eqb (image_test image) 0, image_test image) ∷ []) (eqb (length mem) (memory_length (leaves_in image))) 2 [] (eq-eqb _ _ t, tt) (ne_eqb (length mem) (memory_length (leaves_in image)) h))
      (omega arith)

  pub filled_in : image_test image ≡ 0 → length mem ≡ memory_length (leaves_in image)
      → (0 ≡ restoring_refusal image (length mem)) × (memory_of (leaves_in image) (records_in image) ≡ restored image mem)
  unfolding restored restoring_refusal
  filled_in t h =
      let z : refusal (restoring_tests image (length mem)) ≡ 0 = refusal-0 (restoring_tests image (length mem)) (eq-eqb _ _ t, (eq-eqb (length mem) (memory_length (leaves_in image)) h, tt)) in
      (sym z, sym (unless-0 _ _ z))
