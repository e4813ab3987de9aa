-- Worked: what is taken of damaged images, computed on their bytes.
use mathlib.Core.Path.{◌≡◌, refl}
use mathlib.Core.List.{List, [], ◌∷◌, ◌++◌}
use Prim.Native.Nat.{ℕ}
use lib.ListN.{replicate}
use Rattle.laws.specs.Choice.{both, no}
use Rattle.laws.specs.Bytes.{part, fits, value, bytes, number_at}
use Rattle.laws.specs.Scan.{all}
use Rattle.block.specs.Block.{all_zero}
use Rattle.sums.specs.Check.{sum_a, sum_b, check_of, check_right}
use Rattle.form.specs.Encode.{version2, version1, form_for, Record, record_bytes, head_of, block_with}
use Rattle.form.specs.Test.{count_right, block_sound, lowest, good_above}
use Rattle.damaged.specs.Taken.{used, above, take_record, take_records, take_block, take_blocks, taken}

-- a record of a leaf whose first byte is x, and a block of c records
abbrev leaf_with : ℕ → ℕ → Record
leaf_with k x = record { leaf = k; content = x ∷ replicate 63 0 }

abbrev block : ℕ → ℕ → List ℕ → List ℕ
block j c R = block_with 65536 j c R

-- the head alone
pub head-alone : taken (head_of version2 4 9) ≡ record { kept = []; listed = [] }
unfolding version2 head_of bytes check_of sum_a sum_b take_blocks
head-alone = refl

-- a block of zeros after it is not used: 8 x 1 + 7
pub zeros-listed : taken (head_of version2 4 0 ++ replicate 512 0) ≡ record { kept = []; listed = 15 ∷ [] }
unfolding version2 version1 form_for head_of bytes check_of sum_a sum_b check_right part fits value number_at both used take_block take_blocks count_right block_sound
zeros-listed = refl

-- and neither is one of no records with a right check, the last as it is
pub no-records-listed : taken (head_of version2 4 0 ++ block 1 0 []) ≡ record { kept = []; listed = 15 ∷ [] }
unfolding version2 version1 form_for head_of bytes check_of sum_a sum_b check_right part fits value number_at both no all all_zero lowest good_above above block_with used take_record take_records take_block take_blocks count_right block_sound
no-records-listed = refl

-- one record is too few for a block that is not the last, and enough for the last
pub short-listed : taken (head_of version2 4 0 ++ (block 1 1 (record_bytes (leaf_with 1 7)) ++ block 2 1 (record_bytes (leaf_with 2 7)))) ≡ record { kept = leaf_with 2 7 ∷ []; listed = 15 ∷ [] }
unfolding version2 version1 form_for head_of bytes check_of sum_a sum_b check_right part fits value number_at both no all all_zero lowest good_above above block_with used take_record take_records take_block take_blocks count_right block_sound
short-listed = refl

-- leaf 1 is kept; then leaf 1 again, which is not above it, leaf 2, which is empty, and leaf 4, which is not below n, are listed; leaf 3 is kept
pub records-listed :
    taken (head_of version2 4 0 ++ block 1 5 (record_bytes (leaf_with 1 7) ++ (record_bytes (leaf_with 1 7) ++ (record_bytes (leaf_with 2 0) ++ (record_bytes (leaf_with 4 7) ++ record_bytes (leaf_with 3 7))))))
    ≡ record { kept = leaf_with 1 7 ∷ leaf_with 3 7 ∷ []; listed = 9 ∷ 10 ∷ 11 ∷ [] }
unfolding version2 version1 form_for head_of bytes check_of sum_a sum_b check_right part fits value number_at both no all all_zero lowest good_above above block_with used take_record take_records take_block take_blocks count_right block_sound
records-listed = refl
