-- 01 "Cases at the edges", as one table; Case R as 02 has it.
use Rattle.std.specs.Prelude.{◌≡◌, List, [], ◌∷◌, ℕ, ◌+◌, ◌*◌, ◌≤◌, true, false, length, replicate}
use Rattle.laws.specs.Bytes.{part}
use Rattle.geometry.specs.TagMemory.{memory_length}
use Rattle.memory.specs.PlainReading.{plain_reading}
use Rattle.tracker.specs.declared.Access.{Access}
use Rattle.tracker.specs.Tracker.{read_of, write_of}
use Rattle.tracker.specs.Answer.{ok, moved, read, done, no}
use Rattle.rules.specs.Calls.{fresh, issue}
use Rattle.rules.specs.Run.{issues, steps, drains, kept, answers}
use Rattle.form.specs.Encode.{version1, version2, Record, Sized, head_of, encode}

pub record Edges : Type 0 where
  -- "n = 0 and 262,145 give 1; n = 1 and 262,144 pass"
  pub n-none : (t l : ℕ) (bytes memory : List ℕ) → (fresh 0 t l bytes memory).said ≡ no 1
  pub n-over : (t l : ℕ) (bytes memory : List ℕ) → (fresh 262145 t l bytes memory).said ≡ no 1
  pub n-least : (bytes memory : List ℕ) → length bytes ≡ 128 → length memory ≡ 128 → (fresh 1 1 2 bytes memory).said ≡ ok
  pub n-most : (bytes memory : List ℕ) → length bytes ≡ 128 → length memory ≡ 16809984 → (fresh 262144 1 2 bytes memory).said ≡ ok
  -- "L = T gives 1, L = T + 1 passes", for every T from 1 to 8
  pub l-is-t : (n t : ℕ) (bytes memory : List ℕ) → (fresh n t t bytes memory).said ≡ no 1
  pub l-one-more : (t : ℕ) (bytes memory : List ℕ) → 1 ≤ t → t ≤ 8 → length bytes ≡ 64 * (t + 1) → length memory ≡ 128 → (fresh 1 t (t + 1) bytes memory).said ≡ ok
  -- "n = 1: group 15 passes, 16 gives 6", of an issue and of plain reading
  pub group-15 : (bytes memory : List ℕ) (access : Access) → access.group ≡ 15 → length bytes ≡ 128 → length memory ≡ 128
      → (issue (fresh 1 1 2 bytes memory).state bytes memory 0 access).said ≡ ok
  pub group-16 : (bytes memory : List ℕ) (access : Access) → access.group ≡ 16 → length bytes ≡ 128 → length memory ≡ 128
      → (issue (fresh 1 1 2 bytes memory).state bytes memory 0 access).said ≡ no 6
  pub reading-16 : (memory : List ℕ) → length memory ≡ 128 → plain_reading 1 memory 16 ≡ 4294967296 + 6
  -- "the three lengths for n = 1, 512, 513", and the largest
  pub length-1 : memory_length 1 ≡ 128
  pub length-512 : memory_length 512 ≡ 32832
  pub length-513 : memory_length 513 ≡ 32960
  pub length_most : memory_length 262144 ≡ 16809984
  -- 02: "The head of n = 2, m = 0 becomes 06 00 E4 05 in its check", and "the check of the head for n = 2, m = 0 is 05 00 E9 04" of version 1
  pub head-check : part (head_of version2 2 0) 508 4 ≡ 0x06 ∷ 0x00 ∷ 0xE4 ∷ 0x05 ∷ []
  pub old-head-check : part (head_of version1 2 0) 508 4 ≡ 0x05 ∷ 0x00 ∷ 0xE9 ∷ 0x04 ∷ []
  -- "m = 0 gives one block; m = 7 two; m = 8 three": the bytes of an image of so many records
  pub blocks-0 : (n : ℕ) (rs : List Record) → Sized rs → length rs ≡ 0 → length (encode version2 n rs) ≡ 512
  pub blocks-7 : (n : ℕ) (rs : List Record) → Sized rs → length rs ≡ 7 → length (encode version2 n rs) ≡ 1024
  pub blocks-8 : (n : ℕ) (rs : List Record) → Sized rs → length rs ≡ 8 → length (encode version2 n rs) ≡ 1536
  -- "Case R is run": after line 1, over stale bytes
  pub case-r : answers (kept (fresh 2 2 3 (replicate 192 7) (replicate 192 9)))
      (issues 0 (write_of false 17 10) ∷ issues 1 (write_of false 17 0) ∷ steps 0 ∷ steps 1 ∷ steps 0 ∷ steps 0 ∷ steps 1 ∷ steps 1 ∷ steps 1
      ∷ issues 0 (read_of true 17) ∷ steps 0 ∷ steps 0 ∷ drains ∷ [])
      ≡ ok ∷ no 13 ∷ moved ∷ no 8 ∷ moved ∷ done 3 ∷ no 8 ∷ no 8 ∷ no 8 ∷ ok ∷ read 10 1 ∷ no 8 ∷ ok ∷ []
