-- What is written, and the laws of writing's refusals: one for each way out, and what the call then gives and leaves.
use mathlib.Core.Path.{◌≡◌, refl, sym, ◌∙◌}
use mathlib.Core.List.{List, [], ◌∷◌, ◌++◌}
use mathlib.Core.Bool.{true, false}
use Prim.Native.Nat.{ℕ, suc, ◌+◌, ◌*◌, ◌≤◌, ◌<◌}
use lib.ListN.{length}
use native.Mathlib.Omega.{arith}
use lib.Dec.{eqb, leb}
use borrow.Author.Tests.{eq-eqb, ne_eqb, le-leb, lt-leb}
use Rattle.laws.specs.Bytes.{part, splice, fits, value, bytes, number_at}
use Rattle.laws.proofs.Refusals.{refusal-0, refusal-first, unless-0, unless-no}
use Rattle.geometry.specs.TagMemory.{in_limits, memory_length}
use Rattle.memory.specs.PlainReading.{sized}
use Rattle.memory.specs.True.{is_true}
use Rattle.memory.proofs.Sized.{fits-hold}
use Rattle.sums.specs.Check.{check_of}
use Rattle.form.specs.Encode.{version2, head_of, encode, records_of, image_of, blocks_for}
use Rattle.form.specs.Test.{version_in}
use Rattle.form.specs.Calls.{writing_tests, writing_refusal, writing_answer, written}
use Rattle.form.proofs.Records.{records-sized, length-encode}
use Rattle.form.proofs.Sound.{fit-2}

-- 02: "We write version 2 only"
pub version-written : (n : ℕ) (mem : List ℕ) → version_in (image_of n mem) ≡ 2
unfolding part fits value bytes number_at check_of version2 head_of encode
version-written n mem = refl

-- the image's length by the number of leaves with bit 1
pub length-image : (n : ℕ) (mem : List ℕ) (m : ℕ) → 64 * n ≤ length mem → m ≡ length (records_of n mem) → length (image_of n mem) ≡ 512 * (1 + blocks_for m)
length-image n mem m h e = rw e (length-encode version2 n (records_of n mem) fit-2.room (records-sized n mem h))

module _ (n : ℕ) (mem : List ℕ) (room : ℕ) where
  pub refusal-1 : in_limits n ≡ false → writing_refusal n mem room ≡ 1
  unfolding writing_refusal
  refusal-1 h = refusal-first [] (in_limits n) 1 _ tt h

  pub refusal-2 : in_limits n ≡ true → (length mem ≡ memory_length n → ⊥) → writing_refusal n mem room ≡ 2
  unfolding writing_refusal
  refusal-2 h g = refusal-first ((in_limits n, 1) ∷ []) (eqb (length mem) (memory_length n)) 2 _ (h, tt) (ne_eqb (length mem) (memory_length n) g)

  pub refusal-3 : in_limits n ≡ true → length mem ≡ memory_length n → is_true n mem ≡ false → writing_refusal n mem room ≡ 3
  unfolding writing_refusal
  refusal-3 h g t = refusal-first (sized n mem) (is_true n mem) 3 _ (fits-hold n mem h g) t

  pub refusal-9 : in_limits n ≡ true → length mem ≡ memory_length n → is_true n mem ≡ true → room < length (image_of n mem) → writing_refusal n mem room ≡ 9
  unfolding writing_refusal
  refusal-9 h g t r = refusal-first (sized n mem ++ (is_true n mem, 3) ∷ []) (leb (length (image_of n mem)) room) 9 [] (h, (eq-eqb _ _ g, (t, tt))) (lt-leb (length (image_of n mem)) room r)

  pub refusal-none : in_limits n ≡ true → length mem ≡ memory_length n → is_true n mem ≡ true → length (image_of n mem) ≤ room → writing_refusal n mem room ≡ 0
  unfolding writing_refusal
  refusal-none h g t r = refusal-0 (writing_tests n mem room) (h, (eq-eqb _ _ g, (t, (le-leb (length (image_of n mem)) room r, tt))))

-- refused, the answer is the refusal and the output stays; else the answer is the length and the image is in front
module _ (n : ℕ) (mem output : List ℕ) where
  pub refused : (code : ℕ) → writing_refusal n mem (length output) ≡ suc code
      → (4294967296 + suc code ≡ writing_answer n mem (length output)) × (output ≡ written n mem output)
  unfolding writing_answer written
  refused code e = (sym (unless-no _ _ (omega (arith, e)) ∙ rw e), sym (unless-no _ _ (omega (arith, e))))

  pub accepted : (long : ℕ) → writing_refusal n mem (length output) ≡ 0 → long ≡ length (image_of n mem)
      → (long ≡ writing_answer n mem (length output)) × (splice output 0 (image_of n mem) ≡ written n mem output)
  unfolding writing_answer written
  accepted long e l = (l ∙ sym (unless-0 _ _ e), sym (unless-0 _ _ e))
