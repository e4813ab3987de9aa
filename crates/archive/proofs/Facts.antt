-- Facts of 01 "Archive image": "m = 0 gives one block; m = 7 two; m = 8 three", and the head's check for n = 2, m = 0: 06 00 E4 05, in version 1 05 00 E9 04.
use mathlib.Core.Path.{◌≡◌, refl, ap, ◌∙◌}
use mathlib.Core.List.{List, [], ◌∷◌}
use Prim.Native.Nat.{ℕ, ◌+◌, ◌*◌}
use lib.ListN.{length}
use Rattle.laws.specs.Bytes.{part, bytes}
use Rattle.sums.specs.Check.{sum_a, sum_b, check_of}
use Rattle.form.specs.Encode.{version1, version2, Record, Sized, head_of, blocks_for, encode}
use Rattle.form.proofs.Records.{length-encode}
use Rattle.form.proofs.Sound.{fit-2}

module _ (n : ℕ) (rs : List Record) (s : Sized rs) where
  blocks : (m : ℕ) → length rs ≡ m → length (encode version2 n rs) ≡ 512 * (1 + blocks_for m)
  blocks m e = length-encode version2 n rs fit-2.room s ∙ ap (λ (x : ℕ). 512 * (1 + blocks_for x)) e

  pub blocks-0 : length rs ≡ 0 → length (encode version2 n rs) ≡ 512
  blocks-0 e = blocks 0 e

  pub blocks-7 : length rs ≡ 7 → length (encode version2 n rs) ≡ 1024
  blocks-7 e = blocks 7 e

  pub blocks-8 : length rs ≡ 8 → length (encode version2 n rs) ≡ 1536
  blocks-8 e = blocks 8 e

pub head-check : part (head_of version2 2 0) 508 4 ≡ 0x06 ∷ 0x00 ∷ 0xE4 ∷ 0x05 ∷ []
unfolding version2 part bytes sum_a sum_b check_of head_of
head-check = refl

pub old-head-check : part (head_of version1 2 0) 508 4 ≡ 0x05 ∷ 0x00 ∷ 0xE9 ∷ 0x04 ∷ []
unfolding version1 part bytes sum_a sum_b check_of head_of
old-head-check = refl
