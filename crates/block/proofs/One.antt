-- Each promise of this crate allows one result for one input: the answer, or the lent bytes, equal a definition.
use mathlib.Core.Path.{◌≡◌}
use mathlib.Core.Bool.{Bool}
use mathlib.Core.List.{List}
use Prim.Native.Nat.{ℕ}
use lib.ListN.{length, replicate}
use Rattle.laws.specs.Choice.{pick}
use Rattle.laws.specs.Bytes.{part, fits, put_w, value, bytes, number_at}
use Rattle.laws.specs.Bits.{bit_of}
use Rattle.geometry.proofs.One.{one}
use Rattle.block.specs.Block.{block_or0, group_at, put_group, bit_at, put_bit, all_zero}

pub write-block-one : (m : List ℕ) (at : ℕ) (block : List ℕ) {r s : List ℕ} → r ≡ put_w 64 m at block → s ≡ put_w 64 m at block → r ≡ s
write-block-one m at block = one

pub read-block-one : (m : List ℕ) (at : ℕ) {r s : List ℕ} → r ≡ block_or0 m at → s ≡ block_or0 m at → r ≡ s
read-block-one m at = one

pub copy-block-one : (m : List ℕ) (at : ℕ) (row : List ℕ) (from : ℕ) {r s : List ℕ} → r ≡ pick (fits row from 64) (put_w 64 m at (part row from 64)) m
    → s ≡ pick (fits row from 64) (put_w 64 m at (part row from 64)) m → r ≡ s
copy-block-one m at row from = one

pub number-at-one : (m : List ℕ) (at : ℕ) {r s : ℕ} → r ≡ value (part m at 4) → s ≡ value (part m at 4) → r ≡ s
number-at-one m at = one

pub four-at-one : (m : List ℕ) (at : ℕ) {r s : ℕ} → r ≡ number_at 4 m at → s ≡ number_at 4 m at → r ≡ s
four-at-one m at = one

pub put-four-one : (m : List ℕ) (at v : ℕ) {r s : List ℕ} → r ≡ put_w 4 m at (bytes 4 v) → s ≡ put_w 4 m at (bytes 4 v) → r ≡ s
put-four-one m at v = one

pub group-at-one : (m : List ℕ) (at : ℕ) {r s : ℕ} → r ≡ group_at m at → s ≡ group_at m at → r ≡ s
group-at-one m at = one

pub put-group-one : (m : List ℕ) (at v : ℕ) {r s : List ℕ} → r ≡ put_group m at v → s ≡ put_group m at v → r ≡ s
put-group-one m at v = one

pub all-zero-one : (m : List ℕ) {r s : Bool} → r ≡ all_zero m → s ≡ all_zero m → r ≡ s
all-zero-one m = one

pub clear-one : (m : List ℕ) {r s : List ℕ} → r ≡ replicate (length m) 0 → s ≡ replicate (length m) 0 → r ≡ s
clear-one m = one

pub bit-of-one : (x k : ℕ) {r s : ℕ} → r ≡ bit_of x k → s ≡ bit_of x k → r ≡ s
bit-of-one x k = one

pub bit-at-one : (m : List ℕ) (at k : ℕ) {r s : ℕ} → r ≡ bit_at m at k → s ≡ bit_at m at k → r ≡ s
bit-at-one m at k = one

pub put-bit-one : (m : List ℕ) (at k : ℕ) (v : Bool) {r s : List ℕ} → r ≡ put_bit m at k (pick v 1 0) → s ≡ put_bit m at k (pick v 1 0) → r ≡ s
put-bit-one m at k v = one
