-- 01 "Archive image" and 02 E2: the check of a block, two sums over its two-byte words, the modulus a parameter.
use Rattle.std.specs.Prelude.{ℕ, zero, suc, ◌+◌, ◌*◌, ◌%◌, Bool, List, ◌++◌, length, ◌==◌, slice_index}
use Rattle.laws.specs.Choice.{pick, both}
use Rattle.laws.specs.Bytes.{bytes, number_at, put_w}

-- "the 254 two-byte words of bytes 0 to 507": word k of a block, low byte first
abbrev pub word : List ℕ → ℕ → ℕ
word b k = slice_index b (2 * k) + 256 * slice_index b (2 * k + 1)

-- "a starts at 1 ..; for each word w, a = (a + w) mod 65,535": a after k words
unfoldable pub sum_a : ℕ → List ℕ → ℕ → ℕ
sum_a M b zero = 1
sum_a M b (suc k) = (sum_a M b k + word b k) % M

-- "b at 0; .. then b = (b + a) mod 65,535": b after k words
unfoldable pub sum_b : ℕ → List ℕ → ℕ → ℕ
sum_b M b zero = 0
sum_b M b (suc k) = (sum_b M b k + sum_a M b (suc k)) % M

-- "Stored: a, then b."
unfoldable pub check_of : ℕ → List ℕ → List ℕ
check_of M b = bytes 2 (sum_a M b 254) ++ bytes 2 (sum_b M b 254)

-- "Blocks of 512 bytes ..  Bytes 508 to 511: check": the block's check is right
unfoldable pub check_right : ℕ → List ℕ → Bool
check_right M b = both (length b == 512) (both (number_at 2 b 508 == sum_a M b 254) (number_at 2 b 510 == sum_b M b 254))

-- the block with its check in place
unfoldable pub with_check : ℕ → List ℕ → List ℕ
with_check M b = put_w 4 b 508 (check_of M b)

-- 02: "Version 2 images take both sums modulo 65,536. .. version 1 still reads by its old rule; .. a head of any other version is checked by the new rule"
unfoldable pub modulus_for : ℕ → ℕ
modulus_for version = pick (version == 1) 65535 65536
