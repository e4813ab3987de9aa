-- Laws of bits in a row of bytes: a bit that is not there is 0, and a put changes one bit of one byte.
use mathlib.Core.Path.{◌≡◌, sym, ◌∙◌}
use mathlib.Core.Bool.{Bool, true, false}
use mathlib.Core.List.{List}
use Prim.Native.Nat.{ℕ, ◌+◌, ◌-◌, ◌^◌, ◌≤◌, ◌<◌}
use native.Mathlib.Omega.{arith}
use borrow.Author.Tests.{lt-ltb, le-ltb}
use lib.ListN.{length, get_or, set, get_or-eq_default}
use lib.Seq.{set_out, get_or-set_same, get_or-set_other}
use Rattle.laws.specs.Choice.{pick}
use Rattle.laws.specs.Bits.{bit_of, with_bit}
use Rattle.laws.proofs.Bits.{bit_of-0, bit_of-lt, bit_of-with_bit-same, bit_of-with_bit-other, with_bit-none, with_bit-one, with_bit-zero, with_bit-lt}
use Rattle.block.specs.Block.{bit_at, put_bit}

pub bit_at-not : (m : List ℕ) (a k : ℕ) → length m ≤ a → bit_at m a k ≡ 0
unfolding bit_at
bit_at-not m a k h = rw (get_or-eq_default m 0 h) (bit_of-0 k)

-- a zero byte has no bit
pub bit_at-zero : (m : List ℕ) (a k : ℕ) → get_or m a 0 ≡ 0 → bit_at m a k ≡ 0
unfolding bit_at
bit_at-zero m a k h = rw h (bit_of-0 k)

pub bit_at_lt : (m : List ℕ) (a k : ℕ) → bit_at m a k < 2
unfolding bit_at
bit_at_lt m a k = bit_of-lt (get_or m a 0) k

module _ (m : List ℕ) (a k v : ℕ) where
  pub put_bit-is : k < 8 → put_bit m a k v ≡ set m a (with_bit (get_or m a 0) k v)
  unfolding put_bit
  put_bit-is h = rw (lt-ltb k 8 h)

  pub put_bit-past : 8 ≤ k → put_bit m a k v ≡ m
  unfolding put_bit
  put_bit-past h = rw (le-ltb k 8 h)

  pub put_bit-not : length m ≤ a → k < 8 → put_bit m a k v ≡ m
  put_bit-not h l = put_bit-is l ∙ set_out m a _ h

  pub bit_at-put_bit-same : a < length m → k < 8 → v < 2 → bit_at (put_bit m a k v) a k ≡ v
  unfolding bit_at
  bit_at-put_bit-same h l q =
      rw (put_bit-is l, get_or-set_same m a (with_bit (get_or m a 0) k v) 0 h) (bit_of-with_bit-same (get_or m a 0) k v q)

  -- another bit of the same byte
  pub bit_at-put_bit-bit : (j : ℕ) → a < length m → k < 8 → v < 2 → (k ≡ j → ⊥) → bit_at (put_bit m a k v) a j ≡ bit_at m a j
  unfolding bit_at
  bit_at-put_bit-bit j h l q n =
      rw (put_bit-is l, get_or-set_same m a (with_bit (get_or m a 0) k v) 0 h) (bit_of-with_bit-other (get_or m a 0) k j v q n)

  -- a bit of another byte
  pub bit_at-put_bit-byte : (b j : ℕ) → k < 8 → (b ≡ a → ⊥) → bit_at (put_bit m a k v) b j ≡ bit_at m b j
  unfolding bit_at
  bit_at-put_bit-byte b j l n = rw (put_bit-is l, get_or-set_other m a b (with_bit (get_or m a 0) k v) 0 n)

bit-zero : (x k : ℕ) → (bit_of x k ≡ 1 → ⊥) → bit_of x k ≡ 0
bit-zero x k n = let l : bit_of x k < 2 = bit_of-lt x k in omega arith

-- a byte's bit made v, as code does it: the byte as it was, or 2 to the k more, or less
module _ (x k : ℕ) (v : Bool) where
  pub with_bit-set : bit_of x k ≡ 1 → v ≡ true → x ≡ with_bit x k (pick v 1 0)
  with_bit-set e h = rw h (sym (with_bit-none x k 1 e))

  pub with_bit-clear : (bit_of x k ≡ 1 → ⊥) → v ≡ false → x ≡ with_bit x k (pick v 1 0)
  with_bit-clear n h = rw h (sym (with_bit-none x k 0 (bit-zero x k n)))

  pub with_bit-more : v ≡ true → (bit_of x k ≡ 1 → ⊥) → x + 2 ^ k ≡ with_bit x k (pick v 1 0)
  with_bit-more h n =
      rw h (sym (with_bit-one x k (bit-zero x k n)))

  pub with_bit-less : v ≡ false → bit_of x k ≡ 1 → x - 2 ^ k ≡ with_bit x k (pick v 1 0)
  with_bit-less h e = rw h (omega (arith, with_bit-zero x k e))

pub more-fits : (x k : ℕ) → x < 256 → k < 8 → (bit_of x k ≡ 1 → ⊥) → x + 2 ^ k < 256
more-fits x k h l n =
    omega (arith, with_bit-one x k (bit-zero x k n), with_bit-lt x k 8 1 l (omega arith) (omega arith))

pub less-fits : (x k : ℕ) → bit_of x k ≡ 1 → 2 ^ k ≤ x
less-fits x k e = omega (arith, with_bit-zero x k e)
