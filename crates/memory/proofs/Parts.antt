-- Laws of the lengths of parts, and of a tail that comes back as zeros.
use mathlib.Core.Path.{◌≡◌}
use mathlib.Core.List.{List, ◌++◌, append-nil}
use Prim.Native.Nat.{ℕ, ◌-◌, ◌≤◌, ◌<◌}
use native.Mathlib.Omega.{arith}
use borrow.Rule.Slice.PartMut.{put_mid}
use lib.ListN.{length, take, drop, replicate, length-take, length-drop, drop_of_length-le}
use Rattle.laws.specs.Bytes.{part}

-- the tail `&mut m[a..]`, that comes back as zeros
pub zeros-is : (m : List ℕ) (a : ℕ) → a ≤ length m
    → put_mid a (length m - a) m (replicate (length (take (length m - a) (drop a m))) 0) ≡ take a m ++ replicate (length m - a) 0
zeros-is m a h =
    let e : length (take (length m - a) (drop a m)) ≡ length m - a = simp (length-take, length-drop) (omega arith) in
    let f : length (drop a m) ≤ length m - a = simp length-drop (omega arith) in
    rw (e, drop_of_length-le (drop a m) f, append-nil)

-- parts of rows that are as long are as long
pub length-of-part : (l m : List ℕ) (a w : ℕ) → length l ≡ length m → length (part l a w) ≡ length (part m a w)
unfolding part
length-of-part l m a w e = simp (length-take, length-drop, e)

-- a part has no more bytes than were asked for
pub part-short : (m : List ℕ) (a w i : ℕ) → i < length (part m a w) → i < w
unfolding part
part-short m a w i h = omega (arith, simp length-take at h)
