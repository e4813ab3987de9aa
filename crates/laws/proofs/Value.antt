-- Numbers as bytes, low first, of any width.
use mathlib.Core.Path.{◌≡◌, refl, ap, ◌∙◌}
use mathlib.Core.List.{List, [], ◌∷◌, append_assoc}
use mathlib.Core.Logic.{⊎_elim}
use Prim.Native.Nat.{ℕ, zero, suc, ◌+◌, ◌*◌, ◌/◌, ◌%◌, ◌^◌, ◌≤◌, ◌<◌}
use native.Mathlib.Nat.{pow-succ'}
use native.Mathlib.Omega.{arith}
use borrow.Author.Tests.{le-leb, lt-leb}
use lib.ListN.{length, take, drop, get_or, set, drop_of_length-le, get_or-eq_default}
use lib.Seq.{drop-cons, sets, sets-eq, take-nil}
use Rattle.laws.specs.Bytes.{part, splice, fits, value, bytes, number_at, Bytes}
use Rattle.laws.proofs.Splice.{lt-or-ge}

pub length-bytes : (w v : ℕ) → length (bytes w v) ≡ w
unfolding bytes
length-bytes zero v = refl
length-bytes (suc w) v = ap suc (length-bytes w (v / 256))

pub value-bytes : (w v : ℕ) → v < 256 ^ w → value (bytes w v) ≡ v
unfolding value bytes
value-bytes zero v h = omega arith
value-bytes (suc w) v h =
    let e : value (bytes w (v / 256)) ≡ v / 256 = value-bytes w (v / 256) (omega (arith, pow-succ' 256 w)) in
    omega arith

pub bytes-value : (l : List ℕ) → Bytes l → bytes (length l) (value l) ≡ l
unfolding value bytes Bytes
bytes-value [] h = refl
bytes-value (x ∷ xs) h =
    let b : x < 256 = h 0 in
    let q : (x + 256 * value xs) / 256 ≡ value xs = omega arith in
    let r : (x + 256 * value xs) % 256 ≡ x = omega arith in
    rw (q, r, bytes-value xs (λ i. h (suc i)))

pub value-lt : (l : List ℕ) → Bytes l → value l < 256 ^ length l
unfolding value Bytes
value-lt [] h = omega arith
value-lt (x ∷ xs) h = omega (arith, h 0, pow-succ' 256 (length xs), value-lt xs (λ i. h (suc i)))

-- one byte of a part at a time, as code reads it
pub value-step : (l : List ℕ) (a w : ℕ) → a < length l → value (part l a (suc w)) ≡ get_or l a 0 + 256 * value (part l (a + 1) w)
unfolding value part
value-step l a w h = let e : suc a ≡ a + 1 = omega arith in rw (drop-cons l a 0 h, e)

-- whether the byte is there or not
pub value-step-any : (l : List ℕ) (a w : ℕ) → value (part l a (suc w)) ≡ get_or l a 0 + 256 * value (part l (a + 1) w)
unfolding value part
value-step-any l a w =
    ⊎_elim
    (λ (h : a < length l). value-step l a w h)
    (λ (h : length l ≤ a). let g : length l ≤ a + 1 = omega arith in rw (drop_of_length-le l h, get_or-eq_default l 0 h, drop_of_length-le l g, take-nil w))
    (lt-or-ge a (length l))

pub value_none : (l : List ℕ) (a : ℕ) → value (part l a 0) ≡ 0
unfolding value part
value_none l a = refl

pub number_at-fits : (w : ℕ) (m : List ℕ) (a : ℕ) → a + w ≤ length m → number_at w m a ≡ value (part m a w)
unfolding number_at fits
number_at-fits w m a h = rw (le-leb _ _ h)

pub number_at-not : (w : ℕ) (m : List ℕ) (a : ℕ) → length m < a + w → number_at w m a ≡ 0
unfolding number_at fits
number_at-not w m a h = rw (lt-leb _ _ h)

pub value-2 : (l : List ℕ) (a : ℕ) → a + 2 ≤ length l → value (part l a 2) ≡ get_or l a 0 + 256 * get_or l (a + 1) 0
value-2 l a h =
    let z : value (part l (a + 2) 0) ≡ 0 = value_none l (a + 2) in
    let e2 : a + 1 + 1 ≡ a + 2 = omega arith in
    omega (arith, z, value-step l a 1 (omega arith), rw e2 at (value-step l (a + 1) 0 (omega arith)))

pub value-4-any : (l : List ℕ) (a : ℕ) → value (part l a 4) ≡ get_or l a 0 + 256 * get_or l (a + 1) 0 + 65536 * get_or l (a + 2) 0 + 16777216 * get_or l (a + 3) 0
value-4-any l a =
    let z : value (part l (a + 4) 0) ≡ 0 = value_none l (a + 4) in
    let e2 : a + 1 + 1 ≡ a + 2 = omega arith in
    let e3 : a + 2 + 1 ≡ a + 3 = omega arith in
    let e4 : a + 3 + 1 ≡ a + 4 = omega arith in
    omega (arith, z, value-step-any l a 3, rw e2 at (value-step-any l (a + 1) 2), rw e3 at (value-step-any l (a + 2) 1), rw e4 at (value-step-any l (a + 3) 0))

pub value-4 : (l : List ℕ) (a : ℕ) → a + 4 ≤ length l
    → value (part l a 4) ≡ get_or l a 0 + 256 * get_or l (a + 1) 0 + 65536 * get_or l (a + 2) 0 + 16777216 * get_or l (a + 3) 0
value-4 l a h = value-4-any l a

pub value-past : (l : List ℕ) (a w : ℕ) → length l ≤ a → value (part l a w) ≡ 0
unfolding value part
value-past l a w h = rw (drop_of_length-le l h, take-nil w)

-- stores in a row are a write
pub splice-sets : (vs l : List ℕ) (a : ℕ) → a + length vs ≤ length l → sets l a vs ≡ splice l a vs
unfolding splice
splice-sets vs l a h = sets-eq vs l a h ∙ append_assoc (take a l) vs (drop (a + length vs) l)

pub put2 : (l : List ℕ) (a v : ℕ) → a + 2 ≤ length l → set (set l a (v % 256)) (a + 1) (v / 256 % 256) ≡ splice l a (bytes 2 v)
unfolding bytes
put2 l a v h =
    let e1 : a + 1 ≡ suc a = omega arith in
    rw e1 (splice-sets (bytes 2 v) l a h)

pub put4 : (l : List ℕ) (a v : ℕ) → a + 4 ≤ length l
    → set (set (set (set l a (v % 256)) (a + 1) (v / 256 % 256)) (a + 2) (v / 256 / 256 % 256)) (a + 3) (v / 256 / 256 / 256 % 256) ≡ splice l a (bytes 4 v)
unfolding bytes
put4 l a v h =
    let e1 : a + 1 ≡ suc a = omega arith in
    let e2 : a + 2 ≡ suc (suc a) = omega arith in
    let e3 : a + 3 ≡ suc (suc (suc a)) = omega arith in
    rw (e1, e2, e3) (splice-sets (bytes 4 v) l a h)
