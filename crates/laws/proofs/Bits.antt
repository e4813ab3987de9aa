-- Laws of bits.
use mathlib.Core.Path.{◌≡◌, refl, ap, sym, ◌∙◌}
use mathlib.Core.Bool.{Bool}
use mathlib.Core.List.{List}
use mathlib.Core.Logic.{◌⊎◌, inl, inr, ⊎_elim}
use Prim.Native.Nat.{ℕ, zero, suc, ◌+◌, ◌-◌, ◌*◌, ◌/◌, ◌%◌, ◌^◌, ◌≤◌, ◌<◌}
use native.Mathlib.Nat.{pow-succ', div-div-eq-div-mul, div-add-mod', div-le_self, mod-lt}
use native.Mathlib.Omega.{arith}
use lib.Arith.{digits_div}
use lib.Bits.{bit_and, and_step, and_self, block_half, block_odd}
use lib.Count.{ones, ones_step, ones-le, ones_cat, count_trailing_zeros}
use lib.Dec.{eqb}
use lib.ListN.{get_or}
use lib.Pow.{pow-add, pow_pos, shr_lt}
use Rattle.laws.specs.Choice.{one}
use Rattle.laws.specs.Bits.{bit_of, with_bit}
use Rattle.laws.specs.Bytes.{part, value, Bytes}
use Rattle.laws.specs.Scan.{count, count_from}
use Rattle.laws.proofs.Scan.{count-front, count_from-0, count_from-add, count_from-shift, count_from-same}
use Rattle.laws.proofs.Splice.{lt-or-ge}
use Rattle.laws.proofs.Value.{value-step-any}

-- what holds at each of 0 to 7 holds below 8
pub cases8 : (P : ℕ → Type 0) → P 0 → P 1 → P 2 → P 3 → P 4 → P 5 → P 6 → P 7 → (k : ℕ) → k < 8 → P k
cases8 P a b c d e f g h zero l = a
cases8 P a b c d e f g h (suc zero) l = b
cases8 P a b c d e f g h (suc (suc zero)) l = c
cases8 P a b c d e f g h (suc (suc (suc zero))) l = d
cases8 P a b c d e f g h (suc (suc (suc (suc zero)))) l = e
cases8 P a b c d e f g h (suc (suc (suc (suc (suc zero))))) l = f
cases8 P a b c d e f g h (suc (suc (suc (suc (suc (suc zero)))))) l = g
cases8 P a b c d e f g h (suc (suc (suc (suc (suc (suc (suc zero))))))) l = h
cases8 P a b c d e f g h (suc (suc (suc (suc (suc (suc (suc (suc k)))))))) l = absurd (omega arith)

pub pow_small : (k : ℕ) → k < 8 → 1 * 2 ^ k % 256 ≡ 2 ^ k
pow_small = cases8 (λ k. 1 * 2 ^ k % 256 ≡ 2 ^ k) refl refl refl refl refl refl refl refl

-- a byte's bits below w, as code takes them
pub low-all : (x w : ℕ) → x < 256 → w ≡ 8 → x ≡ x % 2 ^ w
low-all x w h e = rw e (omega arith)

pub low-some : (x w : ℕ) → w < 8 → x % (1 * 2 ^ w % 256) ≡ x % 2 ^ w
low-some x w h = rw (pow_small w h)

pub bit_of-lt : (x k : ℕ) → bit_of x k < 2
unfolding bit_of
bit_of-lt x zero = omega arith
bit_of-lt x (suc k) = bit_of-lt (x / 2) k

pub bit_of-with_bit-same : (x k v : ℕ) → v < 2 → bit_of (with_bit x k v) k ≡ v
unfolding bit_of with_bit
bit_of-with_bit-same x zero v h = omega arith
bit_of-with_bit-same x (suc k) v h = let e : (with_bit (x / 2) k v * 2 + x % 2) / 2 ≡ with_bit (x / 2) k v = omega arith in rw e (bit_of-with_bit-same (x / 2) k v h)

pub bit_of-with_bit-other : (x k j v : ℕ) → v < 2 → (k ≡ j → ⊥) → bit_of (with_bit x k v) j ≡ bit_of x j
unfolding bit_of with_bit
bit_of-with_bit-other x zero zero v h n = absurd (n refl)
bit_of-with_bit-other x zero (suc j) v h n = let e : (x / 2 * 2 + v) / 2 ≡ x / 2 = omega arith in rw e
bit_of-with_bit-other x (suc k) zero v h n = omega arith
bit_of-with_bit-other x (suc k) (suc j) v h n =
    let e : (with_bit (x / 2) k v * 2 + x % 2) / 2 ≡ with_bit (x / 2) k v = omega arith in
    rw e (bit_of-with_bit-other (x / 2) k j v h (λ q. n (ap suc q)))

-- in the code's terms
pub bit_of-shift : (x k : ℕ) → bit_of x k ≡ x / 2 ^ k % 2
unfolding bit_of
bit_of-shift x zero = let e : x / 2 ^ 0 ≡ x = omega arith in rw e
bit_of-shift x (suc k) = bit_of-shift (x / 2) k ∙ rw (div-div-eq-div-mul x 2 (2 ^ k), pow-succ')

pub with_bit-none : (x k : ℕ) (v : ℕ) → bit_of x k ≡ v → with_bit x k v ≡ x
unfolding bit_of with_bit
with_bit-none x zero v e = omega arith
with_bit-none x (suc k) v e = let f : with_bit (x / 2) k v ≡ x / 2 = with_bit-none (x / 2) k v e in omega arith

pub with_bit-one : (x k : ℕ) → bit_of x k ≡ 0 → with_bit x k 1 ≡ x + 2 ^ k
unfolding bit_of with_bit
with_bit-one x zero e = omega arith
with_bit-one x (suc k) e = let f : with_bit (x / 2) k 1 ≡ x / 2 + 2 ^ k = with_bit-one (x / 2) k e in omega (arith, pow-succ' 2 k)

pub with_bit-zero : (x k : ℕ) → bit_of x k ≡ 1 → with_bit x k 0 + 2 ^ k ≡ x
unfolding bit_of with_bit
with_bit-zero x zero e = omega arith
with_bit-zero x (suc k) e = let f : with_bit (x / 2) k 0 + 2 ^ k ≡ x / 2 = with_bit-zero (x / 2) k e in omega (arith, pow-succ' 2 k)

-- a number of n bits stays one
pub with_bit-lt : (x k n v : ℕ) → k < n → v < 2 → x < 2 ^ n → with_bit x k v < 2 ^ n
unfolding with_bit
with_bit-lt x k zero v h g p = absurd (omega arith)
with_bit-lt x zero (suc n) v h g p = omega (arith, pow-succ' 2 n)
with_bit-lt x (suc k) (suc n) v h g p =
    let f : with_bit (x / 2) k v < 2 ^ n = with_bit-lt (x / 2) k n v (omega arith) g (omega (arith, pow-succ' 2 n)) in
    omega (arith, pow-succ' 2 n)

pub bit_of-past : (x w k : ℕ) → x < 2 ^ w → w ≤ k → bit_of x k ≡ 0
unfolding bit_of
bit_of-past x zero zero h l = omega arith
bit_of-past x (suc w) zero h l = absurd (omega arith)
bit_of-past x zero (suc k) h l = bit_of-past (x / 2) zero k (omega arith) (omega arith)
bit_of-past x (suc w) (suc k) h l = bit_of-past (x / 2) w k (omega (arith, pow-succ' 2 w)) (omega arith)

pub bit_of-0 : (k : ℕ) → bit_of 0 k ≡ 0
unfolding bit_of
bit_of-0 zero = refl
bit_of-0 (suc k) = bit_of-0 k

-- bit i of x is 1
abbrev pub is_set : ℕ → ℕ → Bool
is_set x i = eqb (bit_of x i) 1

one_bit : (b : ℕ) → b < 2 → one (eqb b 1) ≡ b
one_bit zero l = refl
one_bit (suc zero) l = refl
one_bit (suc (suc b)) l = absurd (omega arith)

-- the count of ones, bit by bit
pub ones-count : (w x : ℕ) → x < 2 ^ w → ones x ≡ count (is_set x) w
unfolding bit_of count
ones-count zero x h = let z : ones x ≤ 0 = ones-le 0 x h in omega arith
ones-count (suc w) x h =
    let l : x / 2 < 2 ^ w = omega (arith, pow-succ' 2 w) in
    let b : one (eqb (x % 2) 1) ≡ x % 2 = one_bit (x % 2) (omega arith) in
    ones_step x ∙ rw (ones-count w (x / 2) l) (sym (count-front (is_set x) w ∙ rw b))

pub bit_of-shr : (x s i : ℕ) → bit_of (x / 2 ^ s) i ≡ bit_of x (s + i)
bit_of-shr x s i = bit_of-shift (x / 2 ^ s) i ∙ rw (div-div-eq-div-mul x (2 ^ s) (2 ^ i), ← pow-add 2 s i) (sym (bit_of-shift x (s + i)))

-- the bits below w, and those from w on
count_bits : (x w u : ℕ) → count (is_set x) (w + u) ≡ count (is_set x) w + count (is_set (x / 2 ^ w)) u
count_bits x w u =
    let z : w + 0 ≡ w = omega arith in
    let e : count_from (is_set x) w (w + u) ≡ count_from (λ (i : ℕ). is_set x (w + i)) 0 u = rw z at (count_from-shift (is_set x) w 0 u) in
    let f : count_from (λ (i : ℕ). is_set x (w + i)) 0 u ≡ count_from (is_set (x / 2 ^ w)) 0 u =
    count_from-same (λ (i : ℕ). is_set x (w + i)) (is_set (x / 2 ^ w)) 0 u (λ k g l. ap (λ (b : ℕ). eqb b 1) (sym (bit_of-shr x w k))) in
    sym (count_from-0 (is_set x) (w + u)) ∙ count_from-add (is_set x) 0 w (w + u) (omega arith) (omega arith)
    ∙ rw (count_from-0 (is_set x) w, e, f, count_from-0 (is_set (x / 2 ^ w)) u)

-- the ones below bit w
ones_low : (x w u : ℕ) → x < 2 ^ (u + w) → ones (x % 2 ^ w) ≡ count (is_set x) w
ones_low x w u h =
    let e : w + u ≡ u + w = omega arith in
    let a : ones x ≡ count (is_set x) (w + u) = ones-count (w + u) x (rw e h) in
    let b : ones (x / 2 ^ w) ≡ count (is_set (x / 2 ^ w)) u = ones-count u (x / 2 ^ w) (shr_lt u w h) in
    let c : ones x ≡ ones (x / 2 ^ w) + ones (x % 2 ^ w) = ap ones (sym (div-add-mod' x (2 ^ w))) ∙ ones_cat w (x / 2 ^ w) (x % 2 ^ w) (mod-lt x (pow_pos w)) in
    omega (arith, count_bits x w u)

-- the ones of a byte from bit s on below bit t: "masked at both ends"
pub ones-between : (x s t : ℕ) → x < 256 → s ≤ t → t ≤ 8 → ones (x / 2 ^ s % 2 ^ (t - s)) ≡ count_from (is_set x) s t
ones-between x s t h l m =
    let w = t - s in
    let z = x / 2 ^ s in
    let e : 8 - w + w ≡ 8 = omega arith in
    let d : z < 2 ^ (8 - w + w) = rw e (omega (arith, div-le_self x (2 ^ s))) in
    let a : s + 0 ≡ s = omega arith in
    let b : s + w ≡ t = omega arith in
    let f : count_from (is_set x) s t ≡ count_from (λ (i : ℕ). is_set x (s + i)) 0 w = rw (a, b) at (count_from-shift (is_set x) s 0 w) in
    ones_low z w (8 - w) d ∙ sym (count_from-0 (is_set z) w)
    ∙ count_from-same (is_set z) (λ (i : ℕ). is_set x (s + i)) 0 w (λ k g q. ap (λ (y : ℕ). eqb y 1) (bit_of-shr x s k)) ∙ sym f

-- the bits of a number of two parts, the lower one w bits wide
pub bit_of-low : (w k a r : ℕ) → k < w → bit_of (a * 2 ^ w + r) k ≡ bit_of r k
unfolding bit_of
bit_of-low zero k a r h = absurd (omega arith)
bit_of-low (suc w) zero a r h = block_odd a w r
bit_of-low (suc w) (suc k) a r h = rw (block_half a w r) (bit_of-low w k a (r / 2) (omega arith))

pub bit_of-high : (w k a r : ℕ) → r < 2 ^ w → bit_of (a * 2 ^ w + r) (w + k) ≡ bit_of a k
bit_of-high w k a r h = sym (bit_of-shr (a * 2 ^ w + r) w k) ∙ ap (λ (x : ℕ). bit_of x k) (digits_div a h)

-- bit i of a number of w bytes is bit i mod 8 of its byte i / 8
pub value-bit : (l : List ℕ) → Bytes l → (a w i : ℕ) → i < 8 * w → bit_of (value (part l a w)) i ≡ bit_of (get_or l (a + i / 8) 0) (i % 8)
unfolding Bytes
value-bit l B a zero i h = absurd (omega arith)
value-bit l B a (suc w) i h =
    let v : ℕ = value (part l (a + 1) w) in
    let e : value (part l a (suc w)) ≡ v * 2 ^ 8 + get_or l a 0 = omega (arith, value-step-any l a w) in
    rw e (⊎_elim
    (λ (q : i < 8).
    let x : a + i / 8 ≡ a = omega arith in
    let y : i % 8 ≡ i = omega arith in
    rw (x, y) (bit_of-low 8 i v (get_or l a 0) q))
    (λ (q : 8 ≤ i).
    let x : 8 + (i - 8) ≡ i = omega arith in
    let y : a + 1 + (i - 8) / 8 ≡ a + i / 8 = omega arith in
    let z : (i - 8) % 8 ≡ i % 8 = omega arith in
    ap (bit_of (v * 2 ^ 8 + get_or l a 0)) (sym x) ∙ bit_of-high 8 (i - 8) v (get_or l a 0) (B a) ∙ rw (y, z) at (value-bit l B (a + 1) w (i - 8) (omega arith)))
    (lt-or-ge i 8))

-- the lowest one of a number: that it is there, and that the bits below it are 0
even-or-odd : (x : ℕ) → (x % 2 ≡ 0) ⊎ (x % 2 ≡ 1)
even-or-odd x = ⊎_elim (λ (h : x % 2 < 1). inl (omega arith)) (λ (h : 1 ≤ x % 2). inr (omega arith)) (lt-or-ge (x % 2) 1)

pub lowest-one : (w x : ℕ) → 0 < x → x < 2 ^ w → (count_trailing_zeros w x < w) × (bit_of x (count_trailing_zeros w x) ≡ 1)
unfolding count_trailing_zeros bit_of
lowest-one zero x p h = absurd (omega arith)
lowest-one (suc w) x p h =
    ⊎_elim
    (λ (e : x % 2 ≡ 0). let q : (count_trailing_zeros w (x / 2) < w) × (bit_of (x / 2) (count_trailing_zeros w (x / 2)) ≡ 1) = lowest-one w (x / 2) (omega arith) (omega (arith, pow-succ' 2 w)) in rw e (omega arith, q.1))
    (λ (e : x % 2 ≡ 1). rw e (omega arith, e))
    (even-or-odd x)

pub lowest-below : (w x k : ℕ) → k < count_trailing_zeros w x → bit_of x k ≡ 0
unfolding count_trailing_zeros bit_of
lowest-below zero x k h = absurd (omega arith)
lowest-below (suc w) x zero h =
    ⊎_elim (λ (e : x % 2 ≡ 0). e) (λ (e : x % 2 ≡ 1). let z : 0 < 0 = rw e at h in absurd (omega arith)) (even-or-odd x)
lowest-below (suc w) x (suc k) h =
    ⊎_elim
    (λ (e : x % 2 ≡ 0). let z : suc k < suc (count_trailing_zeros w (x / 2)) = rw e at h in lowest-below w (x / 2) k (omega arith))
    (λ (e : x % 2 ≡ 1). let z : suc k < 0 = rw e at h in absurd (omega arith))
    (even-or-odd x)

-- without its lowest one a number has its other bits
off-even : (x : ℕ) → 0 < x → x % 2 ≡ 0 → bit_and x (x - 1) ≡ bit_and (x / 2) (x / 2 - 1) * 2
off-even x p e =
    let f : (x - 1) / 2 ≡ x / 2 - 1 = omega arith in
    let g : (x - 1) % 2 ≡ 1 = omega arith in
    and_step x (x - 1) ∙ rw (e, f, g) (omega arith)

off-odd : (x : ℕ) → x % 2 ≡ 1 → bit_and x (x - 1) ≡ x / 2 * 2
off-odd x e =
    let f : (x - 1) / 2 ≡ x / 2 = omega arith in
    let g : (x - 1) % 2 ≡ 0 = omega arith in
    and_step x (x - 1) ∙ rw (e, f, g, and_self (x / 2)) (omega arith)

bit_of-twice : (y k : ℕ) → bit_of (y * 2) (suc k) ≡ bit_of y k
unfolding bit_of
bit_of-twice y k = let e : y * 2 / 2 ≡ y = omega arith in rw e refl

pub lowest-off : (w x : ℕ) → 0 < x → x < 2 ^ w → bit_of (bit_and x (x - 1)) (count_trailing_zeros w x) ≡ 0
unfolding count_trailing_zeros bit_of
lowest-off zero x p h = absurd (omega arith)
lowest-off (suc w) x p h =
    ⊎_elim
    (λ (e : x % 2 ≡ 0). rw (off-even x p e) (rw e (bit_of-twice (bit_and (x / 2) (x / 2 - 1)) (count_trailing_zeros w (x / 2)) ∙ lowest-off w (x / 2) (omega arith) (omega (arith, pow-succ' 2 w)))))
    (λ (e : x % 2 ≡ 1). rw (off-odd x e) (rw e (omega arith)))
    (even-or-odd x)

pub others-stay : (w x k : ℕ) → 0 < x → x < 2 ^ w → (k ≡ count_trailing_zeros w x → ⊥) → bit_of (bit_and x (x - 1)) k ≡ bit_of x k
unfolding count_trailing_zeros bit_of
others-stay zero x k p h n = absurd (omega arith)
others-stay (suc w) x zero p h n =
    ⊎_elim
    (λ (e : x % 2 ≡ 0). rw (off-even x p e, e) (omega arith))
    (λ (e : x % 2 ≡ 1). absurd (n (rw e refl)))
    (even-or-odd x)
others-stay (suc w) x (suc k) p h n =
    ⊎_elim
    (λ (e : x % 2 ≡ 0). rw (off-even x p e) (bit_of-twice (bit_and (x / 2) (x / 2 - 1)) k ∙ others-stay w (x / 2) k (omega arith) (omega (arith, pow-succ' 2 w)) (λ q. n (rw e (ap suc q)))))
    (λ (e : x % 2 ≡ 1). rw (off-odd x e) (bit_of-twice (x / 2) k))
    (even-or-odd x)
