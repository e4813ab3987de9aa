-- How far one place lies before another in the circle, and what a turn does to it: by cases on whether the way goes past the last place.
use mathlib.Core.Path.{◌≡◌, refl}
use mathlib.Core.Logic.{◌≢◌}
use mathlib.Core.Bool.{Bool, true, false, not}
use Prim.Native.Nat.{ℕ, suc, ◌+◌, ◌-◌, ◌≤◌, ◌<◌}
use native.Mathlib.Omega.{arith}
use lib.Dec.{T, leb, ltb, leb→le, nleb→lt, ltb→lt, nltb→le}
use Rattle.laws.specs.Choice.{pick}
use Rattle.circle.specs.Order.{next}

-- the turns from place p forward to place q, of T
unfoldable pub dist : ℕ → ℕ → ℕ → ℕ
dist t p q = pick (leb p q) (q - p) ((t + q) - p)

data NextIs (t p r : ℕ) : Type 0 where
  on : p + 1 < t → r ≡ p + 1 → NextIs t p r
  wrap : t ≤ p + 1 → r ≡ 0 → NextIs t p r

next-is : (t p : ℕ) → NextIs t p (next t p)
unfolding next
next-is t p = go (ltb (p + 1) t) (ltb→lt (p + 1) t) (nltb→le (p + 1) t)
  where
    go : (b : Bool) → (T b → p + 1 < t) → (T (not b) → t ≤ p + 1) → NextIs t p (pick b (p + 1) 0)
    go true f g = on (f tt) refl
    go false f g = wrap (g tt) refl

data DistIs (t p q d : ℕ) : Type 0 where
  ahead : d + p ≡ q → DistIs t p q d
  round : q < p → d + p ≡ t + q → DistIs t p q d

dist-is : (t p q : ℕ) → p < t → DistIs t p q (dist t p q)
unfolding dist
dist-is t p q hp = go (leb p q) (leb→le p q) (nleb→lt p q)
  where
    go : (b : Bool) → (T b → p ≤ q) → (T (not b) → q < p) → DistIs t p q (pick b (q - p) ((t + q) - p))
    go true f g = let h = f tt in ahead (omega arith)
    go false f g = let h = g tt in round h (omega arith)

next-in₁ : (t p r : ℕ) → p < t → NextIs t p r → r < t
next-in₁ t p r hp (on h e) = omega arith
next-in₁ t p r hp (wrap h e) = omega arith

pub next-in : (t p : ℕ) → p < t → next t p < t
next-in t p hp = next-in₁ t p (next t p) hp (next-is t p)

dist-lt₁ : (t p q d : ℕ) → q < t → DistIs t p q d → d < t
dist-lt₁ t p q d hq (ahead e) = omega arith
dist-lt₁ t p q d hq (round h e) = omega arith

pub dist-lt : (t p q : ℕ) → p < t → q < t → dist t p q < t
dist-lt t p q hp hq = dist-lt₁ t p q (dist t p q) hq (dist-is t p q hp)

dist-same₁ : (t q d : ℕ) → DistIs t q q d → d ≡ 0
dist-same₁ t q d (ahead e) = omega arith
dist-same₁ t q d (round h e) = omega arith

pub dist_same : (t q : ℕ) → q < t → dist t q q ≡ 0
dist_same t q hq = dist-same₁ t q (dist t q q) (dist-is t q q hq)

dist-pos₁ : (t p q d : ℕ) → p < t → p ≢ q → DistIs t p q d → 1 ≤ d
dist-pos₁ t p q d hp ne (ahead e) = omega arith
dist-pos₁ t p q d hp ne (round h e) = omega arith

pub dist-pos : (t p q : ℕ) → p < t → p ≢ q → 1 ≤ dist t p q
dist-pos t p q hp ne = dist-pos₁ t p q (dist t p q) hp ne (dist-is t p q hp)

-- a turn of another brings q nearer by one
dist-next₁ : (t p q r d e : ℕ) → p < t → q < t → p ≢ q → NextIs t p r → DistIs t p q d → DistIs t r q e → suc e ≡ d
dist-next₁ t p q r d e hp hq ne (on h k) (ahead a) (ahead b) = omega arith
dist-next₁ t p q r d e hp hq ne (on h k) (ahead a) (round l b) = omega arith
dist-next₁ t p q r d e hp hq ne (on h k) (round l a) (ahead b) = omega arith
dist-next₁ t p q r d e hp hq ne (on h k) (round l a) (round m b) = omega arith
dist-next₁ t p q r d e hp hq ne (wrap h k) (ahead a) (ahead b) = omega arith
dist-next₁ t p q r d e hp hq ne (wrap h k) (ahead a) (round l b) = omega arith
dist-next₁ t p q r d e hp hq ne (wrap h k) (round l a) (ahead b) = omega arith
dist-next₁ t p q r d e hp hq ne (wrap h k) (round l a) (round m b) = omega arith

pub dist-next : (t p q : ℕ) → p < t → q < t → p ≢ q → suc (dist t (next t p) q) ≡ dist t p q
dist-next t p q hp hq ne =
    dist-next₁ t p q (next t p) (dist t p q) (dist t (next t p) q) hp hq ne (next-is t p) (dist-is t p q hp) (dist-is t (next t p) q (next-in t p hp))

-- its own turn puts q a whole circle away
dist-own₁ : (t q r e : ℕ) → q < t → NextIs t q r → DistIs t r q e → suc e ≡ t
dist-own₁ t q r e hq (on h k) (ahead b) = omega arith
dist-own₁ t q r e hq (on h k) (round l b) = omega arith
dist-own₁ t q r e hq (wrap h k) (ahead b) = omega arith
dist-own₁ t q r e hq (wrap h k) (round l b) = omega arith

pub dist-own : (t q : ℕ) → q < t → suc (dist t (next t q) q) ≡ t
dist-own t q hq = dist-own₁ t q (next t q) (dist t (next t q) q) hq (next-is t q) (dist-is t (next t q) q (next-in t q hq))

-- two places as far from q are one
dist-inj₁ : (t p h q d : ℕ) → p < t → h < t → DistIs t p q d → DistIs t h q d → p ≡ h
dist-inj₁ t p h q d hp hh (ahead a) (ahead b) = omega arith
dist-inj₁ t p h q d hp hh (ahead a) (round l b) = omega arith
dist-inj₁ t p h q d hp hh (round l a) (ahead b) = omega arith
dist-inj₁ t p h q d hp hh (round l a) (round m b) = omega arith

pub dist-inj : (t p h q : ℕ) → p < t → h < t → dist t p q ≡ dist t h q → p ≡ h
dist-inj t p h q hp hh e = dist-inj₁ t p h q (dist t p q) hp hh (dist-is t p q hp) (rw e (dist-is t h q hh))
