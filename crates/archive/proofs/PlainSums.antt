-- Both sums without the modulus, over many words: what the words of a head and of a full record block make them, and when a sum is the same by both rules.
use mathlib.Core.Path.{◌≡◌, refl, ◌∙◌}
use mathlib.Core.List.{List}
use mathlib.Core.Logic.{⊎_elim}
use Prim.Native.Nat.{ℕ, zero, suc, ◌+◌, ◌*◌, ◌/◌, ◌%◌, ◌-◌, ◌≤◌, ◌<◌}
use native.Mathlib.Nat.{suc-mul}
use native.Mathlib.Omega.{arith}
use Rattle.laws.proofs.Splice.{lt-or-ge}
use Rattle.sums.specs.Check.{word}
use Rattle.sums.proofs.Words.{plain_a, plain_b, plain_a-none, plain_b-none, plain_a-more, plain_b-more}

-- both sums over more words: what is there stays, and sum b takes sum a once for each
module _ (b : List ℕ) where
  rises : (k d : ℕ) → (plain_a b k ≤ plain_a b (k + d)) × (plain_b b k + d * plain_a b k ≤ plain_b b (k + d))
  rises k zero = let e : k + zero ≡ k = omega arith in rw e (omega arith, omega arith)
  rises k (suc d) =
      let e : k + suc d ≡ k + d + 1 = omega arith in
      let q = rises k d in
      rw e (omega (arith, q.0, plain_a-more b (k + d)), omega (arith, q.0, q.1, plain_a-more b (k + d), plain_b-more b (k + d), suc-mul d (plain_a b k)))

  still : (k d : ℕ) → ((i : ℕ) → k ≤ i → i < k + d → word b i ≡ 0) → (plain_a b (k + d) ≡ plain_a b k) × (plain_b b (k + d) ≡ plain_b b k + d * plain_a b k)
  still k zero z = let e : k + zero ≡ k = omega arith in rw e (refl, omega arith)
  still k (suc d) z =
      let e : k + suc d ≡ k + d + 1 = omega arith in
      let q = still k d (λ i a l. z i a (omega arith)) in
      let o : word b (k + d) ≡ 0 = z (k + d) (omega arith) (omega arith) in
      rw e (omega (arith, q.0, o, plain_a-more b (k + d)), omega (arith, q.0, q.1, o, plain_a-more b (k + d), plain_b-more b (k + d), suc-mul d (plain_a b k)))

  -- no sum is larger than words of two bytes make it
  module _ (small : (i : ℕ) → word b i < 65536) where
    bound-a : (k : ℕ) → plain_a b k ≤ 1 + 65535 * k
    bound-a zero = omega (arith, plain_a-none b)
    bound-a (suc k) = let e : suc k ≡ k + 1 = omega arith in rw e (omega (arith, bound-a k, plain_a-more b k, small k))

    pub bound-b : (k : ℕ) → k ≤ 254 → plain_b b k ≤ 16645891 * k
    bound-b zero l = omega (arith, plain_b-none b)
    bound-b (suc k) l = let e : suc k ≡ k + 1 = omega arith in rw e (omega (arith, bound-b k (omega arith), bound-a (k + 1), plain_b-more b k))

  -- the words of the front, one after the other
  front : (plain_a b 4 ≡ 1 + word b 0 + word b 1 + word b 2 + word b 3) × (plain_b b 4 ≡ 4 + 4 * word b 0 + 3 * word b 1 + 2 * word b 2 + word b 3)
  front = (
    omega (arith, plain_a-none b, plain_a-more b 0, plain_a-more b 1, plain_a-more b 2, plain_a-more b 3),
    omega (arith, plain_a-none b, plain_b-none b, plain_a-more b 0, plain_a-more b 1, plain_a-more b 2, plain_a-more b 3, plain_b-more b 0, plain_b-more b 1, plain_b-more b 2, plain_b-more b 3),
  )

  one_more : (k a s : ℕ) → plain_a b k ≡ a → plain_b b k ≡ s → (plain_a b (k + 1) ≡ a + word b k) × (plain_b b (k + 1) ≡ s + (a + word b k))
  one_more k a s e f = (omega (arith, plain_a-more b k), omega (arith, plain_a-more b k, plain_b-more b k))

  four-more : (a s : ℕ) → plain_a b 4 ≡ a → plain_b b 4 ≡ s
      → (plain_a b 8 ≡ a + word b 4 + word b 5 + word b 6 + word b 7)
      × (plain_b b 8 ≡ s + (a + word b 4) + (a + word b 4 + word b 5) + (a + word b 4 + word b 5 + word b 6) + (a + word b 4 + word b 5 + word b 6 + word b 7))
  four-more a s e f =
      let p = one_more 4 a s e f in
      let q = one_more 5 (a + word b 4) (s + (a + word b 4)) p.0 p.1 in
      let r = one_more 6 (a + word b 4 + word b 5) (s + (a + word b 4) + (a + word b 4 + word b 5)) q.0 q.1 in
      one_more 7 (a + word b 4 + word b 5 + word b 6) (s + (a + word b 4) + (a + word b 4 + word b 5) + (a + word b 4 + word b 5 + word b 6)) r.0 r.1

  -- a head's sums: four words more, then zeros
  pub head-sums : ((i : ℕ) → 8 ≤ i → i < 254 → word b i ≡ 0)
      → (plain_a b 254 ≡ 1 + word b 0 + word b 1 + word b 2 + word b 3 + word b 4 + word b 5 + word b 6 + word b 7)
      × (plain_b b 254 ≡ 254 + 254 * word b 0 + 253 * word b 1 + 252 * word b 2 + 251 * word b 3 + 250 * word b 4 + 249 * word b 5 + 248 * word b 6 + 247 * word b 7)
  head-sums z =
      let s = still 8 246 (λ i a l. z i a (omega arith)) in
      let f = four-more (1 + word b 0 + word b 1 + word b 2 + word b 3) (4 + 4 * word b 0 + 3 * word b 1 + 2 * word b 2 + word b 3) front.0 front.1 in
      (s.0 ∙ f.0, omega (arith, s.1, f.0, f.1))

  -- a record's leaf number, and its 32 words whatever they are
  record-step : (k a s y h : ℕ) → a ≤ plain_a b k → s ≤ plain_b b k → y ≤ word b k → h ≤ word b (k + 1)
      → (a + y + h ≤ plain_a b (k + 34)) × (s + 34 * a + 34 * y + 33 * h ≤ plain_b b (k + 34))
  record-step k a s y h ha hs hy hh =
      let e : k + 1 + 1 ≡ k + 2 = omega arith in
      let f : k + 2 + 32 ≡ k + 34 = omega arith in
      let a2 : plain_a b (k + 2) ≡ plain_a b (k + 1) + word b (k + 1) = rw e at (plain_a-more b (k + 1)) in
      let b2 : plain_b b (k + 2) ≡ plain_b b (k + 1) + plain_a b (k + 2) = rw e at (plain_b-more b (k + 1)) in
      let r : (plain_a b (k + 2) ≤ plain_a b (k + 34)) × (plain_b b (k + 2) + 32 * plain_a b (k + 2) ≤ plain_b b (k + 34)) = rw f at (rises (k + 2) 32) in
      (omega (arith, r.0, a2, plain_a-more b k), omega (arith, r.1, a2, b2, plain_a-more b k, plain_b-more b k))

-- a full record block whose leaf numbers have h above and x and more below
pub block-sum : (b : List ℕ) (j x h : ℕ) → word b 0 ≡ j → word b 1 ≡ 0 → word b 2 ≡ 2 → word b 3 ≡ 7
    → ((i : ℕ) → i < 7 → (x + i ≤ word b (4 + 34 * i)) × (h ≤ word b (4 + 34 * i + 1)))
    → 4671 + 254 * j + 1036 * x + 1029 * h ≤ plain_b b 254
block-sum b j x h w0 w1 w2 w3 r =
    let t0 : (10 + 1 * j ≤ plain_a b 4) × (15 + 4 * j ≤ plain_b b 4) = (omega (arith, (front b).0, w0, w1, w2, w3), omega (arith, (front b).1, w0, w1, w2, w3)) in
    let q1 = record-step b 4 (10 + 1 * j) (15 + 4 * j) (x + 0) h t0.0 t0.1 (r 0 (omega arith)).0 (r 0 (omega arith)).1 in
    let t1 : (10 + 1 * j + 1 * x + 1 * h ≤ plain_a b 38) × (355 + 38 * j + 34 * x + 33 * h ≤ plain_b b 38) = (omega (arith, q1.0), omega (arith, q1.1)) in
    let q2 = record-step b 38 (10 + 1 * j + 1 * x + 1 * h) (355 + 38 * j + 34 * x + 33 * h) (x + 1) h t1.0 t1.1 (r 1 (omega arith)).0 (r 1 (omega arith)).1 in
    let t2 : (11 + 1 * j + 2 * x + 2 * h ≤ plain_a b 72) × (729 + 72 * j + 102 * x + 100 * h ≤ plain_b b 72) = (omega (arith, q2.0), omega (arith, q2.1)) in
    let q3 = record-step b 72 (11 + 1 * j + 2 * x + 2 * h) (729 + 72 * j + 102 * x + 100 * h) (x + 2) h t2.0 t2.1 (r 2 (omega arith)).0 (r 2 (omega arith)).1 in
    let t3 : (13 + 1 * j + 3 * x + 3 * h ≤ plain_a b 106) × (1171 + 106 * j + 204 * x + 201 * h ≤ plain_b b 106) = (omega (arith, q3.0), omega (arith, q3.1)) in
    let q4 = record-step b 106 (13 + 1 * j + 3 * x + 3 * h) (1171 + 106 * j + 204 * x + 201 * h) (x + 3) h t3.0 t3.1 (r 3 (omega arith)).0 (r 3 (omega arith)).1 in
    let t4 : (16 + 1 * j + 4 * x + 4 * h ≤ plain_a b 140) × (1715 + 140 * j + 340 * x + 336 * h ≤ plain_b b 140) = (omega (arith, q4.0), omega (arith, q4.1)) in
    let q5 = record-step b 140 (16 + 1 * j + 4 * x + 4 * h) (1715 + 140 * j + 340 * x + 336 * h) (x + 4) h t4.0 t4.1 (r 4 (omega arith)).0 (r 4 (omega arith)).1 in
    let t5 : (20 + 1 * j + 5 * x + 5 * h ≤ plain_a b 174) × (2395 + 174 * j + 510 * x + 505 * h ≤ plain_b b 174) = (omega (arith, q5.0), omega (arith, q5.1)) in
    let q6 = record-step b 174 (20 + 1 * j + 5 * x + 5 * h) (2395 + 174 * j + 510 * x + 505 * h) (x + 5) h t5.0 t5.1 (r 5 (omega arith)).0 (r 5 (omega arith)).1 in
    let t6 : (25 + 1 * j + 6 * x + 6 * h ≤ plain_a b 208) × (3245 + 208 * j + 714 * x + 708 * h ≤ plain_b b 208) = (omega (arith, q6.0), omega (arith, q6.1)) in
    let q7 = record-step b 208 (25 + 1 * j + 6 * x + 6 * h) (3245 + 208 * j + 714 * x + 708 * h) (x + 6) h t6.0 t6.1 (r 6 (omega arith)).0 (r 6 (omega arith)).1 in
    let t7 : (31 + 1 * j + 7 * x + 7 * h ≤ plain_a b 242) × (4299 + 242 * j + 952 * x + 945 * h ≤ plain_b b 242) = (omega (arith, q7.0), omega (arith, q7.1)) in
    omega (arith, t7.0, t7.1, (rises b 242 12).1)

-- a sum that is the same by both rules is small; and a head with the same sum by the new rule, and by the old one with 1 for 2, has many records
pub same_low : (p : ℕ) → p ≤ 4228056314 → p % 65536 ≡ p % 65535 → p < 65535
same_low p h e =
    let q : ℕ = p / 65536 in
    let r : ℕ = p / 65535 in
    let d : q ≡ 65535 * (r - q) = omega arith in
    ⊎_elim (λ (l : r - q < 1). omega arith) (λ (l : 1 ≤ r - q). absurd (omega arith)) (lt-or-ge (r - q) 1)

far-up : (p : ℕ) → 251 ≤ p → p % 65536 ≡ (p - 251) % 65535 → 16449536 ≤ p
far-up p h e =
    let q : ℕ = p / 65536 in
    let r : ℕ = (p - 251) / 65535 in
    ⊎_elim (λ (l : r < q). absurd (omega arith)) (λ (l : q ≤ r). omega arith) (lt-or-ge r q)

pub many-recorded : (x y z w : ℕ) → x < 65536 → x + 65536 * y ≤ 262144 → z < 65536
    → (1008 + 250 * x + 249 * y + 248 * z + 247 * w) % 65536 ≡ (757 + 250 * x + 249 * y + 248 * z + 247 * w) % 65535 → 259 ≤ z + 65536 * w
many-recorded x y z w hx hn hz e =
    let d : 1008 + 250 * x + 249 * y + 248 * z + 247 * w - 251 ≡ 757 + 250 * x + 249 * y + 248 * z + 247 * w = omega arith in
    let u : 16449536 ≤ 1008 + 250 * x + 249 * y + 248 * z + 247 * w = far-up (1008 + 250 * x + 249 * y + 248 * z + 247 * w) (omega arith) (rw d e) in
    ⊎_elim (λ (l : z + 65536 * w < 259). absurd (below x y z w hx hn l u)) (λ l. l) (lt-or-ge (z + 65536 * w) 259)
  where
    below : (x y z w : ℕ) → x < 65536 → x + 65536 * y ≤ 262144 → z + 65536 * w < 259 → 16449536 ≤ 1008 + 250 * x + 249 * y + 248 * z + 247 * w → ⊥
    below x y z w hx hn l u = omega arith
