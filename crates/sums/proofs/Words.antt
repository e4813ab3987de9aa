-- Laws of the two sums: one word more, sums taken without the modulus, sums of a block's front, and of blocks that differ in one word.
use Rattle.std.proofs.Common.{◌≡◌, ℕ, zero, suc, ◌+◌, ◌*◌, ◌%◌, ◌<◌, ◌≤◌, List, ◌++◌, length, sym, refl, ap, ◌∙◌, ⊎_elim, le_of_suc-le-suc, not-suc-le-zero, mod-lt, mod-eq_of_lt, eq-or-lt_of_le, add-one, arith, eq-eqb, ne_eqb}
use native.Mathlib.Nat.{mod-add-mod, add-mod, zero-mod}
use lib.ListN.{get_or-append}
use Rattle.sums.specs.Check.{word, sum_a, sum_b, modulus_for}

-- both sums without the modulus
unfoldable pub plain_a : List ℕ → ℕ → ℕ
plain_a b zero = 1
plain_a b (suc k) = plain_a b k + word b k

unfoldable pub plain_b : List ℕ → ℕ → ℕ
plain_b b zero = 0
plain_b b (suc k) = plain_b b k + plain_a b (suc k)

pub plain_a-none : (b : List ℕ) → plain_a b 0 ≡ 1
unfolding plain_a
plain_a-none b = refl

pub plain_b-none : (b : List ℕ) → plain_b b 0 ≡ 0
unfolding plain_b
plain_b-none b = refl

pub plain_a-more : (b : List ℕ) (k : ℕ) → plain_a b (k + 1) ≡ plain_a b k + word b k
unfolding plain_a
plain_a-more b k = rw (add-one k)

pub plain_b-more : (b : List ℕ) (k : ℕ) → plain_b b (k + 1) ≡ plain_b b k + plain_a b (k + 1)
unfolding plain_b
plain_b-more b k = rw (add-one k)

-- one word more, with the modulus
pub sum_a-more : (M : ℕ) (b : List ℕ) (k : ℕ) → sum_a M b (k + 1) ≡ (sum_a M b k + word b k) % M
unfolding sum_a
sum_a-more M b k = rw (add-one k)

pub sum_b-more : (M : ℕ) (b : List ℕ) (k : ℕ) → sum_b M b (k + 1) ≡ (sum_b M b k + sum_a M b (k + 1)) % M
unfolding sum_b
sum_b-more M b k = rw (add-one k)

pub sum_a-none : (M : ℕ) (b : List ℕ) → sum_a M b 0 ≡ 1
unfolding sum_a
sum_a-none M b = refl

pub sum_b-none : (M : ℕ) (b : List ℕ) → sum_b M b 0 ≡ 0
unfolding sum_b
sum_b-none M b = refl

-- the modulus of a version
pub modulus-old : (version : ℕ) → version ≡ 1 → modulus_for version ≡ 65535
unfolding modulus_for
modulus-old version e = rw (eq-eqb version 1 e)

pub modulus-new : (version : ℕ) → (version ≡ 1 → ⊥) → modulus_for version ≡ 65536
unfolding modulus_for
modulus-new version h = rw (ne_eqb version 1 h)

-- the modulus may be taken at the end
pub sum_a-plain : (M : ℕ) (b : List ℕ) (k : ℕ) → 1 < M → sum_a M b k ≡ plain_a b k % M
unfolding sum_a plain_a
sum_a-plain M b zero h = sym (mod-eq_of_lt h)
sum_a-plain M b (suc k) h = rw (sum_a-plain M b k h) (mod-add-mod (plain_a b k) M (word b k))

pub sum_b-plain : (M : ℕ) (b : List ℕ) (k : ℕ) → 1 < M → sum_b M b k ≡ plain_b b k % M
unfolding sum_b plain_b
sum_b-plain M b zero h = sym (zero-mod M)
sum_b-plain M b (suc k) h =
    ap (λ (x : ℕ). (x + sum_a M b (suc k)) % M) (sum_b-plain M b k h)
    ∙ ap (λ (x : ℕ). (plain_b b k % M + x) % M) (sum_a-plain M b (suc k) h)
    ∙ sym (add-mod (plain_b b k) (plain_a b (suc k)) M)

pub sum_a-lt : (M : ℕ) (b : List ℕ) (k : ℕ) → 1 < M → sum_a M b k < M
sum_a-lt M b k h = rw (sum_a-plain M b k h) (mod-lt (plain_a b k) (omega arith))

pub sum_b-lt : (M : ℕ) (b : List ℕ) (k : ℕ) → 1 < M → sum_b M b k < M
sum_b-lt M b k h = rw (sum_b-plain M b k h) (mod-lt (plain_b b k) (omega arith))

-- the sums of k words see the first 2 k bytes alone
word-front : (p t : List ℕ) (k : ℕ) → 2 * k + 2 ≤ length p → word (p ++ t) k ≡ word p k
word-front p t k h = rw (get_or-append p t 0 (2 * k) (omega arith), get_or-append p t 0 (2 * k + 1) (omega arith))

pub sum_a-front : (M : ℕ) (p t : List ℕ) (k : ℕ) → 2 * k ≤ length p → sum_a M (p ++ t) k ≡ sum_a M p k
unfolding sum_a
sum_a-front M p t zero h = refl
sum_a-front M p t (suc k) h = rw (sum_a-front M p t k (omega arith), word-front p t k (omega arith))

pub sum_b-front : (M : ℕ) (p t : List ℕ) (k : ℕ) → 2 * k ≤ length p → sum_b M (p ++ t) k ≡ sum_b M p k
unfolding sum_b
sum_b-front M p t zero h = refl
sum_b-front M p t (suc k) h = rw (sum_b-front M p t k (omega arith), sum_a-front M p t (suc k) h)

-- blocks that differ in word k: the first sums differ by as much
plain_a-same : (b c : List ℕ) (n : ℕ) → ((i : ℕ) → i < n → word c i ≡ word b i) → plain_a c n ≡ plain_a b n
unfolding plain_a
plain_a-same b c zero h = refl
plain_a-same b c (suc n) h = omega (arith, plain_a-same b c n (λ i l. h i (omega arith)), h n (omega arith))

plain_a-change : (b c : List ℕ) (k n : ℕ) → k < n → ((i : ℕ) → i < n → (i ≡ k → ⊥) → word c i ≡ word b i) → plain_a c n + word b k ≡ plain_a b n + word c k
unfolding plain_a
plain_a-change b c k zero l h = absurd (not-suc-le-zero l)
plain_a-change b c k (suc n) l h =
    ⊎_elim
    (λ (e : k ≡ n). rw e (omega (arith, plain_a-same b c n (λ i q. h i (omega arith) (λ z. absurd (omega arith))))))
    (λ (q : k < n). omega (arith, plain_a-change b c k n q (λ i s. h i (omega arith)), h n (omega arith) (λ z. absurd (omega arith))))
    (eq-or-lt_of_le (le_of_suc-le-suc l))

-- by the new rule the first sum then tells them apart
pub sum_a-tells : (b c : List ℕ) (k n : ℕ) → k < n → ((i : ℕ) → i < n → (i ≡ k → ⊥) → word c i ≡ word b i)
    → word b k < 65536 → word c k < 65536 → (word c k ≡ word b k → ⊥) → sum_a 65536 c n ≡ sum_a 65536 b n → ⊥
sum_a-tells b c k n l h wb wc ne e =
    ne (omega (arith, plain_a-change b c k n l h, sym (sum_a-plain 65536 c n (omega arith)) ∙ e ∙ sum_a-plain 65536 b n (omega arith)))
