-- Laws of scans: what a loop shows turn by turn, and what the result says.
use mathlib.Core.Path.{◌≡◌, refl, sym, ◌∙◌, subst, ap}
use mathlib.Core.Bool.{Bool, true, false}
use mathlib.Core.Logic.{⊎_elim}
use Prim.Native.Nat.{ℕ, zero, suc, ◌+◌, ◌-◌, ◌≤◌, ◌<◌}
use native.Mathlib.Nat.{eq-or-lt_of_le, le_of_suc-le-suc}
use native.Mathlib.Numerals.{add-one}
use native.Mathlib.Omega.{arith}
use lib.Dec.{leb}
use borrow.Author.Tests.{lt-ltb, le-ltb, le-leb, lt-leb, leb-true}
use Rattle.laws.specs.Choice.{both, one}
use Rattle.laws.specs.Scan.{first, all, count, from, first_from, count_from}
use Rattle.laws.proofs.Choice.{not-both-ways, true-or-false, both_left, both_right, both_true, both-when, both-false-left}
use Rattle.laws.proofs.Splice.{lt-or-ge}

module _ (p : ℕ → Bool) where
  pub first-zero : first p 0 ≡ 0
  unfolding first
  first-zero = refl

  first-suc-hit : (n : ℕ) → first p n ≡ n → p n ≡ true → first p (suc n) ≡ n
  unfolding first
  first-suc-hit n e f = rw (e, le-ltb n n (omega arith), f)

  first-suc-miss : (n : ℕ) → first p n ≡ n → p n ≡ false → first p (suc n) ≡ suc n
  unfolding first
  first-suc-miss n e f = rw (e, le-ltb n n (omega arith), f)

  -- one more place does not move a first that is there
  pub first-suc-old : (n : ℕ) → first p n < n → first p (suc n) ≡ first p n
  unfolding first
  first-suc-old n l = rw (lt-ltb (first p n) n l)

  pub first-≤ : (n : ℕ) → first p n ≤ n
  first-≤ zero = omega (arith, first-zero)
  first-≤ (suc n) =
      let ih : first p n ≤ n = first-≤ n in
      ⊎_elim (λ (e : first p n ≡ n). ⊎_elim (λ t. omega (arith, first-suc-hit n e t)) (λ f. omega (arith, first-suc-miss n e f)) (true-or-false (p n)))
      (λ (l : first p n < n). omega (arith, first-suc-old n l)) (eq-or-lt_of_le ih)

  -- none below i and none at i: none below i + 1
  pub first-miss : (i : ℕ) → first p i ≡ i → p i ≡ false → first p (i + 1) ≡ i + 1
  first-miss i e f = rw add-one (first-suc-miss i e f)

  first-stays : (i k n : ℕ) → first p i ≡ k → k < i → i ≤ n → first p n ≡ k
  first-stays i k zero e l h = absurd (omega arith)
  first-stays i k (suc n) e l h = ⊎_elim (λ q. subst (λ (m : ℕ). first p m ≡ k) q e)
      (λ q. let r : first p n ≡ k = first-stays i k n e l (le_of_suc-le-suc q) in
      let s : first p n < n = let t : i ≤ n = le_of_suc-le-suc q in omega arith in first-suc-old n s ∙ r) (eq-or-lt_of_le h)

  -- none below i, and it holds at i: the first below n is i
  pub first-hit : (i n : ℕ) → first p i ≡ i → p i ≡ true → i < n → first p n ≡ i
  first-hit i n e f l = first-stays (suc i) i n (first-suc-hit i e f) (omega arith) l

  -- it holds at the first
  pub first_holds : (n : ℕ) → first p n < n → p (first p n) ≡ true
  first_holds zero l = absurd (omega arith)
  first_holds (suc n) l =
      let ih : first p n ≤ n = first-≤ n in
      ⊎_elim (λ (e : first p n ≡ n). ⊎_elim (λ t. rw (first-suc-hit n e t) t) (λ f. absurd (omega (arith, first-suc-miss n e f))) (true-or-false (p n)))
      (λ (q : first p n < n). rw (first-suc-old n q) (first_holds n q)) (eq-or-lt_of_le ih)

  -- and at none before it
  pub first-before : (n i : ℕ) → i < first p n → p i ≡ false
  first-before zero i l = absurd (omega (arith, first-zero))
  first-before (suc n) i l =
      let ih : first p n ≤ n = first-≤ n in
      ⊎_elim (λ (e : first p n ≡ n). ⊎_elim (λ t. first-before n i (omega (arith, first-suc-hit n e t)))
      (λ f. let h : first p (suc n) ≡ suc n = first-suc-miss n e f in
      let b : i ≤ n = omega arith in
      ⊎_elim (λ q. rw q f) (λ q. first-before n i (omega (arith, e))) (eq-or-lt_of_le b)) (true-or-false (p n)))
      (λ (q : first p n < n). first-before n i (omega (arith, first-suc-old n q))) (eq-or-lt_of_le ih)

  -- the first is i: it holds there and nowhere before
  pub first-is : (n i : ℕ) → i < n → p i ≡ true → ((k : ℕ) → k < i → p k ≡ false) → first p n ≡ i
  first-is n i l t f = first-hit i n (none i (λ k q. f k q)) t l
    where
      none : (j : ℕ) → ((k : ℕ) → k < j → p k ≡ false) → first p j ≡ j
      none zero g = first-zero
      none (suc j) g = first-suc-miss j (none j (λ k q. g k (omega arith))) (g j (omega arith))

  -- none below n
  pub first-none : (n : ℕ) → ((k : ℕ) → k < n → p k ≡ false) → first p n ≡ n
  first-none zero g = first-zero
  first-none (suc n) g = first-suc-miss n (first-none n (λ k q. g k (omega arith))) (g n (omega arith))

  pub none_first : (n k : ℕ) → first p n ≡ n → k < n → p k ≡ false
  none_first n k e l = first-before n k (omega arith)

  -- where it holds at a place below n, the first is below n
  pub first_some : (n k : ℕ) → k < n → p k ≡ true → first p n < n
  first_some n k l t = ⊎_elim (λ (e : first p n ≡ n). absurd (not-both-ways t (none_first n k e l))) (λ (h : first p n < n). h) (eq-or-lt_of_le (first-≤ n))

-- two tests that agree below n have the same first
pub first-same : (p q : ℕ → Bool) (n : ℕ) → ((k : ℕ) → k < n → p k ≡ q k) → first p n ≡ first q n
unfolding first
first-same p q zero h = refl
first-same p q (suc n) h = rw (first-same p q n (λ k l. h k (omega arith)), h n (omega arith))

module _ (p : ℕ → Bool) where
  pub all-zero : all p 0 ≡ true
  unfolding all
  all-zero = refl

  all-suc : (n : ℕ) → all p (suc n) ≡ both (all p n) (p n)
  unfolding all
  all-suc n = refl

  pub all_more : (i : ℕ) → all p i ≡ true → p i ≡ true → all p (i + 1) ≡ true
  all_more i e f = rw (add-one, all-suc) (both_true _ _ e f)

  -- what the test says, of each number
  pub all-at : (n : ℕ) → all p n ≡ true → (k : ℕ) → k < n → p k ≡ true
  all-at zero e k l = absurd (omega arith)
  all-at (suc n) e k l =
      let h : both (all p n) (p n) ≡ true = sym (all-suc n) ∙ e in
      let b : k ≤ n = omega arith in
      ⊎_elim (λ q. rw q (both_right (all p n) (p n) h)) (λ q. all-at n (both_left (all p n) (p n) h) k q) (eq-or-lt_of_le b)

  pub all-is : (n : ℕ) → ((k : ℕ) → k < n → p k ≡ true) → all p n ≡ true
  all-is zero g = all-zero
  all-is (suc n) g = rw all-suc (both_true _ _ (all-is n (λ k l. g k (omega arith))) (g n (omega arith)))

  -- it fails at i: it does not hold at all below n
  pub all-fails : (n i : ℕ) → i < n → p i ≡ false → all p n ≡ false
  all-fails n i l f = ⊎_elim (λ t. absurd (not-both-ways (all-at n t i l) f)) (λ q. q) (true-or-false (all p n))

pub all_same : (p q : ℕ → Bool) (n : ℕ) → ((k : ℕ) → k < n → p k ≡ q k) → all p n ≡ all q n
unfolding all
all_same p q zero h = refl
all_same p q (suc n) h = rw (all_same p q n (λ k l. h k (omega arith)), h n (omega arith))

-- a test from a on
module _ (p : ℕ → Bool) (a : ℕ) where
  from_is : (k : ℕ) → a ≤ k → from a p k ≡ p k
  from_is k h = both-when (leb a k) (p k) (le-leb a k h)

  from-before : (k : ℕ) → k < a → from a p k ≡ false
  from-before k h = both-false-left (leb a k) (p k) (lt-leb a k h)

  from-not : (k : ℕ) → (a ≤ k → p k ≡ false) → from a p k ≡ false
  from-not k f = ⊎_elim (λ l. from-before k l) (λ h. from_is k h ∙ f h) (lt-or-ge k a)

-- two tests that agree from a on below n agree there from a on
from-same : (p q : ℕ → Bool) (a k : ℕ) → (a ≤ k → p k ≡ q k) → from a p k ≡ from a q k
from-same p q a k h =
    ⊎_elim (λ l. from-before p a k l ∙ sym (from-before q a k l)) (λ g. from_is p a k g ∙ h g ∙ sym (from_is q a k g)) (lt-or-ge k a)

-- where p does not hold from a on below c, it is all one from a on and from c on
from-later : (p : ℕ → Bool) (a c k : ℕ) → a ≤ c → (k < c → a ≤ k → p k ≡ false) → from c p k ≡ from a p k
from-later p a c k h f = ⊎_elim (λ l. from-before p c k l ∙ sym (from-not p a k (f l)))
    (λ g. from_is p c k g ∙ sym (from_is p a k (omega arith))) (lt-or-ge k c)

module _ (p : ℕ → Bool) where
  pub first_from-≤ : (a n : ℕ) → first_from p a n ≤ n
  unfolding first_from
  first_from-≤ a n = first-≤ (from a p) n

  pub first_from-holds : (a n : ℕ) → first_from p a n < n → p (first_from p a n) ≡ true
  unfolding first_from
  first_from-holds a n l = both_right (leb a (first (from a p) n)) (p (first (from a p) n)) (first_holds (from a p) n l)

  pub first_from-≥ : (a n : ℕ) → a ≤ n → a ≤ first_from p a n
  unfolding first_from
  first_from-≥ a n h = ⊎_elim
      (λ (l : first (from a p) n < n). leb-true a (first (from a p) n) (both_left (leb a (first (from a p) n)) (p (first (from a p) n)) (first_holds (from a p) n l)))
      (λ (l : n ≤ first (from a p) n). omega arith) (lt-or-ge (first (from a p) n) n)

  -- it holds at none before it
  pub first_from-before : (a n k : ℕ) → a ≤ k → k < first_from p a n → p k ≡ false
  unfolding first_from
  first_from-before a n k h l = sym (from_is p a k h) ∙ first-before (from a p) n k l

  -- it holds at a
  pub first_from-hit : (a n : ℕ) → a < n → p a ≡ true → first_from p a n ≡ a
  unfolding first_from
  first_from-hit a n l t = first-is (from a p) n a l (from_is p a a (omega arith) ∙ t) (λ k q. from-before p a k q)

  -- it holds at none
  pub first_from-none : (a n : ℕ) → ((k : ℕ) → a ≤ k → k < n → p k ≡ false) → first_from p a n ≡ n
  unfolding first_from
  first_from-none a n f = first-none (from a p) n (λ k l. from-not p a k (λ h. f k h l))

  -- it holds at none from a on below c: the search goes on from c
  pub first_from-skip : (a c n : ℕ) → a ≤ c → ((k : ℕ) → a ≤ k → k < c → p k ≡ false) → first_from p c n ≡ first_from p a n
  unfolding first_from
  first_from-skip a c n h f = first-same (from c p) (from a p) n (λ k l. from-later p a c k h (λ q g. f k g q))

module _ (p : ℕ → Bool) (a c n : ℕ) where
  -- one that is found below c is found below n
  pub first_from-short : c ≤ n → first_from p a c < c → first_from p a n ≡ first_from p a c
  unfolding first_from
  first_from-short h l = first-is (from a p) n (first (from a p) c) (omega arith) (first_holds (from a p) c l) (λ k q. first-before (from a p) c k q)

  -- where none is found below c, the search goes on from c
  pub first_from-go-on : a ≤ c → c ≤ first_from p a c → first_from p c n ≡ first_from p a n
  first_from-go-on h l = first_from-skip p a c n h (λ k g q. first_from-before p a c k g (omega arith))

pub count_same : (p q : ℕ → Bool) (n : ℕ) → ((k : ℕ) → k < n → p k ≡ q k) → count p n ≡ count q n
unfolding count
count_same p q zero h = refl
count_same p q (suc n) h = rw (count_same p q n (λ k l. h k (omega arith)), h n (omega arith))

-- the first by itself
pub count-front : (p : ℕ → Bool) (n : ℕ) → count p (suc n) ≡ one (p 0) + count (λ (i : ℕ). p (suc i)) n
unfolding count
count-front p zero = omega arith
count-front p (suc n) = let ih : count p (suc n) ≡ one (p 0) + count (λ (i : ℕ). p (suc i)) n = count-front p n in omega arith

pub count_none : (p : ℕ → Bool) (n : ℕ) → ((k : ℕ) → k < n → p k ≡ false) → count p n ≡ 0
unfolding count
count_none p zero f = refl
count_none p (suc n) f = rw (count_none p n (λ k l. f k (omega arith)), f n (omega arith))

pub count_from-none : (p : ℕ → Bool) (a n : ℕ) → ((k : ℕ) → a ≤ k → k < n → p k ≡ false) → count_from p a n ≡ 0
unfolding count_from
count_from-none p a n f = count_none (from a p) n (λ k l. from-not p a k (λ h. f k h l))

one-≤ : (b : Bool) → one b ≤ 1
one-≤ true = omega arith
one-≤ false = omega arith

module _ (p : ℕ → Bool) where
  count_from-suc : (a n : ℕ) → a ≤ n → count_from p a (suc n) ≡ count_from p a n + one (p n)
  unfolding count_from count
  count_from-suc a n h = rw (from_is p a n h)

  count_from-past : (a n : ℕ) → n ≤ a → count_from p a n ≡ 0
  count_from-past a n h = count_from-none p a n (λ k g l. absurd (omega arith))

  -- there are no more than there are numbers
  pub count_from-most : (a n : ℕ) → a ≤ n → count_from p a n + a ≤ n
  count_from-most a zero h = omega (arith, count_from-past a 0 (omega arith))
  count_from-most a (suc n) h = ⊎_elim
      (λ (l : n < a). omega (arith, count_from-past a (suc n) (omega arith)))
      (λ (g : a ≤ n). omega (arith, count_from-suc a n g, count_from-most a n g, one-≤ (p n))) (lt-or-ge n a)

  -- those below c and those from c on
  pub count_from-add : (a c n : ℕ) → a ≤ c → c ≤ n → count_from p a n ≡ count_from p a c + count_from p c n
  count_from-add a c zero h g = let e : c ≡ 0 = omega arith in rw e (omega (arith, count_from-past 0 0 (omega arith)))
  count_from-add a c (suc n) h g = ⊎_elim
      (λ (e : c ≡ suc n). rw e (omega (arith, count_from-past (suc n) (suc n) (omega arith))))
      (λ l. let q : c ≤ n = le_of_suc-le-suc l in
      omega (arith, count_from-suc a n (omega arith), count_from-suc c n q, count_from-add a c n h q)) (eq-or-lt_of_le g)

-- counted from d
pub count_from-shift : (p : ℕ → Bool) (d a n : ℕ) → count_from p (d + a) (d + n) ≡ count_from (λ (i : ℕ). p (d + i)) a n
count_from-shift p d a zero =
    count_from-past p (d + a) (d + 0) (omega arith) ∙ sym (count_from-past (λ (i : ℕ). p (d + i)) a 0 (omega arith))
count_from-shift p d a (suc n) = ⊎_elim
    (λ (l : n < a). count_from-past p (d + a) (d + suc n) (omega arith) ∙ sym (count_from-past (λ (i : ℕ). p (d + i)) a (suc n) (omega arith)))
    (λ (g : a ≤ n). let e : d + suc n ≡ suc (d + n) = omega arith in
    rw e (count_from-suc p (d + a) (d + n) (omega arith) ∙ ap (λ (x : ℕ). x + one (p (d + n))) (count_from-shift p d a n)
    ∙ sym (count_from-suc (λ (i : ℕ). p (d + i)) a n g)))
    (lt-or-ge n a)

pub count_from-same : (p q : ℕ → Bool) (a n : ℕ) → ((k : ℕ) → a ≤ k → k < n → p k ≡ q k) → count_from p a n ≡ count_from q a n
unfolding count_from
count_from-same p q a n h = count_same (from a p) (from a q) n (λ k l. from-same p q a k (λ g. h k g l))

-- from 0 on, all
pub count_from-0 : (p : ℕ → Bool) (n : ℕ) → count_from p 0 n ≡ count p n
unfolding count_from
count_from-0 p n = count_same (from 0 p) p n (λ k l. from_is p 0 k (omega arith))

-- a test of a + c numbers is one of the first a and one of the c after them
pub all-add : (p : ℕ → Bool) (a c : ℕ) → all p a ≡ true → all (λ i. p (a + i)) c ≡ true → all p (a + c) ≡ true
all-add p a c h g =
    all-is p (a + c) (λ k l.
    ⊎_elim
    (λ (s : k < a). all-at p a h k s)
    (λ (s : a ≤ k). let e : a + (k - a) ≡ k = omega arith in ap p (sym e) ∙ all-at (λ i. p (a + i)) c g (k - a) (omega arith))
    (lt-or-ge k a))
