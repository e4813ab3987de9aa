-- Laws of the records of a memory: each is the record of a leaf with bit 1, they rise, and the record blocks have their lengths.
use mathlib.Core.Path.{◌≡◌, refl, ap, sym, ◌∙◌}
use mathlib.Core.List.{List, [], ◌∷◌, ◌++◌, append-nil}
use mathlib.Core.Bool.{true, false}
use mathlib.Core.Logic.{◌⊎◌, inl, inr, ⊎_elim}
use Prim.Native.Nat.{ℕ, zero, suc, ◌+◌, ◌*◌, ◌-◌, ◌≤◌, ◌<◌}
use native.Mathlib.Nat.{eq-or-lt_of_le, le_of_suc-le-suc, not-suc-le-zero}
use native.Mathlib.Numerals.{add-one}
use native.Mathlib.Omega.{arith}
use lib.ListN.{length, get_or, replicate, length-append, length-replicate, get_or-append}
use lib.Seq.{get_or_at}
use lib.Dec.{eqb, leb}
use borrow.Author.Tests.{eq-eqb, ne_eqb, eqb-true, eqb-false, le-leb, lt-leb}
use Rattle.laws.specs.Bytes.{part, bytes}
use Rattle.laws.specs.Scan.{count}
use Rattle.laws.proofs.Choice.{true-or-false, both_true, both-false-left, both-false-right}
use Rattle.laws.proofs.Splice.{lt-or-ge, length-part'}
use Rattle.laws.proofs.Value.{length-bytes}
use Rattle.memory.specs.PlainReading.{leaf_bit}
use Rattle.sums.specs.Check.{check_of}
use Rattle.sums.proofs.Right.{length-check}
use Rattle.form.specs.Calls.{records_to}
use Rattle.form.specs.Encode.{Form, Record, none, Sized, record_bytes, records_bytes, head_front, head_rest, head_of, headed, block_front, block_with, closed, block_of, next7, record_blocks, blocks_for, encode, record_of, records_below, records_of}

-- one leaf more
module _ (n : ℕ) (mem : List ℕ) where
  pub below-skip : (k : ℕ) → (leaf_bit n mem k ≡ 1 → ⊥) → records_below n mem (k + 1) ≡ records_below n mem k
  unfolding records_below
  below-skip k h = rw (add-one k, ne_eqb (leaf_bit n mem k) 1 h) (append-nil (records_below n mem k))

  pub below-take : (k : ℕ) → leaf_bit n mem k ≡ 1 → records_below n mem (k + 1) ≡ records_below n mem k ++ (record_of mem k ∷ [])
  unfolding records_below
  below-take k h = rw (add-one k, eq-eqb (leaf_bit n mem k) 1 h)

  pub below_none : records_below n mem 0 ≡ []
  unfolding records_below
  below_none = refl

  -- either way, as `suc`
  below-either : (k : ℕ) → ((leaf_bit n mem k ≡ 1) × (records_below n mem (suc k) ≡ records_below n mem k ++ (record_of mem k ∷ []))) ⊎ (records_below n mem (suc k) ≡ records_below n mem k)
  below-either k =
      ⊎_elim
      (λ h. inl (eqb-true (leaf_bit n mem k) 1 h, ap (records_below n mem) (sym (add-one k)) ∙ below-take k (eqb-true (leaf_bit n mem k) 1 h)))
      (λ h. inr (ap (records_below n mem) (sym (add-one k)) ∙ below-skip k (eqb-false (leaf_bit n mem k) 1 h)))
      (true-or-false (eqb (leaf_bit n mem k) 1))

  pub length-take : (k : ℕ) → leaf_bit n mem k ≡ 1 → length (records_below n mem (k + 1)) ≡ length (records_below n mem k) + 1
  length-take k h = rw (below-take k h) (length-append (records_below n mem k) (record_of mem k ∷ []))

  -- no more records than leaves, and no fewer below a later leaf
  pub length-below : (k : ℕ) → length (records_below n mem k) ≤ k
  length-below zero = rw below_none (omega arith)
  length-below (suc k) =
      ⊎_elim
      (λ w. omega (arith, length-below k, ap length w.1, length-append (records_below n mem k) (record_of mem k ∷ [])))
      (λ e. omega (arith, length-below k, ap length e))
      (below-either k)

  pub length-rises : (k j : ℕ) → k ≤ j → length (records_below n mem k) ≤ length (records_below n mem j)
  length-rises k zero h = let e : k ≡ 0 = omega arith in rw e (omega arith)
  length-rises k (suc j) h =
      ⊎_elim
      (λ (e : k ≡ suc j). rw e (omega arith))
      (λ (l : k < suc j).
      ⊎_elim
      (λ w. omega (arith, length-rises k j (omega arith), ap length w.1, length-append (records_below n mem j) (record_of mem j ∷ [])))
      (λ e. omega (arith, length-rises k j (omega arith), ap length e))
      (below-either j))
      (eq-or-lt_of_le h)

  -- the record of a leaf with bit 1 stands after those of the leaves below it
  pub below_at : (j k : ℕ) → k < j → leaf_bit n mem k ≡ 1 → get_or (records_below n mem j) (length (records_below n mem k)) none ≡ record_of mem k
  below_at zero k h b = absurd (not-suc-le-zero h)
  below_at (suc j) k h b =
      ⊎_elim
      (λ (e : k ≡ j).
      let f : records_below n mem (suc j) ≡ records_below n mem k ++ (record_of mem k ∷ []) =
      rw (← e, ← add-one k) (below-take k b) in
      rw f (get_or_at (records_below n mem k) (record_of mem k) [] none (length (records_below n mem k)) refl))
      (λ (l : k < j).
      let s : length (records_below n mem k) < length (records_below n mem j) = omega (arith, length-take k b, length-rises (k + 1) j (omega arith)) in
      ⊎_elim
      (λ w. rw w.1 (get_or-append (records_below n mem j) (record_of mem j ∷ []) none (length (records_below n mem k)) s ∙ below_at j k l b))
      (λ e. rw e (below_at j k l b))
      (below-either j))
      (eq-or-lt_of_le (le_of_suc-le-suc h))

  -- leaves without bit 1 are passed over
  pub below-unmarked : (j i : ℕ) → j ≤ i → ((k : ℕ) → j ≤ k → k < i → leaf_bit n mem k ≡ 0) → records_below n mem i ≡ records_below n mem j
  below-unmarked j zero a z = let e : j ≡ 0 = omega arith in rw e refl
  below-unmarked j (suc i) a z =
      ⊎_elim
      (λ (e : j ≡ suc i). rw e refl)
      (λ (l : j < suc i).
      let o : leaf_bit n mem i ≡ 0 = z i (omega arith) (omega arith) in
      ap (records_below n mem) (sym (add-one i)) ∙ below-skip i (λ b. absurd (omega arith)) ∙ below-unmarked j i (omega arith) (λ k g q. z k g (omega arith)))
      (eq-or-lt_of_le a)

  -- as many records more as leaves with bit 1
  pub length_more : (a d : ℕ) → length (records_below n mem (a + d)) ≡ length (records_below n mem a) + count (λ x. eqb (leaf_bit n mem (a + x)) 1) d
  unfolding count
  length_more a zero = let e : a + zero ≡ a = omega arith in rw e (omega arith)
  length_more a (suc d) =
      let e : a + suc d ≡ a + d + 1 = omega arith in
      rw e
      (⊎_elim
      (λ (h : eqb (leaf_bit n mem (a + d)) 1 ≡ true). rw h (omega (arith, length-take (a + d) (eqb-true _ _ h), length_more a d)))
      (λ (h : eqb (leaf_bit n mem (a + d)) 1 ≡ false). rw h (omega (arith, ap length (below-skip (a + d) (eqb-false _ _ h)), length_more a d)))
      (true-or-false (eqb (leaf_bit n mem (a + d)) 1)))

-- record p of the leaves below leaf j is that of a leaf
pub record Marked (n : ℕ) (mem : List ℕ) (j p : ℕ) : Type 0 where
  pub leaf : ℕ
  pub below : leaf < j
  pub bit : leaf_bit n mem leaf ≡ 1
  pub place : length (records_below n mem leaf) ≡ p

pub marked : (n : ℕ) (mem : List ℕ) (j p : ℕ) → p < length (records_below n mem j) → Marked n mem j p
marked n mem zero p h = absurd (omega (arith, length-below n mem 0))
marked n mem (suc j) p h =
    ⊎_elim
    (λ w. ⊎_elim
    (λ (l : p < length (records_below n mem j)).
    let m : Marked n mem j p = marked n mem j p l in
    record { leaf = m.leaf; below = omega (arith, m.below); bit = m.bit; place = m.place })
    (λ (g : length (records_below n mem j) ≤ p).
    record { leaf = j; below = omega arith; bit = w.0; place = omega (arith, ap length w.1, length-append (records_below n mem j) (record_of mem j ∷ [])) })
    (lt-or-ge p (length (records_below n mem j))))
    (λ e. let m : Marked n mem j p = marked n mem j p (omega (arith, ap length e)) in
    record { leaf = m.leaf; below = omega (arith, m.below); bit = m.bit; place = m.place })
    (below-either n mem j)

pub marked-is : (n : ℕ) (mem : List ℕ) (j p : ℕ) (m : Marked n mem j p) → get_or (records_below n mem j) p none ≡ record_of mem m.leaf
marked-is n mem j p m = ap (λ (x : ℕ). get_or (records_below n mem j) x none) (sym m.place) ∙ below_at n mem j m.leaf m.below m.bit

pub records-sized : (n : ℕ) (mem : List ℕ) → 64 * n ≤ length mem → Sized (records_of n mem)
unfolding Sized
records-sized n mem h p l =
    let m : Marked n mem n p = marked n mem n p l in
    ap (λ (r : Record). length r.content) (marked-is n mem n p m) ∙ length-part' mem (64 * m.leaf) 64 (omega (arith, m.below))

pub length-record : (r : Record) → length r.content ≡ 64 → length (record_bytes r) ≡ 68
length-record r h = omega (arith, length-append (bytes 4 r.leaf) r.content, length-bytes 4 r.leaf)

pub length-records : (rs : List Record) → Sized rs → (a c : ℕ) → a + c ≤ length rs → length (records_bytes rs a c) ≡ 68 * c
unfolding records_bytes Sized
length-records rs s a zero h = refl
length-records rs s a (suc c) h =
    omega (arith, length-append (records_bytes rs a c) (record_bytes (get_or rs (a + c) none)), length-record (get_or rs (a + c) none) (s (a + c) (omega arith)), length-records rs s a c (omega arith))

pub records-none : (rs : List Record) (a : ℕ) → records_bytes rs a 0 ≡ []
unfolding records_bytes
records-none rs a = refl

pub records-more : (rs : List Record) (a c : ℕ) → records_bytes rs a (c + 1) ≡ records_bytes rs a c ++ record_bytes (get_or rs (a + c) none)
unfolding records_bytes
records-more rs a c = rw (add-one c)

-- the count of the next block
pub next-few : (left : ℕ) → left ≤ 7 → next7 left ≡ left
unfolding next7
next-few left h = rw (le-leb left 7 h)

pub next-full : (left : ℕ) → 7 < left → next7 left ≡ 7
unfolding next7
next-full left h = rw (lt-leb left 7 h)

pub next-bounds : (left : ℕ) → (next7 left ≤ 7) × (next7 left ≤ left) × (0 < left → 0 < next7 left)
next-bounds left =
    ⊎_elim
    (λ (h : left < 8). let e : next7 left ≡ left = next-few left (omega arith) in (omega arith, omega arith, λ p. omega arith))
    (λ (h : 8 ≤ left). let e : next7 left ≡ 7 = next-full left (omega arith) in (omega arith, omega arith, λ p. omega arith))
    (lt-or-ge left 8)

-- lengths of blocks and images
pub length-head_front : (F : Form) (n m : ℕ) → length (head_front F n m) ≡ 16
length-head_front F n m =
    omega (
      arith,
      length-append (bytes 4 0) (bytes 2 1 ++ (bytes 2 F.version ++ (bytes 4 n ++ bytes 4 m))),
      length-append (bytes 2 1) (bytes 2 F.version ++ (bytes 4 n ++ bytes 4 m)),
      length-append (bytes 2 F.version) (bytes 4 n ++ bytes 4 m),
      length-append (bytes 4 n) (bytes 4 m),
      length-bytes 4 0,
      length-bytes 2 1,
      length-bytes 2 F.version,
      length-bytes 4 n,
      length-bytes 4 m,
    )

pub length_rest : (F : Form) → length F.after ≤ 492 → length (head_rest F) ≡ 492
length_rest F h = omega (arith, length-append F.after (replicate (492 - length F.after) 0), length-replicate {A = ℕ} (492 - length F.after) 0)

pub length-headed : (F : Form) (n m : ℕ) → length F.after ≤ 492 → length (head_front F n m ++ head_rest F) ≡ 508
length-headed F n m h = omega (arith, length-append (head_front F n m) (head_rest F), length-head_front F n m, length_rest F h)

pub length-head : (F : Form) (n m : ℕ) → length F.after ≤ 492 → length (head_of F n m) ≡ 512
unfolding head_of
length-head F n m h =
    let P : List ℕ = head_front F n m ++ head_rest F in
    omega (arith, length-append P (check_of F.modulus P), length-headed F n m h, length-check F.modulus P)

pub length-block_front : (j c : ℕ) → length (block_front j c) ≡ 8
length-block_front j c =
    omega (arith, length-append (bytes 4 j) (bytes 2 2 ++ bytes 2 c), length-append (bytes 2 2) (bytes 2 c), length-bytes 4 j, length-bytes 2 2, length-bytes 2 c)

pub length-payload : (j c : ℕ) (R : List ℕ) → c ≤ 7 → length R ≡ 68 * c → length ((block_front j c ++ R) ++ replicate (500 - 68 * c) 0) ≡ 508
length-payload j c R h e =
    omega (arith, length-append (block_front j c ++ R) (replicate (500 - 68 * c) 0), length-append (block_front j c) R, length-block_front j c, length-replicate {A = ℕ} (500 - 68 * c) 0)

pub length-with : (M j c : ℕ) (R : List ℕ) → c ≤ 7 → length R ≡ 68 * c → length (block_with M j c R) ≡ 512
unfolding block_with
length-with M j c R h e =
    let P : List ℕ = (block_front j c ++ R) ++ replicate (500 - 68 * c) 0 in
    omega (arith, length-append P (check_of M P), length-payload j c R h e, length-check M P)

pub length-block : (M j : ℕ) (rs : List Record) (a c : ℕ) → Sized rs → c ≤ 7 → a + c ≤ length rs → length (block_of M j rs a c) ≡ 512
length-block M j rs a c s h g = length-with M j c (records_bytes rs a c) h (length-records rs s a c g)

pub length-blocks : (M : ℕ) (rs : List Record) → Sized rs → (j : ℕ) → 7 * j ≤ length rs + 6 → length (record_blocks M rs j) ≡ 512 * j
unfolding record_blocks
length-blocks M rs s zero h = refl
length-blocks M rs s (suc j) h =
    let c : ℕ = next7 (length rs - 7 * j) in
    omega (
      arith,
      length-append (record_blocks M rs j) (block_of M (suc j) rs (7 * j) c),
      length-blocks M rs s j (omega arith),
      length-block M (suc j) rs (7 * j) c s (next-bounds (length rs - 7 * j)).0 (omega (arith, (next-bounds (length rs - 7 * j)).1)),
    )

pub length-encode : (F : Form) (n : ℕ) (rs : List Record) → length F.after ≤ 492 → Sized rs → length (encode F n rs) ≡ 512 * (1 + blocks_for (length rs))
unfolding encode
length-encode F n rs h s =
    omega (
      arith,
      length-append (head_of F n (length rs)) (record_blocks F.modulus rs (blocks_for (length rs))),
      length-head F n (length rs) h,
      length-blocks F.modulus rs s (blocks_for (length rs)) (omega arith),
    )

-- a row closed as a block, made the head, and one that is neither
module _ (M : ℕ) (row : List ℕ) (j c : ℕ) where
  pub closed_is : length row ≡ 512 → c ≤ 7 → closed M row j c ≡ block_with M j c (part row 8 (68 * c))
  unfolding closed
  closed_is h l = rw (both_true _ _ (eq-eqb _ _ h) (le-leb c 7 l))

  pub closed-short : (length row ≡ 512 → ⊥) → closed M row j c ≡ row
  unfolding closed
  closed-short h = rw (both-false-left (eqb (length row) 512) (leb c 7) (ne_eqb _ _ h))

  pub closed-full : 7 < c → closed M row j c ≡ row
  unfolding closed
  closed-full l = rw (both-false-right (eqb (length row) 512) (leb c 7) (lt-leb c 7 l))

-- closed over the records of a list, it is their block
pub closed-records : (M : ℕ) (row : List ℕ) (j : ℕ) (rs : List Record) (a c : ℕ) → length row ≡ 512 → c ≤ 7 → part row 8 (68 * c) ≡ records_bytes rs a c → closed M row j c ≡ block_of M j rs a c
closed-records M row j rs a c h l e = closed_is M row j c h l ∙ ap (block_with M j c) e

module _ (F : Form) (row : List ℕ) (n m : ℕ) where
  pub headed-is : length row ≡ 512 → headed F row n m ≡ head_of F n m
  unfolding headed
  headed-is h = rw (eq-eqb _ _ h)

  pub headed-short : (length row ≡ 512 → ⊥) → headed F row n m ≡ row
  unfolding headed
  headed-short h = rw (ne_eqb _ _ h)

-- the first records by a rule
pub length-records_to : (f : ℕ → Record) (m : ℕ) → length (records_to f m) ≡ m
unfolding records_to
length-records_to f zero = refl
length-records_to f (suc m) = omega (arith, length-append (records_to f m) (f m ∷ []), length-records_to f m)

pub records_to-at : (f : ℕ → Record) (m p : ℕ) → p < m → get_or (records_to f m) p none ≡ f p
unfolding records_to
records_to-at f zero p h = absurd (not-suc-le-zero h)
records_to-at f (suc m) p h =
    ⊎_elim
    (λ (e : p ≡ m). rw e (get_or_at (records_to f m) (f m) [] none m (length-records_to f m)))
    (λ (l : p < m). get_or-append (records_to f m) (f m ∷ []) none p (omega (arith, length-records_to f m)) ∙ records_to-at f m p l)
    (eq-or-lt_of_le (le_of_suc-le-suc h))
