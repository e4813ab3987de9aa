-- Laws of text put into a row: digit by digit, and one text after another.
use mathlib.Core.Path.{◌≡◌, ap, refl, sym, ◌∙◌}
use mathlib.Core.List.{List, ◌++◌}
use Prim.Native.Nat.{ℕ, suc, ◌+◌, ◌-◌, ◌/◌, ◌%◌, ◌^◌, ◌≤◌}
use native.Mathlib.Omega.{arith}
use borrow.Author.Tests.{le-leb, leb-true}
use lib.Dec.{leb}
use lib.ListN.{length, set, take, drop, length-append}
use Rattle.laws.specs.Bytes.{splice}
use Rattle.laws.proofs.Choice.{same_truth}
use Rattle.laws.proofs.Writes.{splice-none, splice-cons, splice-then}
use Rattle.laws.proofs.Put.{part-is, length_part}
use Rattle.laws.proofs.Splice.{length-splice}
use Rattle.laws.proofs.Stores.{splice_all}
use Rattle.wording.specs.Text.{digit_text, digits}
use Rattle.wording.proofs.Numbers.{length_digits, no-digits, digit-more}
use Rattle.text.specs.declared.Line.{Line}
use Rattle.text.specs.Line.{Room, Puts}

-- what room is left after a text: the row keeps its length
pub room-after : (a b : Line) (t : List ℕ) (n : ℕ) → Room a (length t + n) → Puts a b t → Room b n
room-after a b t n h e =
    let l : length b.out.now ≡ length a.out.now = rw e.0 (length-splice a.out.now a.at t (omega arith)) in
    omega (arith, e.1, l)

-- a part `&mut s[a..a + n]`, as the borrow checker has it, is n long
pub length_mid : (m : List ℕ) (a n : ℕ) → a + n ≤ length m → length (take (a + n - a) (drop a m)) ≡ n
length_mid m a n h = ap length (part-is m a n) ∙ length_part m a n h

-- one text after another
pub puts-then : (a b c : Line) (t u : List ℕ) → Room a (length t) → Puts a b t → Puts b c u → Puts a c (t ++ u)
puts-then a b c t u h e f = (
  f.0 ∙ rw (e.0, e.1) (splice-then a.out.now a.at t u (a.at + length t) refl h),
  simp length-append (omega (arith, e.1, f.1)),
  f.2 ∙ e.2,
)

-- digits from the last to the first
module _ (m : List ℕ) (base w v left : ℕ) where
  pub digits-none : left ≡ w → m ≡ splice m left (digits base (w - left) v)
  digits-none e = rw (no-digits base v (w - left) (omega arith)) (sym (splice-none m left))

  pub digits_more : (j rest d : ℕ) → left ≡ suc j → left ≤ w → w ≤ length m → rest ≡ v / base ^ (w - left) → d ≡ digit_text (rest % base)
      → set (splice m left (digits base (w - left) v)) j d ≡ splice m j (digits base (w - j) v)
  digits_more j rest d q l h e f =
      let p : w - j ≡ suc (w - left) = omega arith in
      let g : suc j + length (digits base (w - suc j) v) ≤ length m = omega (arith, length_digits base (w - suc j) v) in
      rw (p, f, ← digit-more base v (w - left) rest e, q) (splice-cons m j (digit_text (rest % base)) (digits base (w - suc j) v) g)

  pub digits-all : left ≡ 0 → w ≡ length m → splice m left (digits base (w - left) v) ≡ digits base w v
  digits-all e f =
      let j : w - 0 ≡ w = omega arith in
      rw (e, j) (splice_all m (digits base w v) (omega (arith, length_digits base w v)))

-- a + n in l, told by what is left of l
pub leb_minus : (a n l : ℕ) → n ≤ l → leb a (l - n) ≡ leb (a + n) l
leb_minus a n l h = same_truth _ _
    (λ t. let q : a ≤ l - n = leb-true _ _ t in le-leb (a + n) l (omega arith))
    (λ t. let q : a + n ≤ l = leb-true _ _ t in le-leb a (l - n) (omega arith))
