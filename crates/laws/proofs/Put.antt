-- Laws of writes that fit, of writes that do not, and of parts that were lent.
use mathlib.Core.Path.{◌≡◌, ap, sym, ◌∙◌}
use mathlib.Core.List.{List}
use mathlib.Core.Logic.{⊎_elim}
use Prim.Native.Nat.{ℕ, ◌+◌, ◌-◌, ◌≤◌, ◌<◌}
use native.Mathlib.Omega.{arith}
use borrow.Rule.Slice.PartMut.{put_mid}
use borrow.Author.Tests.{le-leb, lt-leb}
use lib.ListN.{length, take, drop, length-take, length-drop}
use lib.Seq.{drop-drop}
use Rattle.laws.specs.Bytes.{splice, part, fits, put_w}
use Rattle.laws.proofs.Splice.{length-splice, lt-or-ge}

-- a part `&s[a..a + n]`, as the borrow checker has it
pub part-is : (m : List ℕ) (a n : ℕ) → take (a + n - a) (drop a m) ≡ part m a n
unfolding part
part-is m a n = let e : a + n - a ≡ n = omega arith in rw e

pub length_part : (m : List ℕ) (a n : ℕ) → a + n ≤ length m → length (part m a n) ≡ n
unfolding part
length_part m a n h = simp (length-take, length-drop) (omega arith)

-- a part `&mut s[a..a + n]` that comes back as b. The length is what the call kept
pub splice-is : (m : List ℕ) (a n : ℕ) {y b : List ℕ} → a + n ≤ length m → y ≡ b → length y ≡ length (take (a + n - a) (drop a m)) → put_mid a (a + n - a) m y ≡ splice m a b
unfolding splice
splice-is m a n {y} {b} r e k =
    let f : a + n - a ≡ n = omega arith in
    let h : length b ≡ n = ap length (sym e) ∙ k ∙ ap length (part-is m a n) ∙ length_part m a n r in
    rw (e, f, h, drop-drop n a m)

pub put_w-fits : (w : ℕ) (m : List ℕ) (a : ℕ) (b : List ℕ) → a + w ≤ length m → put_w w m a b ≡ splice m a b
unfolding put_w fits
put_w-fits w m a b h = rw (le-leb _ _ h)

pub put_w-not : (w : ℕ) (m : List ℕ) (a : ℕ) (b : List ℕ) → length m < a + w → put_w w m a b ≡ m
unfolding put_w fits
put_w-not w m a b h = rw (lt-leb _ _ h)

pub put_w-is : (m : List ℕ) (a n : ℕ) {y b : List ℕ} → a + n ≤ length m → y ≡ b → length y ≡ length (take (a + n - a) (drop a m)) → put_mid a (a + n - a) m y ≡ put_w n m a b
put_w-is m a n {y} {b} r e k = splice-is m a n r e k ∙ sym (put_w-fits n m a b r)

pub length-put_w : (w : ℕ) (m : List ℕ) (a : ℕ) (b : List ℕ) → length b ≡ w → length (put_w w m a b) ≡ length m
length-put_w w m a b e = ⊎_elim (λ (h : length m < a + w). ap length (put_w-not w m a b h))
    (λ (h : a + w ≤ length m). ap length (put_w-fits w m a b h) ∙ length-splice m a b (omega arith)) (lt-or-ge (length m) (a + w))
