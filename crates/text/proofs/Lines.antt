-- Laws of whole lines: each answer's text piece by piece, and that no line is longer than `most`.
use mathlib.Core.Path.{◌≡◌, refl, sym}
use mathlib.Core.List.{List, [], ◌∷◌, ◌++◌, append_assoc}
use Prim.Native.Nat.{ℕ, ◌+◌, ◌≤◌, ◌<◌}
use native.Mathlib.Omega.{arith}
use lib.ListN.{length, length-append}
use borrow.Author.Tests.{leb-true}
use mathlib.Core.Bool.{true, false}
use Rattle.laws.specs.Bytes.{splice, fits}
use Rattle.tracker.specs.Answer.{Said, ok, wait, moved, read, done, same, no, says}
use Rattle.tracker.specs.declared.Answer.{Answer}
use Rattle.tracker.specs.declared.Transfers.{Transfers}
use Rattle.tracker.specs.declared.Answer.TheVariants.{Accepted, Wait, Moved, Read, Done, Same, No}
use Rattle.wording.specs.Text.{digits, places, decimal, hex, turns, said_text, Narrow, transfers_text, gains, Few, answer_line, line_text, most, line_in}
use Rattle.wording.proofs.Numbers.{length_digits, length-decimal, places-8, places-16, places-64}
use Rattle.laws.proofs.Writes.{splice-none}
use Rattle.text.specs.declared.Line.{Line}
use Rattle.text.specs.Line.{Room, Puts, PutsIn}
use Rattle.text.proofs.Writes.{puts-then}

-- `read V turns K`, in three pieces
module _ (a b c d : Line) (v k : ℕ) where
  word : List ℕ
  word = 114 ∷ 101 ∷ 97 ∷ 100 ∷ 32 ∷ []

  pub read_is : Room a (20 + places k) → Puts a b (114 ∷ 101 ∷ 97 ∷ 100 ∷ 32 ∷ []) → Puts b c (digits 16 8 v)
      → Puts c d ((32 ∷ 116 ∷ 117 ∷ 114 ∷ 110 ∷ 115 ∷ 32 ∷ []) ++ decimal k) → Puts a d (said_text (read v k))
  unfolding word said_text hex turns
  read_is h e f g =
      puts-then a c d (word ++ digits 16 8 v) _ (omega (arith, length_digits 16 8 v)) (puts-then a b c word (digits 16 8 v) (omega arith) e f) g

-- what each answer says
module _ (answer : Answer) where
  pub says-ok : answer ≡ Accepted → said_text (says answer) ≡ 111 ∷ 107 ∷ []
  unfolding said_text
  says-ok e = rw e

  pub says-wait : answer ≡ Wait → said_text (says answer) ≡ 119 ∷ 97 ∷ 105 ∷ 116 ∷ []
  unfolding said_text
  says-wait e = rw e

  pub says-moved : answer ≡ Moved → said_text (says answer) ≡ 109 ∷ 111 ∷ 118 ∷ 101 ∷ 100 ∷ []
  unfolding said_text
  says-moved e = rw e

  pub says-read : (v k x y : ℕ) → answer ≡ Read x y → v ≡ x → k ≡ y → said_text (says answer) ≡ said_text (read v k)
  says-read v k x y e f g = rw (e, f, g)

  pub says-done : (k y : ℕ) → answer ≡ Done y → k ≡ y → said_text (says answer) ≡ (100 ∷ 111 ∷ 110 ∷ 101 ∷ 32 ∷ 116 ∷ 117 ∷ 114 ∷ 110 ∷ 115 ∷ 32 ∷ []) ++ decimal k
  unfolding said_text turns
  says-done k y e f = rw (e, f)

  pub says_same : (k y : ℕ) → answer ≡ Same y → k ≡ y → said_text (says answer) ≡ (115 ∷ 97 ∷ 109 ∷ 101 ∷ 32 ∷ 116 ∷ 117 ∷ 114 ∷ 110 ∷ 115 ∷ 32 ∷ []) ++ decimal k
  unfolding said_text turns
  says_same k y e f = rw (e, f)

  pub says-no : (c y : ℕ) → answer ≡ No y → c ≡ y → said_text (says answer) ≡ (110 ∷ 111 ∷ 32 ∷ []) ++ decimal c
  unfolding said_text
  says-no c y e f = rw (e, f)

  -- a text t that is put is what the answer says
  pub said_put : (a b : Line) (t : List ℕ) → said_text (says answer) ≡ t → length t ≤ 25 → Puts a b t → PutsIn 25 a b (said_text (says answer))
  said_put a b t e l f = rw e (f, l)

pub length-read : (v k : ℕ) → length (said_text (read v k)) ≡ 20 + places k
unfolding said_text hex turns
length-read v k = simp (length-append, length_digits, length-decimal) (omega arith)

-- ` in I out O`, in two pieces: i and o are the transfers' sums
module _ (a b c : Line) (t : Transfers) (i o : ℕ) where
  pub transfers-is : Room a 15 → (i ≡ t.fetched) × (i < 256) → (o ≡ t.back) × (o < 256) → Puts a b ((32 ∷ 105 ∷ 110 ∷ 32 ∷ []) ++ decimal i)
      → Puts b c ((32 ∷ 111 ∷ 117 ∷ 116 ∷ 32 ∷ []) ++ decimal o) → PutsIn 15 a c (transfers_text t)
  unfolding transfers_text
  transfers-is h gi go e f =
      rw (← gi.0, ← go.0) (
        puts-then a b c ((32 ∷ 105 ∷ 110 ∷ 32 ∷ []) ++ decimal i) _ (omega (arith, length-decimal i, places-8 i gi.1)) e f,
        omega (arith, length-append (decimal i) ((32 ∷ 111 ∷ 117 ∷ 116 ∷ 32 ∷ []) ++ decimal o), length-decimal i, length-decimal o, places-8 i gi.1, places-8 o go.1),
      )

-- what each answer gains
module _ (answer : Answer) (t : Transfers) where
  pub gains-ok : answer ≡ Accepted → gains (says answer) t ≡ []
  unfolding gains
  gains-ok e = rw e

  pub gains-wait : answer ≡ Wait → gains (says answer) t ≡ []
  unfolding gains
  gains-wait e = rw e

  pub gains-moved : answer ≡ Moved → gains (says answer) t ≡ []
  unfolding gains
  gains-moved e = rw e

  pub gains-read : (v k : ℕ) → answer ≡ Read v k → gains (says answer) t ≡ transfers_text t
  unfolding gains
  gains-read v k e = rw e

  pub gains-done : (k : ℕ) → answer ≡ Done k → gains (says answer) t ≡ transfers_text t
  unfolding gains
  gains-done k e = rw e

  pub gains-same : (k : ℕ) → answer ≡ Same k → gains (says answer) t ≡ transfers_text t
  unfolding gains
  gains-same k e = rw e

  pub gains-no : (c : ℕ) → answer ≡ No c → gains (says answer) t ≡ []
  unfolding gains
  gains-no c e = rw e

  -- nothing is put
  pub gains-none : (a : Line) → gains (says answer) t ≡ [] → PutsIn 15 a a (gains (says answer) t)
  gains-none a e = rw e ((sym (splice-none a.out.now a.at), omega arith, refl), omega arith)

  -- the transfers are put
  pub gains-put : (a b : Line) → gains (says answer) t ≡ transfers_text t → PutsIn 15 a b (transfers_text t) → PutsIn 15 a b (gains (says answer) t)
  gains-put a b e f = rw e f

-- what is said, then what it gains
pub answer-is : (a b c : Line) (answer : Answer) (t : Transfers) → Room a 40 → PutsIn 25 a b (said_text (says answer))
    → PutsIn 15 b c (gains (says answer) t) → PutsIn 40 a c (said_text (says answer) ++ gains (says answer) t)
answer-is a b c answer t h e f = (
  puts-then a b c (said_text (says answer)) _ (omega (arith, e.1)) e.0 f.0,
  simp length-append (omega (arith, e.1, f.1)),
)

-- a line in four pieces, the text of the answer the third
module _ (a b c d e : Line) (k : ℕ) (said : Said) (t : Transfers) where
  pieces : ((decimal k ++ (32 ∷ [])) ++ (said_text said ++ gains said t)) ++ (10 ∷ []) ≡ line_text k said t
  unfolding line_text answer_line
  pieces = simp append_assoc

  pub line-is : Room a most → k < 18446744073709551616 → Puts a b (decimal k) → Puts b c (32 ∷ []) → PutsIn 40 c d (said_text said ++ gains said t)
      → Puts d e (10 ∷ []) → Puts a e (line_text k said t)
  line-is h r f g s n =
      let l : length (decimal k) ≤ 20 = omega (arith, length-decimal k, places-64 k r) in
      let l2 : length (decimal k ++ (32 ∷ [])) ≤ 21 = simp length-append (omega arith) in
      let l3 : length ((decimal k ++ (32 ∷ [])) ++ (said_text said ++ gains said t)) ≤ 61 = omega (arith, length-append (decimal k ++ (32 ∷ [])) (said_text said ++ gains said t), l2, s.1) in
      let p : Puts a c (decimal k ++ (32 ∷ [])) = puts-then a b c (decimal k) (32 ∷ []) (omega arith) f g in
      let q : Puts a d ((decimal k ++ (32 ∷ [])) ++ (said_text said ++ gains said t)) = puts-then a c d (decimal k ++ (32 ∷ [])) _ (omega arith) p s.0 in
      rw (← pieces) (puts-then a d e ((decimal k ++ (32 ∷ [])) ++ (said_text said ++ gains said t)) (10 ∷ []) (omega arith) q n)

-- where there is room, and where there is none
pub room_is : (m : List ℕ) (a : ℕ) → fits m a most ≡ true → a + most ≤ length m
unfolding fits
room_is m a h = leb-true _ _ h

module _ (m : List ℕ) (a k : ℕ) (said : Said) (t : Transfers) where
  pub room : fits m a most ≡ true → line_text k said t ≡ line_in m a k said t
  unfolding line_in
  room h = rw h

  no_line : fits m a most ≡ false → line_in m a k said t ≡ []
  unfolding line_in
  no_line h = rw h

  pub no_room : fits m a most ≡ false → (m ≡ splice m a (line_in m a k said t)) × (a ≡ a + length (line_in m a k said t))
  no_room h = rw (no_line h) (sym (splice-none m a), omega arith)

-- no answer says more than 25 bytes and gains more than 15, and no line is longer than `most`
pub said-≤ : (said : Said) → Narrow said → length (said_text said) ≤ 25
unfolding said_text turns
said-≤ ok n = omega arith
said-≤ wait n = omega arith
said-≤ moved n = omega arith
said-≤ (read v k) n = omega (arith, length-read v k, places-16 k n)
said-≤ (done k) n = omega (arith, length-decimal k, places-16 k n)
said-≤ (same k) n = omega (arith, length-decimal k, places-16 k n)
said-≤ (no c) n = omega (arith, length-decimal c, places-8 c n)

pub transfers-≤ : (t : Transfers) → Few t → length (transfers_text t) ≤ 15
unfolding transfers_text
transfers-≤ t n =
    simp length-append (omega (arith, length-decimal t.fetched, length-decimal t.back, places-8 t.fetched n.0, places-8 t.back n.1))

pub gains-≤ : (said : Said) (t : Transfers) → Few t → length (gains said t) ≤ 15
unfolding gains
gains-≤ ok t n = omega arith
gains-≤ wait t n = omega arith
gains-≤ moved t n = omega arith
gains-≤ (read v k) t n = transfers-≤ t n
gains-≤ (done k) t n = transfers-≤ t n
gains-≤ (same k) t n = transfers-≤ t n
gains-≤ (no c) t n = omega arith

pub line-≤ : (k : ℕ) (said : Said) (t : Transfers) → k < 18446744073709551616 → Narrow said → Few t → length (line_text k said t) ≤ most
unfolding line_text answer_line
line-≤ k said t h n w = simp length-append (omega (arith, length-decimal k, places-64 k h, said-≤ said n, gains-≤ said t w))
